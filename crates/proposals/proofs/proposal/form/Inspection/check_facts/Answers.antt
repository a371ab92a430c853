use Rattle.std.proofs.Common.{arith}
use Rattle.proposals.proofs.Verdicts.{facts_wrong, facts_right}
use Rattle.proposals.proofs.proposal.form.Inspection.check_facts.Goals as goal

pub returns-in-Some : goal.returns-in-Some
returns-in-Some g c = facts_wrong _ _ _ _ c.loop-set-test.true c.in-Some.ensures c.loop-set.invariant

pub returns : goal.returns
returns g c = facts_right _ _ (λ s l. c.loop-set.invariant s (omega arith))
