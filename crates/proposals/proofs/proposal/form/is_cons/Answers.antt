use Rattle.std.proofs.Common.{rules, tests}
use Rattle.proposals.proofs.Named.{cons_read}
use Rattle.proposals.proofs.proposal.form.is_cons.Goals as goal

pub returns : goal.returns
returns c = cons_read _ _ _ _ _ c.term.ensures c.is_some_and.ensures (λ x q. search (rules, tests))
