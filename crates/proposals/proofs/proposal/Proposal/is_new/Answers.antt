use Rattle.std.proofs.Common.{refl, rules, tests}
use Rattle.proposals.proofs.Counts.{all_in_range}
use Rattle.proposals.proofs.proposal.Proposal.is_new.Goals as goal

pub returns : goal.returns
returns g c = all_in_range _ c.all.new.self _ _ c.all.ensures.ran refl (λ x b q k. search (rules, tests))
