use Rattle.std.proofs.Common.{refl, rules, tests}
use Rattle.proposals.specs.Tables.{extends}
use Rattle.proposals.proofs.Counts.{all_in_range}
use Rattle.proposals.proofs.proposal.Proposal.extends.Goals as goal

pub returns : goal.returns
unfolding extends
returns g c = all_in_range _ c.all.new.self _ _ c.all.ensures.ran refl (λ x b q k. search (rules, tests))
