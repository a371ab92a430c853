use Rattle.std.proofs.Common.{refl}
use Rattle.proposals.specs.Tables.{contexts}
use Rattle.proposals.proofs.proposal.Proposal.contexts.Goals as goal

pub returns : goal.returns
unfolding contexts
returns g c = refl
