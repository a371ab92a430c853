use Rattle.std.proofs.Common.{sym, ap, ◌∙◌}
use Rattle.terms.specs.Script.{occurs}
use Rattle.terms.proofs.Lookups.{nothing_there}
use Rattle.owners.proofs.walk.occurrence.Goals as goal

pub returns-in_err-term : goal.returns-in_err-term
returns-in_err-term c = c.from_residual.ensures ∙ sym (ap occurs (nothing_there _ _ c.in_err-term.ensures))
