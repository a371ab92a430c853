use Rattle.std.proofs.Common.{◌≡◌, ℕ, ◌<◌, true}
use Rattle.proposals.specs.Model.{script, inspected}
use Rattle.proposals.specs.DueForm.{mask_right}
use Rattle.proposals.proofs.proposal.form.Inspection.check_masks.Given as goal

abbrev pub invariant-loop-label : goal.invariant-loop-label
invariant-loop-label g l = (k : ℕ) → k < l.label → mask_right (script l.self) (inspected g.F.Facts.members l.self) k ≡ true
