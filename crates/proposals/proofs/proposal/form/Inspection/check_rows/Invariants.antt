use Rattle.std.proofs.Common.{◌≡◌, ℕ, ◌<◌, true}
use Rattle.proposals.specs.Model.{script, inspected}
use Rattle.proposals.specs.DueForm.{row_right}
use Rattle.proposals.proofs.proposal.form.Inspection.check_rows.Given as goal

abbrev pub invariant-loop-row : goal.invariant-loop-row
invariant-loop-row g l = (k : ℕ) → k < l.row → row_right (script l.self) (inspected g.F.Facts.members l.self) k ≡ true
