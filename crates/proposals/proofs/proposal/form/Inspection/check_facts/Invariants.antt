use Rattle.std.proofs.Common.{◌≡◌, ℕ, ◌<◌, None}
use Rattle.proposals.specs.Model.{script, inspected}
use Rattle.proposals.specs.DueForm.{wrong_fact}
use Rattle.proposals.proofs.proposal.form.Inspection.check_facts.Given as goal

abbrev pub invariant-loop-set : goal.invariant-loop-set
invariant-loop-set g l = (k : ℕ) → k < l.set → wrong_fact (script l.self) (inspected g.F.Facts.members l.self) k ≡ None
