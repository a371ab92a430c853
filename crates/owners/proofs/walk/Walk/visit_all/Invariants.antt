use Rattle.std.proofs.Common.{◌≡◌, suc}
use Rattle.terms.specs.Model.{model}
use Rattle.owners.specs.Model.{open_scopes}
use Rattle.owners.specs.Scoping.{scopes_at}
use Rattle.owners.specs.Walking.{GoesOn}
use Rattle.owners.proofs.Noting.{BothNoted}
use Rattle.owners.proofs.walk.Walk.visit_all.Given as goal

abbrev pub invariant-loop-label : goal.invariant-loop-label
invariant-loop-label g l =
    (open_scopes l.self.scopes ≡ scopes_at (model l.self.program.now) (suc l.label))
    × GoesOn l.initial.self l.self
    × BothNoted (model l.initial.self.program.now) l.label l.owners l.captured
