use Rattle.std.proofs.Common.{◌≡◌, length}
use Rattle.terms.specs.Model.{model}
use Rattle.owners.specs.Model.{open_scopes}
use Rattle.owners.specs.Scoping.{left_at}
use Rattle.owners.specs.Walking.{GoesOn}
use Rattle.owners.proofs.walk.Walk.leave.Given as goal

abbrev pub invariant-loop-scope : goal.invariant-loop-scope
invariant-loop-scope g l =
    (left_at (model l.self.program.now) l.label (open_scopes l.initial.self.scopes) ≡ left_at (model l.self.program.now) l.label (open_scopes l.self.scopes))
    × GoesOn l.initial.self l.self

abbrev pub decreases-loop-scope : goal.decreases-loop-scope
decreases-loop-scope g l = length l.self.scopes.items
