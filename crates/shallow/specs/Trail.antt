-- Bindings kept as cells, one for each variable, and a trail of what was covered, newest first.
use Rattle.std.specs.Prelude.{ℕ, Bool, true, not, ◌&&◌, List, [], ◌∷◌, is_some, Some, None, Option, nat_le, slice_index_or, slice_set}
use Rattle.stores.specs.declared.binding.Binding.{Binding}
use Rattle.shallow.specs.declared.saved.Saved.{Saved}
use Rattle.stores.specs.Stack.{Stacked, capacity_of}
use Rattle.stores.specs.Meaning.{Meaning}

-- the binding of x that a cell holds, in front of bs
abbrev pub ahead : {T : Type 0} → ℕ → Option (T × ℕ) → List (Binding T) → List (Binding T)
ahead x None bs = bs
ahead x (Some p) bs = record { variable = x; thing = p.0; birthplace = p.1 } ∷ bs

-- The newest binding is in its variable's cell; the others show once what it covered is put back.
unfoldable pub unwind : {T : Type 0} → List (Option (T × ℕ)) → List (Saved T) → List (Binding T)
unwind cells [] = []
unwind cells (s ∷ ss) =
    ahead s.variable (slice_index_or cells s.variable None) (unwind (slice_set cells s.variable s.covered) ss)

abbrev pub vacant : {X : Type 0} → List (Option X) → Bool
vacant [] = true
vacant (o ∷ os) = not (is_some o) && vacant os

-- Each record of the trail is of a variable whose cell is full; with the whole trail put back, every cell is empty.
unfoldable pub sound : {T : Type 0} → List (Option (T × ℕ)) → List (Saved T) → Bool
sound cells [] = vacant cells
sound cells (s ∷ ss) =
    nat_le s.variable 31
    && (is_some (slice_index_or cells s.variable None) && sound (slice_set cells s.variable s.covered) ss)

-- what cells, a trail and a top level mean
abbrev pub unwound : {T : Type 0} → List (Option (T × ℕ)) → Stacked (Saved T) → List (Option T) → Meaning T
unwound cells trail top = record { bindings = unwind cells trail.items; top = top; limit = capacity_of trail }
