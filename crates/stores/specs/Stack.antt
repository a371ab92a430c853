-- A stack in lent memory: what it holds, and what each call answers and leaves.
use Rattle.std.specs.Prelude.{ℕ, ◌+◌, zero, suc, List, [], ◌∷◌, length, slice_set, Ok, Err, Result}
use Rattle.faults.specs.declared.fault.Fault.{Fault}
use Rattle.faults.specs.declared.fault.Fault.TheVariants.{StoreFull, StoreEmpty}

-- The items, newest first, and how many places of the memory are free.
pub record Stacked (R : Type 0) : Type 0 where
  pub items : List R
  pub free : ℕ

-- How many items it has room for.
abbrev pub capacity_of : {R : Type 0} → Stacked R → ℕ
capacity_of s = length s.items + s.free

-- A new stack over n places.
abbrev pub new_stack : (R : Type 0) → ℕ → Stacked R
new_stack R n = record { items = []; free = n }

abbrev pub pushed : {R : Type 0} → List R → ℕ → R → Result (Unit {0}) Fault × Stacked R
pushed rs zero r = (Err StoreFull, record { items = rs; free = 0 })
pushed rs (suc n) r = (Ok tt, record { items = r ∷ rs; free = n })

-- Push puts an item in front, or is refused where no place is free. A refused call changes nothing.
abbrev pub push_of : {R : Type 0} → Stacked R → R → Result (Unit {0}) Fault × Stacked R
push_of s r = pushed s.items s.free r

abbrev pub popped : {R : Type 0} → List R → ℕ → Result R Fault × Stacked R
popped [] n = (Err StoreEmpty, record { items = []; free = n })
popped (r ∷ rs) n = (Ok r, record { items = rs; free = suc n })

-- Pop takes the newest item off, or is refused where there is none.
abbrev pub pop_of : {R : Type 0} → Stacked R → Result R Fault × Stacked R
pop_of s = popped s.items s.free

-- Set changes the item at i, counted from the newest, if there is one.
abbrev pub set_of : {R : Type 0} → Stacked R → ℕ → R → Stacked R
set_of s i r = record { items = slice_set s.items i r; free = s.free }
