-- What a store means, and what each call answers and leaves, whatever the store is made of.
use Rattle.std.specs.Prelude.{◌≡◌, ℕ, ◌≤◌, cond, List, [], ◌∷◌, length, replicate, is_some, Some, None, Ok, Err, Option, Result, ◌==◌, nat_lt, slice_index_or, slice_set}
use Rattle.faults.specs.declared.fault.Fault.{Fault}
use Rattle.faults.specs.declared.fault.Fault.TheVariants.{NoSuchVariable, StoreFull, StoreEmpty}
use Rattle.stores.specs.declared.binding.Binding.{Binding}

-- A list of bindings, newest first, and for each variable a top-level thing or none. The limit is the number of binding records lent.
pub record Meaning (T : Type 0) : Type 0 where
  pub bindings : List (Binding T)
  pub top : List (Option T)
  pub limit : ℕ

-- Count: the length of the list.
abbrev pub count_of : {T : Type 0} → Meaning T → ℕ
count_of m = length m.bindings

-- The list never outgrows the limit, and the top level has a place for each of the variables 0 to 31.
pub record Formed {T : Type 0} (m : Meaning T) : Type 0 where
  pub room : count_of m ≤ m.limit
  pub places : length m.top ≡ 32

-- A new store over n records: no binding, and nothing at the top level.
abbrev pub new_store : (T : Type 0) → ℕ → Meaning T
new_store T n = record { bindings = []; top = replicate 32 None; limit = n }

-- Clear empties the list and the top level.
abbrev pub clear_of : {T : Type 0} → Meaning T → Meaning T
clear_of {T} m = new_store T m.limit

-- m with a new binding in front
abbrev pub bound : {T : Type 0} → Meaning T → ℕ → T → ℕ → Meaning T
bound m x t b =
    record { bindings = record { variable = x; thing = t; birthplace = b } ∷ m.bindings; top = m.top; limit = m.limit }

-- Bind puts a binding in front. It is refused if there is no such variable; else, exactly when the list is as long as the limit.
-- As everywhere, a refused call changes nothing.
abbrev pub bind_of : {T : Type 0} → Meaning T → ℕ → T → ℕ → Result (Unit {0}) Fault × Meaning T
bind_of m x t b =
    cond (nat_lt 31 x) (Err NoSuchVariable, m)
    (cond (count_of m == m.limit) (Err StoreFull, m) (Ok tt, bound m x t b))

abbrev pub unbound : {T : Type 0} → List (Binding T) → List (Option T) → ℕ → Result (Unit {0}) Fault × Meaning T
unbound [] top n = (Err StoreEmpty, record { bindings = []; top = top; limit = n })
unbound (b ∷ bs) top n = (Ok tt, record { bindings = bs; top = top; limit = n })

-- Unbind removes the newest binding, or is refused if there is none.
abbrev pub unbind_of : {T : Type 0} → Meaning T → Result (Unit {0}) Fault × Meaning T
unbind_of m = unbound m.bindings m.top m.limit

-- the thing and birthplace of the newest binding of x
abbrev pub newest : {T : Type 0} → ℕ → List (Binding T) → Option (T × ℕ)
newest x [] = None
newest x (b ∷ bs) = cond (b.variable == x) (Some (b.thing, b.birthplace)) (newest x bs)

-- a top-level thing has birthplace 0
abbrev pub outermost : {T : Type 0} → Option T → Option (T × ℕ)
outermost None = None
outermost (Some t) = Some (t, 0)

abbrev pub or_else : {X : Type 0} → Option X → Option X → Option X
or_else None o = o
or_else (Some p) o = Some p

-- what x shows: its newest binding; else its top-level thing; else nothing
abbrev pub seen : {T : Type 0} → Meaning T → ℕ → Option (T × ℕ)
seen m x = or_else (newest x m.bindings) (outermost (slice_index_or m.top x None))

-- Look answers what the variable shows.
abbrev pub look_of : {T : Type 0} → Meaning T → ℕ → Result (Option (T × ℕ)) Fault
look_of m x = cond (nat_lt 31 x) (Err NoSuchVariable) (Ok (seen m x))

-- a list with the thing of the newest binding of x replaced
abbrev pub replaced : {T : Type 0} → ℕ → T → List (Binding T) → List (Binding T)
replaced x t [] = []
replaced x t (b ∷ bs) =
    cond (b.variable == x) (record { variable = b.variable; thing = t; birthplace = b.birthplace } ∷ bs) (b ∷ replaced x t bs)

-- m with another thing for x: in its newest binding, or at the top level where it has none
abbrev pub assigned : {T : Type 0} → Meaning T → ℕ → T → Meaning T
assigned m x t =
    record {
      bindings = replaced x t m.bindings;
      top = cond (is_some (newest x m.bindings)) m.top (slice_set m.top x (Some t));
      limit = m.limit;
    }

-- Put replaces the thing that look finds; where it finds none, the top level gets it.
abbrev pub put_of : {T : Type 0} → Meaning T → ℕ → T → Result (Unit {0}) Fault × Meaning T
put_of m x t = cond (nat_lt 31 x) (Err NoSuchVariable, m) (Ok tt, assigned m x t)

abbrev pub shown_by : {T : Type 0} → Result (Unit {0}) Fault → T → ℕ → Result (Option (T × ℕ)) Fault
shown_by (Ok u) t b = Ok (Some (t, b))
shown_by (Err e) t b = Err e

-- what a variable shows while it is bound to t with birthplace b: that, or the refusal of the bind
abbrev pub shadow_of : {T : Type 0} → Meaning T → ℕ → T → ℕ → Result (Option (T × ℕ)) Fault
shadow_of m x t b = shown_by (bind_of m x t b).0 t b
