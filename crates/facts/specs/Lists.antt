-- The list table: up to 8,191 rising numbers 4,608 × set + fact, each below 21,233,664 = 4,608 × 4,608.
use Rattle.std.specs.Prelude.{ℕ, ◌+◌, ◌-◌, ◌*◌, ◌<◌, ◌≤◌, Bool, false, cond, not, ◌&&◌, ◌||◌, List, [], ◌∷◌, length, Some, None, Ok, Err, Option, Result, ◌==◌, nat_lt, slice_index}
use Rattle.faults.specs.declared.fault.Fault.{Fault}
use Rattle.faults.specs.declared.fault.Fault.TheVariants.{MemoryLength, ListOrder}
use Rattle.facts.specs.Table.{first_of}

-- n stands in the list
abbrev pub among : ℕ → List ℕ → Bool
among n [] = false
among n (x ∷ xs) = x == n || among n xs

-- Set s holds fact f exactly when 4,608 s + f stands in the list.
abbrev pub in_list : List ℕ → ℕ → ℕ → Bool
in_list ns s f = among (4608 * s + f) ns

-- Number i is in range and above the one before it.
abbrev pub in_order : List ℕ → ℕ → Bool
in_order ns i = nat_lt (slice_index ns i) 21233664 && (i == 0 || nat_lt (slice_index ns (i - 1)) (slice_index ns i))

abbrev pub first_wrong : Option ℕ → Result (Unit {0}) Fault
first_wrong None = Ok tt
first_wrong (Some i) = Err (ListOrder i)

-- A list of more than 8,191 numbers is refused; else one with a number that is not in order, with the index of the first such number.
abbrev pub list_rule : List ℕ → Result (Unit {0}) Fault
list_rule ns = cond (nat_lt 8191 (length ns)) (Err MemoryLength) (first_wrong (first_of (λ i. not (in_order ns i)) 0 (length ns)))

-- each number is above those before it
abbrev pub Rises : List ℕ → Type 0
Rises ns = (i j : ℕ) → i < j → j < length ns → slice_index ns i < slice_index ns j

-- i is the place of the first number that is not below n
pub record Place (ns : List ℕ) (n i : ℕ) : Type 0 where
  pub inside : i ≤ length ns
  pub below : (k : ℕ) → k < i → slice_index ns k < n
  pub above : (k : ℕ) → i ≤ k → k < length ns → n ≤ slice_index ns k
