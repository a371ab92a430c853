-- A fact table means a set of facts for each set number: h s f says whether set s holds fact f.
use Rattle.std.specs.Prelude.{◌≡◌, ℕ, zero, suc, ◌+◌, ◌-◌, ◌*◌, ◌<◌, ◌≤◌, ◌⊎◌, Bool, true, false, cond, ◌&&◌, List, filter, Some, None, Option, nat_lt}
use Rattle.std.specs.List.{range_with_len}

-- Sets and facts have numbers below 4,608. A set number above 4,607 gets no and none, whatever h says there, and so does a fact.
abbrev pub holds : (ℕ → ℕ → Bool) → ℕ → ℕ → Bool
holds h s f = nat_lt s 4608 && (nat_lt f 4608 && h s f)

-- Fact f of set s has the number 4,608 s + f; past the numbers of sets and facts there is none.
abbrev pub MemberNumbered : ℕ → ℕ → Option ℕ → Type 0
MemberNumbered s f None = (4608 ≤ s) ⊎ (4608 ≤ f)
MemberNumbered s f (Some n) = (s < 4608) × (f < 4608) × (n ≡ 4608 * s + f)

-- the first of the n numbers from `from` on that p takes, or none (shut, since n may be thousands)
unfoldable pub first_of : (ℕ → Bool) → ℕ → ℕ → Option ℕ
first_of p from zero = None
first_of p from (suc n) = cond (p from) (Some from) (first_of p (suc from) n)

-- all of them that p takes, in rising order (shut as well)
unfoldable pub all_of : (ℕ → Bool) → ℕ → ℕ → List ℕ
all_of p from n = filter p (range_with_len from n)

-- The smallest fact of set s from a given number on, or none.
abbrev pub next_of : (ℕ → ℕ → Bool) → ℕ → ℕ → Option ℕ
next_of h s from = first_of (holds h s) from (4608 - from)

-- the same by what it says of other numbers
abbrev pub Smallest : (ℕ → Bool) → ℕ → Option ℕ → Type 0
Smallest p from None = (k : ℕ) → from ≤ k → p k ≡ false
Smallest p from (Some f) = (from ≤ f) × (p f ≡ true) × ((k : ℕ) → from ≤ k → k < f → p k ≡ false)

-- The answer of next: an equation, and what a caller's proof takes from it.
pub record Next (h : ℕ → ℕ → Bool) (s from : ℕ) (r : Option ℕ) : Type 0 where
  pub answer : r ≡ next_of h s from
  pub smallest : Smallest (holds h s) from r

-- Every fact of set a is in set b.
abbrev pub Within : (ℕ → ℕ → Bool) → ℕ → ℕ → Type 0
Within h a b = (f : ℕ) → holds h a f ≡ true → holds h b f ≡ true
