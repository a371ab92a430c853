-- The tables of a proposal as they are lent.
use Rattle.std.specs.Prelude.{ℕ, ◌+◌, ◌*◌, ◌/◌, Bool, cond, ◌&&◌, List, length, None, Option, ◌==◌, nat_eq, nat_lt, slice_index}
use Rattle.facts.specs.Table.{holds, first_of}
use Rattle.facts.specs.Words.{bit}
use Rattle.proposals.specs.Counting.{every}

-- what each set of the fact table holds; the rows, one behind the other; the masks by label
pub record Tables : Type 0 where
  pub members : ℕ → ℕ → Bool
  pub rows : List ℕ
  pub masks : List ℕ

-- a set holds a fact
abbrev pub in_set : Tables → ℕ → ℕ → Bool
in_set t s f = holds t.members s f

-- A context is a row of 32 birthplaces, one for each variable: how many there are, and what row k has at x. Past the end of memory and past the 32 all is 0.
unfoldable pub contexts : Tables → ℕ
contexts t = length t.rows / 32

unfoldable pub entry : Tables → ℕ → ℕ → ℕ
entry t k x = cond (nat_lt x 32) (slice_index t.rows (32 * k + x)) 0

-- Bit k of the 16 of mask l says that the pair (l, k) is listed; what has no mask is not listed.
unfoldable pub listed : Tables → ℕ → ℕ → Bool
listed t l k = nat_lt k 16 && bit (slice_index t.masks l) k

-- rows j and k are equal
unfoldable pub same_rows : Tables → ℕ → ℕ → Bool
same_rows t j k = every 32 (λ x. nat_eq (entry t j x) (entry t k x))

-- row k with b put at x, its entry at y
abbrev pub entry_with : Tables → ℕ → ℕ → ℕ → ℕ → ℕ
entry_with t k x b y = cond (x == y) b (entry t k y)

-- row j is row k with b put at x
unfoldable pub extends : Tables → ℕ → ℕ → ℕ → ℕ → Bool
extends t k x b j = every 32 (λ y. nat_eq (entry t j y) (entry_with t k x b y))

-- k[x:b]: the row that is row k with b put at x, if there is one; none where there is no row k or no place x
unfoldable pub extension : Tables → ℕ → ℕ → ℕ → Option ℕ
extension t k x b = cond (nat_lt k (contexts t) && nat_lt x 32) (first_of (extends t k x b) 0 (contexts t)) None
