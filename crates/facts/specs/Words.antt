-- The word table: 331,776 words of 64 bits, 72 for each of the 4,608 sets, and so a bit for each of 4,608 facts.
use Rattle.std.specs.Prelude.{◌≡◌, ℕ, ◌+◌, ◌*◌, ◌/◌, ◌%◌, ◌^◌, ◌<◌, ◌≤◌, Bool, true, false, cond, not, List, length, Option, MatchOption, Ok, Err, Result, ◌==◌, slice_index}
use Rattle.faults.specs.declared.fault.Fault.{Fault}
use Rattle.faults.specs.declared.fault.Fault.TheVariants.{MemoryLength}

-- Bit k of a word; bit 0 is worth 1.
abbrev pub bit : ℕ → ℕ → Bool
bit w k = w / 2 ^ k % 2 == 1

-- Fact f of a set is bit f mod 64 of word f / 64 of the set's words.
abbrev pub in_words : List ℕ → ℕ → ℕ → Bool
in_words ws s f = bit (slice_index ws (72 * s + f / 64)) (f % 64)

-- Any other number of words is refused.
abbrev pub word_rule : List ℕ → Result (Unit {0}) Fault
word_rule ws = cond (length ws == 331776) (Ok tt) (Err MemoryLength)

-- word w has a fact
abbrev pub filled : List ℕ → ℕ → Bool
filled ws w = not (slice_index ws w == 0)

-- the first word that has one, from a given word on and before another, or none
abbrev pub FirstFilled : List ℕ → ℕ → ℕ → Option ℕ → Type 0
FirstFilled ws from end r = MatchOption r
    ((k : ℕ) → from ≤ k → k < end → filled ws k ≡ false)
    (λ w. (from ≤ w) × (w < end) × (filled ws w ≡ true) × ((k : ℕ) → from ≤ k → k < w → filled ws k ≡ false))
