-- Which binders are marked: those whose bindings no one but their own occurrences can see, so that a frame may keep them.
use Rattle.std.specs.Prelude.{◌≡◌, ℕ, Bool, true, false, cond, not, ◌&&◌, ◌||◌, ◌↔◌, List, map, length, Some, None, Option, ◌==◌, slice_index}
use Rattle.std.specs.List.{range_with_len}
use Rattle.terms.specs.Script.{Script, term, binds, binds_variable, occurs}
use Rattle.terms.specs.WellFormed.{WellFormed}
use Rattle.owners.specs.Owners.{owner, captured}
use Rattle.proposals.specs.Counting.{every}
use Rattle.proposals.specs.Tables.{Tables, entry, listed}
use Rattle.proposals.specs.Laws.{DueForm}

-- Binder b of x is marked exactly when no occurrence that it owns is captured, and no listed pair (l, k), where l is an occurrence of x and
-- row k has b at x, has an owner other than b.
pub record Marked (p : Script) (t : Tables) (b : ℕ) : Type 0 where
  pub variable : ℕ
  pub binder : binds p b ≡ Some variable
  pub uncaptured : (l : ℕ) → owner p l ≡ b → captured p l ≡ false
  pub owned : (l k : ℕ) → listed t l k ≡ true → occurs (term p l) ≡ Some variable → entry t k variable ≡ b → owner p l ≡ b

-- no occurrence that b owns is captured
unfoldable pub keeps_own : Script → ℕ → Bool
keeps_own p b = every 256 (λ l. not (owner p l == b) || not (captured p l))

-- (l, k) is listed, l is an occurrence of x, and row k has b at x
abbrev pub sees : Script → Tables → ℕ → ℕ → ℕ → ℕ → Bool
sees p t b x l k = listed t l k && (binds_variable (occurs (term p l)) x && entry t k x == b)

-- whoever sees a binding of x that b made is owned by b
unfoldable pub seen_by_own : Script → Tables → ℕ → ℕ → Bool
seen_by_own p t b x = every 256 (λ l. every 16 (λ k. not (sees p t b x l k) || owner p l == b))

abbrev pub marked_as : Script → Tables → ℕ → Option ℕ → Bool
marked_as p t b None = false
marked_as p t b (Some x) = keeps_own p b && seen_by_own p t b x

-- the rule as it is tried
unfoldable pub marked : Script → Tables → ℕ → Bool
marked p t b = marked_as p t b (binds p b)

abbrev pub mark_byte : Script → Tables → ℕ → ℕ
mark_byte p t b = cond (marked p t b) 1 0

-- 256 bytes, 1 at each marked binder, else 0
unfoldable pub marks_of : Script → Tables → List ℕ
marks_of p t = map (mark_byte p t) (range_with_len 0 256)

-- What is tried is the rule, for every well-formed script and all tables in due form;
abbrev pub MarksExact : Type 0
MarksExact = (p : Script) → WellFormed p → (t : Tables) → DueForm p t → (b : ℕ) → (marked p t b ≡ true) ↔ Marked p t b

-- and the bytes tell it, at every label.
pub record MarksTold (p : Script) (t : Tables) : Type 0 where
  pub size : length (marks_of p t) ≡ 256
  pub bytes : (b : ℕ) → slice_index (marks_of p t) b ≡ mark_byte p t b

abbrev pub MarksBytes : Type 0
MarksBytes = (p : Script) → WellFormed p → (t : Tables) → MarksTold p t
