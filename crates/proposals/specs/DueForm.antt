-- A proposal in due form for a script, or the first thing that is wrong with it.
use Rattle.std.specs.Prelude.{ℕ, ◌%◌, Bool, true, cond, not, ◌&&◌, ◌||◌, length, is_some, Some, None, Ok, Err, Option, Result, ◌==◌, nat_eq, nat_le, nat_lt}
use Rattle.std.specs.Option.{unwrap_or}
use Rattle.faults.specs.declared.fault.Fault.{Fault}
use Rattle.faults.specs.declared.fault.Fault.TheVariants.{WrongRow, WrongMask, WrongFact, MemoryLength}
use Rattle.terms.specs.Script.{Script, last, term, binds, binds_variable, is_body, cons_operands}
use Rattle.facts.specs.declared.numbering.Fact.{Fact}
use Rattle.facts.specs.declared.numbering.Fact.TheVariants as fact
use Rattle.facts.specs.Table.{first_of}
use Rattle.facts.specs.Numbering.{number_fact, function_fact, pair_fact}
use Rattle.proposals.specs.Counting.{every, some}
use Rattle.proposals.specs.Tables.{Tables, in_set, contexts, entry, listed, same_rows}

-- 1 to 16 rows of 32 numbers, and 256 masks
abbrev pub memory_right : Tables → Bool
memory_right t = length t.rows % 32 == 0 && (nat_le 1 (contexts t) && (nat_le (contexts t) 16 && length t.masks == 256))

-- Row 0 is all zero.
abbrev pub zero_row : Tables → ℕ → Bool
zero_row t k = every 32 (λ x. nat_eq (entry t k x) 0)

-- Each entry is 0 or a binder of that variable.
abbrev pub entry_right : Script → Tables → ℕ → ℕ → Bool
entry_right p t k x = entry t k x == 0 || binds_variable (binds p (entry t k x)) x

abbrev pub entries_right : Script → Tables → ℕ → Bool
entries_right p t k = every 32 (entry_right p t k)

-- No row equals an earlier one.
abbrev pub new_row : Tables → ℕ → Bool
new_row t k = every k (λ j. not (same_rows t j k))

abbrev pub row_right : Script → Tables → ℕ → Bool
row_right p t k = (nat_lt 0 k || zero_row t k) && (entries_right p t k && new_row t k)

-- Listed pairs have a label of the script and one of the rows.
abbrev pub may_list : Script → Tables → ℕ → ℕ → Bool
may_list p t l k = nat_le 1 l && (nat_le l (last p) && nat_lt k (contexts t))

abbrev pub mask_right : Script → Tables → ℕ → Bool
mask_right p t l = every 16 (λ k. not (listed t l k) || may_list p t l k)

-- A fact is 'a number', or it names a symbol, a function body, or a cons term and a row of the proposal.
abbrev pub names_function : Script → ℕ → Bool
names_function p f = some 256 (λ g. is_body p g && function_fact g == f)

abbrev pub names_pair : Script → Tables → ℕ → Bool
names_pair p t f = some 256 (λ c. is_some (cons_operands (term p c)) && some (contexts t) (λ k. nat_eq (pair_fact c k) f))

abbrev pub fact_right : Script → Tables → ℕ → Bool
fact_right p t f = f == number_fact || (nat_lt f p.symbols || (names_function p f || names_pair p t f))

-- the same for a fact told by its kind
abbrev pub names : Script → Tables → Fact → Bool
names p t (fact.Symbol s) = nat_lt s p.symbols
names p t fact.Number = true
names p t (fact.Function g) = is_body p g
names p t (fact.Pair c k) = nat_lt k (contexts t) && is_some (cons_operands (term p c))

-- the first fact of set s that is not right
unfoldable pub wrong_fact : Script → Tables → ℕ → Option ℕ
wrong_fact p t s = first_of (λ f. in_set t s f && not (fact_right p t f)) 0 4608

-- a refusal with the place of the first wrong thing, if there is one
abbrev pub refused_at : (ℕ → Fault) → Option ℕ → Result (Unit {0}) Fault
refused_at fault None = Ok tt
refused_at fault (Some i) = Err (fault i)

abbrev pub memory_verdict : Tables → Result (Unit {0}) Fault
memory_verdict t = cond (memory_right t) (Ok tt) (Err MemoryLength)

unfoldable pub rows_verdict : Script → Tables → Result (Unit {0}) Fault
rows_verdict p t = refused_at WrongRow (first_of (λ k. not (row_right p t k)) 0 (contexts t))

unfoldable pub masks_verdict : Script → Tables → Result (Unit {0}) Fault
masks_verdict p t = refused_at WrongMask (first_of (λ l. not (mask_right p t l)) 0 256)

unfoldable pub facts_verdict : Script → Tables → Result (Unit {0}) Fault
facts_verdict p t = refused_at (λ s. WrongFact s (unwrap_or (wrong_fact p t s) 0)) (first_of (λ s. is_some (wrong_fact p t s)) 0 4608)

-- the first refusal of two that are tried in order
abbrev pub before : Result (Unit {0}) Fault → Result (Unit {0}) Fault → Result (Unit {0}) Fault
before (Ok u) next = next
before (Err e) next = Err e

-- Memory first, then the rows, the masks and the facts, each in order.
unfoldable pub due_form : Script → Tables → Result (Unit {0}) Fault
due_form p t = before (memory_verdict t) (before (rows_verdict p t) (before (masks_verdict p t) (facts_verdict p t)))
