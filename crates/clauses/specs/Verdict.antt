-- The verdict on a proposal: that every clause is met, or where the first part fails.
use Rattle.std.specs.Prelude.{ℕ, zero, suc, Bool, cond, not, ◌||◌, List, [], ◌∷◌, is_some, Ok, Err, Result}
use Rattle.faults.specs.declared.fault.Fault.{Fault}
use Rattle.faults.specs.declared.fault.Fault.TheVariants.{UnmetClause}
use Rattle.terms.specs.declared.term.Definition.{Definition}
use Rattle.terms.specs.Script.{Script, last}
use Rattle.proposals.specs.Counting.{every}
use Rattle.proposals.specs.Tables.{Tables, in_set, listed, extension}
use Rattle.proposals.specs.DueForm.{before, due_form}
use Rattle.clauses.specs.Clauses.{Need, lists, has, within, exists, Part, pair_clause, definition_clause, entry_clause}

-- every fact of set s is in set u
unfoldable pub is_within : Tables → ℕ → ℕ → Bool
is_within t s u = every 4608 (λ f. not (in_set t s f) || in_set t u f)

-- the need is met
abbrev pub meets : Tables → Need → Bool
meets t (lists l k) = listed t l k
meets t (has s f) = in_set t s f
meets t (within s u) = is_within t s u
meets t (exists k x b) = is_some (extension t k x b)

-- Parts are tried in order; the fault tells the number of the first that fails.
abbrev pub tried : Tables → (ℕ → Fault) → List Part → Result (Unit {0}) Fault
tried t fault [] = Ok tt
tried t fault (d ∷ ds) = cond (meets t d.need) (tried t fault ds) (Err (fault d.number))

-- Definitions come first, in order, numbered from 1; the entry is counted as one more. Their failures have label and context 0.
abbrev pub definitions_verdict : Script → Tables → ℕ → List Definition → Result (Unit {0}) Fault
definitions_verdict p t i [] = tried t (UnmetClause i 0 0) (entry_clause p)
definitions_verdict p t i (d ∷ ds) = before (tried t (UnmetClause i 0 0) (definition_clause d)) (definitions_verdict p t (suc i) ds)

-- A pair is tried if it is listed. Its failure has definition 0.
abbrev pub pair_verdict : Script → Tables → ℕ → ℕ → Result (Unit {0}) Fault
pair_verdict p t l k = cond (listed t l k) (tried t (UnmetClause 0 l k) (pair_clause p t l k)) (Ok tt)

-- the first refusal of v at the n numbers from i on, in turn (shut, since n may be large)
unfoldable pub in_turn : (ℕ → Result (Unit {0}) Fault) → ℕ → ℕ → Result (Unit {0}) Fault
in_turn v i zero = Ok tt
in_turn v i (suc n) = before (v i) (in_turn v (suc i) n)

-- the contexts of label l
abbrev pub label_verdict : Script → Tables → ℕ → Result (Unit {0}) Fault
label_verdict p t l = in_turn (pair_verdict p t l) 0 16

-- After the definitions come the listed pairs, by label, then context.
unfoldable pub verdict : Script → Tables → Result (Unit {0}) Fault
verdict p t = before (definitions_verdict p t 1 p.definitions) (in_turn (label_verdict p t) 1 (last p))

-- What a check of the tables answers: what is wrong with their form, then the verdict on their clauses.
abbrev pub check_of : Script → Tables → Result (Unit {0}) Fault
check_of p t = before (due_form p t) (verdict p t)
