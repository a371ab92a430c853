-- Worked scripts: what the definitions say of them and of tables that are proposed for them.
use Rattle.std.specs.Prelude.{◌≡◌, ℕ, Bool, true, false, ◌&&◌, ◌||◌, List, [], ◌∷◌, ◌++◌, replicate, Ok, Err, ◌==◌}
use Rattle.faults.specs.declared.fault.Fault.TheVariants.{UnmetClause}
use Rattle.terms.specs.declared.term.Term.{Term}
use Rattle.terms.specs.declared.term.Term.TheVariants.{Number, Quote, Cons, Car, Cdr}
use Rattle.terms.specs.Script.{Script}
use Rattle.terms.specs.Examples.{dynamic, closure}
use Rattle.terms.specs.WellFormed.{WellFormed}
use Rattle.owners.specs.Owners.{owner, captured}
use Rattle.facts.specs.Numbering.{symbol_fact, number_fact, function_fact, pair_fact, flow_set, top_set, bound_set}
use Rattle.proposals.specs.Tables.{Tables}
use Rattle.proposals.specs.Model.{lent}
use Rattle.clauses.specs.Verdict.{check_of}
use Rattle.clauses.specs.Acceptance.{Accepted}
use Rattle.clauses.specs.Marks.{Marked, marked}

-- a fact table written as the list of its sets' facts
abbrev pub among : List (ℕ × ℕ) → ℕ → ℕ → Bool
among [] s f = false
among (q ∷ qs) s f = (q.0 == s && q.1 == f) || among qs s f

abbrev pub proposed : List (ℕ × ℕ) → List ℕ → List ℕ → Tables
proposed facts rows masks = lent (among facts) rows masks

-- ---- the dynamic script
-- the facts but for those of C(2, 2)
abbrev pub facts_around : List (ℕ × ℕ)
facts_around =
    (flow_set 4 1, function_fact 2)
    ∷ (top_set 3, function_fact 2)
    ∷ (flow_set 5 1, symbol_fact 0)
    ∷ (bound_set 2, symbol_fact 0)
    ∷ (top_set 2, number_fact)
    ∷ (bound_set 6, number_fact)
    ∷ (flow_set 1 0, number_fact)
    ∷ (flow_set 3 0, number_fact)
    ∷ (flow_set 6 1, number_fact)
    ∷ (flow_set 7 0, number_fact)
    ∷ []

abbrev pub all_facts : List (ℕ × ℕ)
all_facts = (flow_set 2 2, number_fact) ∷ facts_around

-- row 0 is all zero; row 1 has 6 at x
abbrev pub two_rows : List ℕ
two_rows = replicate 32 0 ++ (0 ∷ 0 ∷ 6 ∷ replicate 29 0)

-- and row 2 has 6 at x and 2 at y
abbrev pub three_rows : List ℕ
three_rows = two_rows ++ (0 ∷ 0 ∷ 6 ∷ 0 ∷ 2 ∷ replicate 27 0)

-- masks from label 0 on, where (1, 0) (3, 0) (4, 1) (5, 1) (6, 1) are listed, and for labels 2 and 7 what is given
abbrev pub masks_with : ℕ → ℕ → List ℕ
masks_with two seven = 0 ∷ 1 ∷ two ∷ 1 ∷ 2 ∷ 2 ∷ 2 ∷ seven ∷ replicate 248 0

-- (2, 2) and (7, 0) are listed too
unfoldable pub dynamic_tables : Tables
dynamic_tables = proposed all_facts three_rows (masks_with 4 1)

-- ---- (car (cons 1 (quote nil))), or cdr
unfoldable pub half_of : (ℕ → Term) → Script
half_of half = record { terms = Number 1 ∷ Quote 0 ∷ Cons 1 2 ∷ half 3 ∷ []; symbols = 2; definitions = [] }

-- the tables that are right for car
unfoldable pub half_tables : Tables
half_tables =
    proposed ((flow_set 1 0, number_fact) ∷ (flow_set 2 0, symbol_fact 0) ∷ (flow_set 3 0, pair_fact 3 0) ∷ (flow_set 4 0, number_fact) ∷ []) (replicate 32 0)
    (0 ∷ 1 ∷ 1 ∷ 1 ∷ 1 ∷ replicate 251 0)

pub record Worked : Type 0 where
  -- all that is asked of a script and of tables can be met
  pub formed : WellFormed dynamic
  pub passed : check_of dynamic dynamic_tables ≡ Ok tt
  pub accepted : Accepted dynamic dynamic_tables
  -- f's parameter is marked; the x of the let, which f sees, is not
  pub parameter_tried : marked dynamic dynamic_tables 2 ≡ true
  pub parameter_marked : Marked dynamic dynamic_tables 2
  pub let_unmarked : marked dynamic dynamic_tables 6 ≡ false
  -- C(2, 2) is emptied: what x has does not flow
  pub emptied : check_of dynamic (proposed facts_around three_rows (masks_with 4 1)) ≡ Err (UnmetClause 0 2 2 6)
  -- row 2 and (2, 2) are gone: no context for the call
  pub no_context : check_of dynamic (proposed all_facts two_rows (masks_with 0 1)) ≡ Err (UnmetClause 0 6 1 3)
  -- f's body is listed in the context of its definition, and not in that of its call
  pub misplaced : check_of dynamic (proposed ((flow_set 2 0, number_fact) ∷ all_facts) three_rows (masks_with 1 1)) ≡ Err (UnmetClause 0 6 1 4)
  -- (7, 0) is not listed: the entry, counted after two definitions
  pub unlisted : check_of dynamic (proposed all_facts three_rows (masks_with 4 0)) ≡ Err (UnmetClause 3 0 0 1)
  pub closure_owner : owner closure 2 ≡ 3
  pub closure_captured : captured closure 2 ≡ true
  -- whatever is proposed
  pub closure_unmarked : (t : Tables) → marked closure t 3 ≡ false
  -- nil, the second half, is not among what the tables say of the result
  pub first_half : check_of (half_of Car) half_tables ≡ Ok tt
  pub second_half : check_of (half_of Cdr) half_tables ≡ Err (UnmetClause 0 4 0 6)
