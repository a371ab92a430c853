-- The worked scripts, by computing.
use Rattle.std.proofs.Common.{◌≡◌, true, false, ◌∷◌, Ok, Err, Result, refl, ◌∙◌}
use Rattle.faults.specs.declared.fault.Fault.{Fault}
use Rattle.faults.specs.declared.fault.Fault.TheVariants.{UnmetClause}
use Rattle.terms.specs.declared.term.Term.TheVariants.{Car, Cdr}
use Rattle.terms.specs.Script.{Script, last, term_at, first_at, spans, binds, parameter}
use Rattle.terms.specs.Form.{term_right, well_formed}
use Rattle.terms.specs.WellFormed.{WellFormed}
use Rattle.terms.proofs.Formed.{facts_of}
use Rattle.facts.specs.Table.{first_of}
use Rattle.owners.specs.Owners.{least, some_of, owner, captured}
use Rattle.proposals.specs.Counting.{every}
use Rattle.proposals.specs.Tables.{Tables, contexts, entry, listed, extends, extension}
use Rattle.proposals.specs.DueForm.{due_form}
use Rattle.proposals.proofs.Laws.{due_since}
use Rattle.clauses.specs.Clauses.{each_fact}
use Rattle.clauses.specs.Verdict.{is_within, in_turn, verdict, check_of}
use Rattle.clauses.specs.Marks.{keeps_own, seen_by_own, marked}
use Rattle.terms.specs.Examples.{dynamic, closure}
use Rattle.clauses.specs.Worked.{proposed, facts_around, all_facts, two_rows, three_rows, masks_with, dynamic_tables, half_of, half_tables, Worked}
use Rattle.clauses.proofs.Counts.{before_next}
use Rattle.clauses.specs.Acceptance.{Accepted}
use Rattle.clauses.proofs.Verdicts.{check_accepts}
use Rattle.clauses.proofs.Marking.{marks_exact}
use Rattle.clauses.proofs.Form as form

well : well_formed dynamic ≡ true
unfolding dynamic well_formed term_right first_at term_at
well = refl

pub formed : WellFormed dynamic
formed = facts_of dynamic well

passed : verdict dynamic dynamic_tables ≡ Ok tt
unfolding dynamic dynamic_tables verdict in_turn is_within each_fact every first_of contexts entry listed extends extension last term_at parameter
passed = refl

emptied : verdict dynamic (proposed facts_around three_rows (masks_with 4 1)) ≡ Err (UnmetClause 0 2 2 6)
unfolding dynamic verdict in_turn is_within each_fact every first_of contexts entry listed extends extension last term_at parameter
emptied = refl

no_context : verdict dynamic (proposed all_facts two_rows (masks_with 0 1)) ≡ Err (UnmetClause 0 6 1 3)
unfolding dynamic verdict in_turn is_within each_fact every first_of contexts entry listed extends extension last term_at parameter
no_context = refl

misplaced : verdict dynamic (proposed ((32, 32) ∷ all_facts) three_rows (masks_with 1 1)) ≡ Err (UnmetClause 0 6 1 4)
unfolding dynamic verdict in_turn is_within each_fact every first_of contexts entry listed extends extension last term_at parameter
misplaced = refl

unlisted : verdict dynamic (proposed all_facts three_rows (masks_with 4 0)) ≡ Err (UnmetClause 3 0 0 1)
unfolding dynamic verdict in_turn is_within each_fact every first_of contexts entry listed extends extension last term_at parameter
unlisted = refl

first_half : verdict (half_of Car) half_tables ≡ Ok tt
unfolding half_of half_tables verdict in_turn is_within each_fact every first_of contexts entry listed extends extension last term_at parameter
first_half = refl

second_half : verdict (half_of Cdr) half_tables ≡ Err (UnmetClause 0 4 0 6)
unfolding half_of half_tables verdict in_turn is_within each_fact every first_of contexts entry listed extends extension last term_at parameter
second_half = refl

pub parameter_tried : marked dynamic dynamic_tables 2 ≡ true
unfolding dynamic dynamic_tables marked keeps_own seen_by_own every entry listed owner captured least some_of spans first_at last term_at binds parameter
parameter_tried = refl

pub let_unmarked : marked dynamic dynamic_tables 6 ≡ false
unfolding dynamic dynamic_tables marked keeps_own seen_by_own every entry listed owner captured least some_of spans first_at last term_at binds parameter
let_unmarked = refl

pub closure_owner : owner closure 2 ≡ 3
unfolding closure owner captured least some_of spans first_at last term_at binds parameter
closure_owner = refl

pub closure_captured : captured closure 2 ≡ true
unfolding closure owner captured least some_of spans first_at last term_at binds parameter
closure_captured = refl

pub closure_unmarked : (t : Tables) → marked closure t 3 ≡ false
unfolding closure marked keeps_own every owner captured least some_of spans first_at last term_at binds parameter
closure_unmarked t = refl

module _ (p : Script) (t : Tables) where
  -- due form, then the verdict
  answered : (r : Result (Unit {0}) Fault) → due_form p t ≡ Ok tt → verdict p t ≡ r → check_of p t ≡ r
  answered r d v = before_next (due_form p t) (verdict p t) d ∙ v

pub accepted : Accepted dynamic dynamic_tables
accepted = (check_accepts dynamic formed dynamic_tables).0 (answered dynamic dynamic_tables (Ok tt) form.due passed)

pub worked : Worked
worked = record {
  formed = formed;
  passed = answered dynamic dynamic_tables (Ok tt) form.due passed;
  accepted = accepted;
  parameter_tried = parameter_tried;
  parameter_marked = (marks_exact dynamic formed dynamic_tables (due_since dynamic dynamic_tables form.due) 2).0 parameter_tried;
  let_unmarked = let_unmarked;
  emptied = answered dynamic (proposed facts_around three_rows (masks_with 4 1)) (Err (UnmetClause 0 2 2 6)) form.emptied_due emptied;
  no_context = answered dynamic (proposed all_facts two_rows (masks_with 0 1)) (Err (UnmetClause 0 6 1 3)) form.no_context_due no_context;
  misplaced = answered dynamic (proposed ((32, 32) ∷ all_facts) three_rows (masks_with 1 1)) (Err (UnmetClause 0 6 1 4)) form.misplaced_due misplaced;
  unlisted = answered dynamic (proposed all_facts three_rows (masks_with 4 0)) (Err (UnmetClause 3 0 0 1)) form.unlisted_due unlisted;
  closure_owner = closure_owner;
  closure_captured = closure_captured;
  closure_unmarked = closure_unmarked;
  first_half = answered (half_of Car) half_tables (Ok tt) form.first_half_due first_half;
  second_half = answered (half_of Cdr) half_tables (Err (UnmetClause 0 4 0 6)) form.second_half_due second_half;
}
