-- The worked tables are in due form.
use Rattle.std.proofs.Common.{◌≡◌, ℕ, true, false, not, ◌&&◌, eqb, List, [], ◌∷◌, is_some, None, Ok, Err, unwrap_or, sym, refl, ap, ◌∙◌, subst, inl, inr}
use Rattle.std.proofs.lemmas.Bool.{and_parts, and_left, and_right, or_cases, cases_Bool, cond-true, both_ways, eqb-true, not_from_true}
use Rattle.faults.specs.declared.fault.Fault.TheVariants.{WrongFact, MemoryLength}
use Rattle.terms.specs.Script.{Script, last, term_at, binds, parameter}
use Rattle.terms.specs.declared.term.Term.TheVariants.{Car, Cdr}
use Rattle.facts.specs.Table.{first_of}
use Rattle.facts.specs.Numbering.{symbol_fact, number_fact, pair_fact, flow_set}
use Rattle.facts.proofs.Firsts.{holds_parts, first_none}
use Rattle.proposals.specs.Counting.{every, some}
use Rattle.proposals.specs.Tables.{Tables, in_set, contexts, entry, listed, same_rows}
use Rattle.proposals.specs.DueForm.{memory_right, fact_right, wrong_fact, refused_at, rows_verdict, masks_verdict, facts_verdict, before, due_form}
use Rattle.terms.specs.Examples.{dynamic}
use Rattle.clauses.specs.Worked.{among, proposed, facts_around, all_facts, two_rows, three_rows, masks_with, dynamic_tables, half_of, half_tables}

-- what holds of each fact in the list holds of every fact of the table
abbrev Each : (ℕ → Type 0) → List (ℕ × ℕ) → Type 0
Each P [] = Unit {0}
Each P (q ∷ qs) = P q.1 × Each P qs

each_among : (P : ℕ → Type 0) (qs : List (ℕ × ℕ)) (s f : ℕ) → Each P qs → among qs s f ≡ true → P f
each_among P [] s f h e = absurd (both_ways false refl e)
each_among P (q ∷ qs) s f h e = elim (or_cases (eqb q.0 s && eqb q.1 f) (among qs s f) e) [
  | inl i ↦ (subst P (eqb-true q.1 f (and_parts (eqb q.0 s) (eqb q.1 f) i).1) h.0)
  | inr i ↦ (each_among P qs s f h.1 i)
]

module _ (p : Script) (t : Tables) (qs : List (ℕ × ℕ)) (is : t.members ≡ among qs) (right : Each (λ f. fact_right p t f ≡ true) qs) where
  no_wrong : (s f : ℕ) → (in_set t s f && not (fact_right p t f)) ≡ false
  no_wrong s f = elim (cases_Bool (in_set t s f)) [
    | inl h ↦ (and_right (in_set t s f) _ (not_from_true _ (each_among (λ f. fact_right p t f ≡ true) qs s f right (sym (ap (λ m. m s f) is) ∙ (holds_parts t.members s f h).2))))
    | inr h ↦ (and_left (in_set t s f) _ h)
  ]

  none_wrong : (s : ℕ) → wrong_fact p t s ≡ None
  unfolding wrong_fact
  none_wrong s = sym (first_none (λ f. in_set t s f && not (fact_right p t f)) 0 4608 (λ f low high. no_wrong s f))

  facts_pass : facts_verdict p t ≡ Ok tt
  unfolding facts_verdict
  facts_pass = ap (refused_at (λ s. WrongFact s (unwrap_or (wrong_fact p t s) 0))) (sym (first_none (λ s. is_some (wrong_fact p t s)) 0 4608 (λ s low high. ap is_some (none_wrong s))))

  passes : memory_right t ≡ true → rows_verdict p t ≡ Ok tt → masks_verdict p t ≡ Ok tt → due_form p t ≡ Ok tt
  unfolding due_form
  passes m r k =
      ap (λ o. before o (before (rows_verdict p t) (before (masks_verdict p t) (facts_verdict p t)))) (cond-true (memory_right t) (Ok tt) (Err MemoryLength) m)
      ∙ ap (λ o. before o (before (masks_verdict p t) (facts_verdict p t))) r
      ∙ ap (λ o. before o (facts_verdict p t)) k
      ∙ facts_pass

pub due : due_form dynamic dynamic_tables ≡ Ok tt
unfolding dynamic dynamic_tables rows_verdict masks_verdict first_of every some same_rows contexts entry listed last term_at binds parameter
due = passes dynamic dynamic_tables all_facts refl (refl, (refl, (refl, (refl, (refl, (refl, (refl, (refl, (refl, (refl, (refl, tt))))))))))) refl refl refl

pub emptied_due : due_form dynamic (proposed facts_around three_rows (masks_with 4 1)) ≡ Ok tt
unfolding dynamic rows_verdict masks_verdict first_of every some same_rows contexts entry listed last term_at binds parameter
emptied_due =
    passes dynamic (proposed facts_around three_rows (masks_with 4 1)) facts_around refl (refl, (refl, (refl, (refl, (refl, (refl, (refl, (refl, (refl, (refl, tt)))))))))) refl refl refl

pub no_context_due : due_form dynamic (proposed all_facts two_rows (masks_with 0 1)) ≡ Ok tt
unfolding dynamic rows_verdict masks_verdict first_of every some same_rows contexts entry listed last term_at binds parameter
no_context_due =
    passes dynamic (proposed all_facts two_rows (masks_with 0 1)) all_facts refl (refl, (refl, (refl, (refl, (refl, (refl, (refl, (refl, (refl, (refl, (refl, tt))))))))))) refl refl refl

pub misplaced_due : due_form dynamic (proposed ((flow_set 2 0, number_fact) ∷ all_facts) three_rows (masks_with 1 1)) ≡ Ok tt
unfolding dynamic rows_verdict masks_verdict first_of every some same_rows contexts entry listed last term_at binds parameter
misplaced_due =
    passes dynamic (proposed ((flow_set 2 0, number_fact) ∷ all_facts) three_rows (masks_with 1 1)) ((flow_set 2 0, number_fact) ∷ all_facts) refl
    (refl, (refl, (refl, (refl, (refl, (refl, (refl, (refl, (refl, (refl, (refl, (refl, tt)))))))))))) refl refl refl

pub unlisted_due : due_form dynamic (proposed all_facts three_rows (masks_with 4 0)) ≡ Ok tt
unfolding dynamic rows_verdict masks_verdict first_of every some same_rows contexts entry listed last term_at binds parameter
unlisted_due =
    passes dynamic (proposed all_facts three_rows (masks_with 4 0)) all_facts refl (refl, (refl, (refl, (refl, (refl, (refl, (refl, (refl, (refl, (refl, (refl, tt))))))))))) refl refl refl

half_facts : List (ℕ × ℕ)
half_facts = (flow_set 1 0, number_fact) ∷ (flow_set 2 0, symbol_fact 0) ∷ (flow_set 3 0, pair_fact 3 0) ∷ (flow_set 4 0, number_fact) ∷ []

pub first_half_due : due_form (half_of Car) half_tables ≡ Ok tt
unfolding half_of half_tables half_facts rows_verdict masks_verdict first_of every some same_rows contexts entry listed last term_at binds parameter
first_half_due = passes (half_of Car) half_tables half_facts refl (refl, (refl, (refl, (refl, tt)))) refl refl refl

pub second_half_due : due_form (half_of Cdr) half_tables ≡ Ok tt
unfolding half_of half_tables half_facts rows_verdict masks_verdict first_of every some same_rows contexts entry listed last term_at binds parameter
second_half_due = passes (half_of Cdr) half_tables half_facts refl (refl, (refl, (refl, (refl, tt)))) refl refl refl
