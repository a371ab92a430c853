-- The rule for marks as it is tried, and as it is said: the same.
use Rattle.std.proofs.Common.{◌≡◌, ℕ, zero, suc, ◌<◌, ◌≤◌, true, false, eqb, map, is_some, Some, None, Option, sym, refl, ap, ◌∙◌, inl, inr, arith}
use Rattle.std.proofs.lemmas.List.{get_or_past}
use Rattle.std.proofs.lemmas.List.FromFn.{length-map-range_with_len, get_or-map-range_with_len}
use Rattle.std.proofs.lemmas.Bool.{false_from_ne_true, and_parts, and_from, cases_lt, cond-false, both_ways, eqb-true, eq-eqb, not-true, not_from_false}
use Rattle.std.specs.List.{range_with_len}
use Rattle.terms.specs.Script.{Script, last, term_at, term, binds, binds_variable, occurs}
use Rattle.terms.specs.WellFormed.{WellFormed}
use Rattle.terms.proofs.Bound.{is_bound, bound_is}
use Rattle.terms.proofs.Nesting.{binder_label}
use Rattle.owners.specs.Owners.{owner, captured}
use Rattle.owners.proofs.Laws.{owned}
use Rattle.proposals.specs.Tables.{Tables, entry, listed}
use Rattle.proposals.specs.Laws.{DueForm}
use Rattle.proposals.proofs.Counts.{every_from, every_at}
use Rattle.clauses.specs.Marks.{Marked, keeps_own, sees, seen_by_own, marked_as, marked, mark_byte, marks_of, MarksExact, MarksTold, MarksBytes}
use Rattle.clauses.proofs.Counts.{implies_out, implies_in}

module _ (p : Script) (W : WellFormed p) where
  -- ---- past the last label nothing is an occurrence, and nothing is captured
  past : (l : ℕ) → last p < l → occurs (term p l) ≡ None
  unfolding term_at last
  past zero h = absurd (omega arith)
  past (suc l) h = ap occurs (get_or_past p.terms l _ (omega arith))

  captured_below : (l : ℕ) → captured p l ≡ true → l < 256
  captured_below l c = elim (cases_lt (last p) l) [
    | inl h ↦ absurd (((owned p W l).captures c).0 ((owned p W l).other_terms (past l h)))
    | inr h ↦ (omega (arith, W.few_terms))
  ]

  keeps_out : (b : ℕ) → keeps_own p b ≡ true → (l : ℕ) → owner p l ≡ b → captured p l ≡ false
  unfolding keeps_own
  keeps_out b e l o = false_from_ne_true (captured p l) (λ c.
      both_ways (captured p l) (not-true _ (implies_out _ _ (every_at 256 _ e l (captured_below l c)) (eq-eqb (owner p l) b o))) c)

  keeps_in : (b : ℕ) → ((l : ℕ) → owner p l ≡ b → captured p l ≡ false) → keeps_own p b ≡ true
  unfolding keeps_own
  keeps_in b h = every_from 256 _ (λ l low. implies_in _ _ (λ o. not_from_false _ (h l (eqb-true (owner p l) b o))))

  binder_below : (b x : ℕ) → binds p b ≡ Some x → b < 256
  binder_below b x e = let k = binder_label p W b (ap is_some e) in omega (arith, k.1, W.few_terms)

  module _ (t : Tables) where
    -- ---- the bytes
    unmarked_past : (b : ℕ) → 256 ≤ b → marked p t b ≡ false
    unfolding marked
    unmarked_past b h = at (binds p b) refl
      where
        at : (o : Option ℕ) → binds p b ≡ o → marked_as p t b o ≡ false
        at None e = refl
        at (Some x) e = absurd (omega (arith, binder_below b x e))

    told : MarksTold p t
    unfolding marks_of
    told = record {
      size = length-map-range_with_len (mark_byte p t) 0 256;
      bytes = λ b. (elim (cases_lt b 256) [
        | inl h ↦ (get_or-map-range_with_len (mark_byte p t) 0 256 b b 0 h (omega arith))
        | inr h ↦ (get_or_past (map (mark_byte p t) (range_with_len 0 256)) b 0 (omega (arith, length-map-range_with_len (mark_byte p t) 0 256)) ∙ sym (cond-false (marked p t b) 1 0 (unmarked_past b h)))
      ]);
    }

    module _ (D : DueForm p t) where
      seen_out : (b x : ℕ) → seen_by_own p t b x ≡ true → (l k : ℕ) → listed t l k ≡ true → occurs (term p l) ≡ Some x → entry t k x ≡ b → owner p l ≡ b
      unfolding seen_by_own
      seen_out b x e l k li oc en = eqb-true (owner p l) b (implies_out (sees p t b x l k) (eqb (owner p l) b)
          (every_at 16 _ (every_at 256 _ e l (omega (arith, (D.listed_labels l k li).1, W.few_terms))) k (omega (arith, D.listed_contexts l k li, D.few_contexts)))
          (and_from _ _ li (and_from _ _ (bound_is (occurs (term p l)) x oc) (eq-eqb (entry t k x) b en))))

      seen_in : (b x : ℕ) → ((l k : ℕ) → listed t l k ≡ true → occurs (term p l) ≡ Some x → entry t k x ≡ b → owner p l ≡ b) → seen_by_own p t b x ≡ true
      unfolding seen_by_own
      seen_in b x h = every_from 256 _ (λ l low. every_from 16 _ (λ k few. implies_in (sees p t b x l k) (eqb (owner p l) b) (λ s.
          let q = and_parts (listed t l k) _ s in
          let r = and_parts (binds_variable (occurs (term p l)) x) _ q.1 in
          eq-eqb (owner p l) b (h l k q.0 (is_bound (occurs (term p l)) x r.0) (eqb-true (entry t k x) b r.1)))))

      out_by : (b : ℕ) (o : Option ℕ) → binds p b ≡ o → marked_as p t b o ≡ true → Marked p t b
      out_by b None e h = absurd (both_ways false refl h)
      out_by b (Some x) e h =
          let q = and_parts (keeps_own p b) (seen_by_own p t b x) h in
          record { variable = x; binder = e; uncaptured = keeps_out b q.0; owned = seen_out b x q.1 }

      marked_out : (b : ℕ) → marked p t b ≡ true → Marked p t b
      unfolding marked
      marked_out b h = out_by b (binds p b) refl h

      marked_in : (b : ℕ) → Marked p t b → marked p t b ≡ true
      unfolding marked
      marked_in b M = ap (marked_as p t b) M.binder ∙ and_from _ _ (keeps_in b M.uncaptured) (seen_in b M.variable M.owned)

pub marks_exact : MarksExact
marks_exact p W t D b = (marked_out p W t D b, marked_in p W t D b)

pub marks_bytes : MarksBytes
marks_bytes p W t = told p W t
