-- Needs and parts as they are tried, and as they are said: the same.
use Rattle.std.proofs.Common.{◌≡◌, ℕ, ◌<◌, true, false, not, ◌&&◌, ◌||◌, ltb, List, [], ◌∷◌, ◌++◌, is_some, Some, None, Ok, Err, Option, sym, refl, ap, ◌∙◌, inl, inr, arith}
use Rattle.std.proofs.lemmas.Bool.{and_parts, and_from, cases_eq, cases_lt, cases_Bool, cond-true, cond-false, both_ways, ltb-true, lt-ltb, eqb-true, eq-eqb, ne_eqb}
use Rattle.faults.specs.declared.fault.Fault.{Fault}
use Rattle.terms.specs.Script.{Script}
use Rattle.facts.specs.Table.{first_of}
use Rattle.facts.proofs.Firsts.{holds_parts, none_first}
use Rattle.proposals.specs.Counting.{every}
use Rattle.proposals.specs.Tables.{Tables, in_set, contexts, entry, same_rows, entry_with, extends, extension}
use Rattle.proposals.specs.Laws.{DueForm}
use Rattle.proposals.proofs.Counts.{every_from, every_at}
use Rattle.proposals.proofs.Memory.{entry_past}
use Rattle.clauses.specs.Clauses.{Need, lists, has, within, exists, Part, part}
use Rattle.clauses.specs.Verdict.{is_within, meets, tried}
use Rattle.clauses.specs.Acceptance.{Subset, Extends, Met, AllMet, FirstUnmet}
use Rattle.clauses.proofs.Counts.{implies_out, implies_in, none_some, some_first, ok_err, err_same}

module _ (t : Tables) where
  -- ---- one set within another
  subset_below : (n s u : ℕ) → every n (λ f. not (in_set t s f) || in_set t u f) ≡ true → (f : ℕ) → f < n → in_set t s f ≡ true → in_set t u f ≡ true
  subset_below n s u e f low h = implies_out _ _ (every_at n _ e f low) h

  pub subset_out : (s u : ℕ) → is_within t s u ≡ true → Subset t s u
  unfolding is_within
  subset_out s u e f h = subset_below 4608 s u e f (holds_parts t.members s f h).1 h

  pub subset_in : (s u : ℕ) → Subset t s u → is_within t s u ≡ true
  unfolding is_within
  subset_in s u h = every_from 4608 _ (λ f low. implies_in _ _ (h f))

  -- ---- a row with another birthplace put at a variable
  with_put : (k x b : ℕ) → entry_with t k x b x ≡ b
  with_put k x b = cond-true _ _ _ (eq-eqb x x refl)

  with_kept : (k x b y : ℕ) → (y ≡ x → ⊥) → entry_with t k x b y ≡ entry t k y
  with_kept k x b y d = cond-false _ _ _ (ne_eqb x y (λ e. d (sym e)))

  extends_at : (k x b j : ℕ) → extends t k x b j ≡ true → (y : ℕ) → y < 32 → entry t j y ≡ entry_with t k x b y
  unfolding extends
  extends_at k x b j e y low = eqb-true _ _ (every_at 32 _ e y low)

  at_extends : (k x b j : ℕ) → ((y : ℕ) → y < 32 → entry t j y ≡ entry_with t k x b y) → extends t k x b j ≡ true
  unfolding extends
  at_extends k x b j h = every_from 32 _ (λ y low. eq-eqb _ _ (h y low))

  row_from : (k x b j : ℕ) → k < contexts t → x < 32 → j < contexts t → extends t k x b j ≡ true → Extends t k x b j
  row_from k x b j hk hx hj e = record {
    row = hk;
    variable = hx;
    extended = hj;
    put = extends_at k x b j e x hx ∙ with_put k x b;
    kept = λ y d. (elim (cases_lt y 32) [
      | inl low ↦ (extends_at k x b j e y low ∙ with_kept k x b y d)
      | inr past ↦ (sym (entry_past t j y past) ∙ entry_past t k y past)
    ]);
  }

  from_row : (k x b j : ℕ) → Extends t k x b j → extends t k x b j ≡ true
  from_row k x b j r = at_extends k x b j (λ y low. elim (cases_eq y x) [
    | inl e ↦ (ap (entry t j) e ∙ r.put ∙ sym (with_put k x b) ∙ ap (entry_with t k x b) (sym e))
    | inr d ↦ (r.kept y d ∙ sym (with_kept k x b y d))
  ])

  pub extension_row : (k x b j : ℕ) → extension t k x b ≡ Some j → Extends t k x b j
  unfolding extension
  extension_row k x b j e = elim (cases_Bool (ltb k (contexts t) && ltb x 32)) [
    | inl q ↦ (let a = and_parts (ltb k (contexts t)) (ltb x 32) q in
        let r = some_first (extends t k x b) 0 (contexts t) j (sym (cond-true _ _ _ q) ∙ e) in
        row_from k x b j (ltb-true _ _ a.0) (ltb-true _ _ a.1) (omega (arith, r.1)) r.2)
    | inr q ↦ (absurd (none_some (sym (cond-false (ltb k (contexts t) && ltb x 32) (first_of (extends t k x b) 0 (contexts t)) None q) ∙ e)))
  ]

  -- where there is such a row, one is found
  pub row_extension : (k x b j : ℕ) → Extends t k x b j → extension t k x b ≡ None → ⊥
  unfolding extension
  row_extension k x b j r e =
      let q : (ltb k (contexts t) && ltb x 32) ≡ true = and_from _ _ (lt-ltb _ _ r.row) (lt-ltb _ _ r.variable) in
      both_ways (extends t k x b j) (none_first (extends t k x b) 0 (contexts t) (sym (sym (cond-true _ _ _ q) ∙ e)) j (omega arith) (omega (arith, r.extended))) (from_row k x b j r)

  some_row : (k x b : ℕ) (o : Option ℕ) → extension t k x b ≡ o → is_some o ≡ true → (j : ℕ) × Extends t k x b j
  some_row k x b None e h = absurd (both_ways false refl h)
  some_row k x b (Some j) e h = (j, extension_row k x b j e)

  row_some : (k x b j : ℕ) (o : Option ℕ) → extension t k x b ≡ o → Extends t k x b j → is_some o ≡ true
  row_some k x b j None e r = absurd (row_extension k x b j r e)
  row_some k x b j (Some i) e r = refl

  -- ---- needs
  pub meets_out : (d : Need) → meets t d ≡ true → Met t d
  meets_out (lists l k) e = e
  meets_out (has s f) e = e
  meets_out (within s u) e = subset_out s u e
  meets_out (exists k x b) e = some_row k x b (extension t k x b) refl e

  pub meets_in : (d : Need) → Met t d → meets t d ≡ true
  meets_in (lists l k) h = h
  meets_in (has s f) h = h
  meets_in (within s u) h = subset_in s u h
  meets_in (exists k x b) h = row_some k x b h.0 (extension t k x b) refl h.1

  -- ---- parts in order
  module _ (fault : ℕ → Fault) where
    pub tried_ok : (ds : List Part) → tried t fault ds ≡ Ok tt → AllMet t ds
    tried_ok [] e = tt
    tried_ok (d ∷ ds) e = elim (cases_Bool (meets t d.need)) [
      | inl q ↦ (meets_out d.need q, tried_ok ds (sym (cond-true (meets t d.need) (tried t fault ds) (Err (fault d.number)) q) ∙ e))
      | inr q ↦ (absurd (ok_err (sym e ∙ cond-false (meets t d.need) (tried t fault ds) (Err (fault d.number)) q)))
    ]

    pub ok_tried : (ds : List Part) → AllMet t ds → tried t fault ds ≡ Ok tt
    ok_tried [] h = refl
    ok_tried (d ∷ ds) h = cond-true (meets t d.need) (tried t fault ds) (Err (fault d.number)) (meets_in d.need h.0) ∙ ok_tried ds h.1

    pub record Tried (ds : List Part) (f : Fault) : Type 0 where
      pub number : ℕ
      pub fails : f ≡ fault number
      pub first : FirstUnmet t ds number

    pub tried_err : (ds : List Part) (f : Fault) → tried t fault ds ≡ Err f → Tried ds f
    tried_err [] f e = absurd (ok_err e)
    tried_err (d ∷ ds) f e = elim (cases_Bool (meets t d.need)) [
      | inl q ↦ (let r = tried_err ds f (sym (cond-true (meets t d.need) (tried t fault ds) (Err (fault d.number)) q) ∙ e) in record {
        number = r.number;
        fails = r.fails;
        first = record {
          earlier = d ∷ r.first.earlier;
          need = r.first.need;
          later = r.first.later;
          parts = ap (λ (es : List Part). d ∷ es) r.first.parts;
          met = (meets_out d.need q, r.first.met);
          unmet = r.first.unmet;
        };
      })
      | inr q ↦ (record {
        number = d.number;
        fails = err_same (sym e ∙ cond-false (meets t d.need) (tried t fault ds) (Err (fault d.number)) q);
        first = record { earlier = []; need = d.need; later = ds; parts = refl; met = tt; unmet = λ h. both_ways (meets t d.need) q (meets_in d.need h) };
      })
    ]

    refused_at : (n : ℕ) (es : List Part) (d : Need) (ls : List Part) → AllMet t es → (Met t d → ⊥) → tried t fault (es ++ (part n d ∷ ls)) ≡ Err (fault n)
    refused_at n [] d ls h u = elim (cases_Bool (meets t d)) [
      | inl q ↦ absurd (u (meets_out d q))
      | inr q ↦ (cond-false (meets t d) (tried t fault ls) (Err (fault n)) q)
    ]
    refused_at n (e ∷ es) d ls h u =
        cond-true (meets t e.need) (tried t fault (es ++ (part n d ∷ ls))) (Err (fault e.number)) (meets_in e.need h.0) ∙ refused_at n es d ls h.1 u

    pub err_tried : (ds : List Part) (n : ℕ) → FirstUnmet t ds n → tried t fault ds ≡ Err (fault n)
    err_tried ds n r = ap (tried t fault) r.parts ∙ refused_at n r.earlier r.need r.later r.met r.unmet

-- ---- no two rows are equal, so it is the row that is found
module _ (p : Script) (t : Tables) (D : DueForm p t) where
  same : (i j : ℕ) → ((y : ℕ) → entry t i y ≡ entry t j y) → same_rows t i j ≡ true
  unfolding same_rows
  same i j h = every_from 32 _ (λ y low. eq-eqb _ _ (h y))

  not_twice : (i j : ℕ) → i < j → j < contexts t → ((y : ℕ) → entry t i y ≡ entry t j y) → ⊥
  not_twice i j lt low h = both_ways (same_rows t i j) (D.apart i j lt low) (same i j h)

  rows_equal : (k x b i j : ℕ) → Extends t k x b i → Extends t k x b j → (y : ℕ) → entry t i y ≡ entry t j y
  rows_equal k x b i j r s y = elim (cases_eq y x) [
    | inl e ↦ (ap (entry t i) e ∙ r.put ∙ sym s.put ∙ ap (entry t j) (sym e))
    | inr d ↦ (r.kept y d ∙ sym (s.kept y d))
  ]

  one_row : (k x b i j : ℕ) → Extends t k x b i → Extends t k x b j → i ≡ j
  one_row k x b i j r s = elim (cases_eq i j) [
    | inl e ↦ e
    | inr d ↦ (elim (cases_lt i j) [
      | inl lt ↦ absurd (not_twice i j lt s.extended (rows_equal k x b i j r s))
      | inr ge ↦ absurd (not_twice j i (omega arith) r.extended (rows_equal k x b j i s r))
    ])
  ]

  extension_by : (k x b j : ℕ) (o : Option ℕ) → extension t k x b ≡ o → Extends t k x b j → o ≡ Some j
  extension_by k x b j None e r = absurd (row_extension t k x b j r e)
  extension_by k x b j (Some i) e r = ap Some (one_row k x b i j (extension_row t k x b i e) r)

  pub extension_is : (k x b j : ℕ) → Extends t k x b j → extension t k x b ≡ Some j
  extension_is k x b j r = extension_by k x b j (extension t k x b) refl r
