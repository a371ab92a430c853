-- Due form by what it says of the tables, both ways.
use Rattle.std.proofs.Common.{◌≡◌, ℕ, ◌+◌, ◌*◌, ◌%◌, ◌<◌, ◌≤◌, Bool, true, false, not, ◌||◌, eqb, ltb, leb, ◌⊎◌, ◌∷◌, length, get_or, is_some, Some, None, Ok, Err, Option, Result, MatchResult, IsErrAnd, sym, refl, ap, ◌∙◌, subst, inl, inr, ⊎_elim, arith}
use native.Mathlib.Nat.{zero-div}
use Rattle.std.proofs.lemmas.List.{get_or_past}
use Rattle.std.proofs.lemmas.Bool.{false_from_ne_true, eqb-true, eq-eqb, leb-true, le-leb, ltb-true, lt-ltb, le-ltb, and_parts, and_from, or_cases, or_left, or_right, not-true, not_from_false, cond-true, cond-false, cases_lt, cases_eq, cases_Bool, both_ways}
use Rattle.faults.specs.declared.fault.Fault.{Fault}
use Rattle.faults.specs.declared.fault.Fault.TheVariants.{MemoryLength}
use Rattle.terms.specs.declared.term.Term.TheVariants.{Quote}
use Rattle.terms.specs.Script.{Script, last, term, term_at, binds, binds_variable, cons_operands}
use Rattle.terms.specs.WellFormed.{WellFormed}
use Rattle.terms.proofs.Bound.{is_bound}
use Rattle.terms.proofs.Nesting.{binder_label, body_binds}
use Rattle.facts.specs.Words.{bit}
use Rattle.facts.proofs.Firsts.{holds_parts}
use Rattle.proposals.specs.Tables.{Tables, contexts, entry, listed, same_rows}
use Rattle.proposals.specs.DueForm.{memory_right, zero_row, entry_right, entries_right, new_row, row_right, may_list, mask_right, fact_right, memory_verdict, rows_verdict, masks_verdict, facts_verdict, before, due_form}
use Rattle.proposals.specs.declared.proposal.Proposal.{Proposal}
use Rattle.proposals.specs.Model.{made_tables, taken, proposal_of}
use Rattle.proposals.specs.Laws.{Named, DueForm}
use Rattle.proposals.specs.Laws as law
use Rattle.proposals.proofs.Counts.{every_from, every_at}
use Rattle.proposals.proofs.Memory.{entry_past}
use Rattle.proposals.proofs.Named.{FunctionNamed, PairNamed, right_cases, right_number, right_symbol, right_function, right_pair}
use Rattle.proposals.proofs.Verdicts.{rows_right, rows_all, masks_right, masks_all, facts_right, facts_all, fact_none}

-- memory of the right lengths
module _ (t : Tables) where
  pub memory_parts : memory_right t ≡ true → (length t.rows % 32 ≡ 0) × (1 ≤ contexts t) × (contexts t ≤ 16) × (length t.masks ≡ 256)
  memory_parts e =
      let a = and_parts (eqb (length t.rows % 32) 0) _ e in
      let b = and_parts (leb 1 (contexts t)) _ a.1 in
      let c = and_parts (leb (contexts t) 16) _ b.1 in
      (eqb-true _ _ a.0, leb-true _ _ b.0, leb-true _ _ c.0, eqb-true _ _ c.1)

  pub memory_from : length t.rows % 32 ≡ 0 → 1 ≤ contexts t → contexts t ≤ 16 → length t.masks ≡ 256 → memory_right t ≡ true
  memory_from a b c d = and_from _ _ (eq-eqb _ _ a) (and_from _ _ (le-leb _ _ b) (and_from _ _ (le-leb _ _ c) (eq-eqb _ _ d)))

  -- the same by the lengths
  pub memory_lengths : length t.rows % 32 ≡ 0 → 32 ≤ length t.rows → length t.rows ≤ 512 → length t.masks ≡ 256 → memory_right t ≡ true
  unfolding contexts
  memory_lengths a b c d = memory_from a (omega arith) (omega arith) d

  pub memory_wrong : (length t.rows % 32 ≡ 0 → ⊥)
      ⊎ (((length t.rows % 32 ≡ 0) × (length t.rows < 32))
      ⊎ (((length t.rows % 32 ≡ 0) × (32 ≤ length t.rows) × (512 < length t.rows))
      ⊎ ((length t.rows % 32 ≡ 0) × (32 ≤ length t.rows) × (length t.rows ≤ 512) × (length t.masks ≡ 256 → ⊥)))) → memory_right t ≡ false
  unfolding contexts
  memory_wrong h = false_from_ne_true _ (λ e.
      let m = memory_parts e in
      ⊎_elim (λ d. d m.0) (⊎_elim (λ d. omega (arith, d.1, m.1)) (⊎_elim (λ d. omega (arith, d.2, m.0, m.2)) (λ d. d.3 m.3))) h)

  -- from any one that is wrong, whatever the others are
  pub memory_wrong_any : ((length t.rows % 32 ≡ 0 → ⊥) ⊎ ((length t.rows < 32) ⊎ ((512 < length t.rows) ⊎ (length t.masks ≡ 256 → ⊥)))) → memory_right t ≡ false
  unfolding contexts
  memory_wrong_any h = false_from_ne_true _ (λ e. at (memory_parts e) h)
    where
      at : (length t.rows % 32 ≡ 0) × (1 ≤ contexts t) × (contexts t ≤ 16) × (length t.masks ≡ 256)
          → ((length t.rows % 32 ≡ 0 → ⊥) ⊎ ((length t.rows < 32) ⊎ ((512 < length t.rows) ⊎ (length t.masks ≡ 256 → ⊥)))) → ⊥
      at m (inl d) = d m.0
      at m (inr (inl d)) = omega (arith, m.1)
      at m (inr (inr (inl d))) = omega (arith, m.0, m.2)
      at m (inr (inr (inr d))) = d m.3

  pub whole : length t.rows % 32 ≡ 0 → length t.rows ≡ 32 * contexts t
  unfolding contexts
  whole e = omega arith

  entry_beyond : length t.rows ≡ 32 * contexts t → (k x : ℕ) → contexts t ≤ k → entry t k x ≡ 0
  unfolding entry
  entry_beyond e k x h = ⊎_elim (λ l. cond-true _ _ _ (lt-ltb x 32 l) ∙ get_or_past t.rows (32 * k + x) 0 (omega arith)) (λ l. cond-false _ _ _ (le-ltb x 32 l)) (cases_lt x 32)

  pub listed_parts : length t.masks ≡ 256 → (l k : ℕ) → listed t l k ≡ true → (l < 256) × (k < 16)
  unfolding listed
  listed_parts e l k h =
      let q = and_parts (ltb k 16) (bit (get_or t.masks l 0) k) h in
      (⊎_elim (λ a. a) (λ a. absurd (both_ways (bit (get_or t.masks l 0) k) (ap (λ m. bit m k) (get_or_past t.masks l 0 (omega arith)) ∙ no_bit k) q.1)) (cases_lt l 256), ltb-true _ _ q.0)
    where
      no_bit : (k : ℕ) → bit 0 k ≡ false
      no_bit k = simp zero-div

-- two that are tried in order both pass
before_ok : (a b : Result (Unit {0}) Fault) → before a b ≡ Ok tt → (a ≡ Ok tt) × (b ≡ Ok tt)
before_ok (Ok u) b e = (refl, e)
before_ok (Err f) b e = cc

some_operands : (o : Option (ℕ × ℕ)) → is_some o ≡ true → (a : ℕ) × (b : ℕ) × (o ≡ Some (a, b))
some_operands None e = absurd (both_ways false refl e)
some_operands (Some q) e = (q.0, q.1, refl)

-- a cons term is one of the script's
cons_low : (p : Script) (c a b : ℕ) → cons_operands (term p c) ≡ Some (a, b) → c ≤ last p
unfolding term_at last
cons_low p c a b e = ⊎_elim
    (λ l. let s = sym (ap cons_operands (get_or_past (Quote 0 ∷ p.terms) c (Quote 0) (omega arith))) ∙ e in cc)
    (λ l. l) (cases_lt (length p.terms) c)

module _ (p : Script) (t : Tables) where
  verdicts : due_form p t ≡ Ok tt → (memory_right t ≡ true) × (Ok tt ≡ rows_verdict p t) × (Ok tt ≡ masks_verdict p t) × (Ok tt ≡ facts_verdict p t)
  unfolding due_form
  verdicts e =
      let a = before_ok (memory_verdict t) _ e in
      let b = before_ok (rows_verdict p t) _ a.1 in
      let c = before_ok (masks_verdict p t) (facts_verdict p t) b.1 in
      (⊎_elim (λ m. m) (λ m. let s = sym (cond-false (memory_right t) (Ok tt) (Err MemoryLength) m) ∙ a.0 in cc) (cases_Bool (memory_right t)), sym b.0, sym c.0, sym c.1)

  -- a row that is right
  row_parts : (k : ℕ) → row_right p t k ≡ true → ((ltb 0 k || zero_row t k) ≡ true) × (entries_right p t k ≡ true) × (new_row t k ≡ true)
  row_parts k e =
      let a = and_parts (ltb 0 k || zero_row t k) _ e in let b = and_parts (entries_right p t k) (new_row t k) a.1 in (a.0, b.0, b.1)

  named_by : (f : ℕ) → (f ≡ 32) ⊎ ((f < p.symbols) ⊎ (FunctionNamed p t f ⊎ PairNamed p t f)) → Named p t f
  named_by f (inl a) = subst (Named p t) (sym a) law.a_number
  named_by f (inr (inl a)) = law.symbol f a
  named_by f (inr (inr (inl a))) = subst (Named p t) a.3 (law.function a.0 a.2)
  named_by f (inr (inr (inr a))) = let o = some_operands _ a.4 in subst (Named p t) a.5 (law.pair a.0 o.0 o.1 a.1 o.2 a.3)

  pub due_since : due_form p t ≡ Ok tt → DueForm p t
  due_since e =
      let v = verdicts e in
      let m = memory_parts t v.0 in
      let w = whole t m.0 in
      let row : (k : ℕ) → k < contexts t → ((ltb 0 k || zero_row t k) ≡ true) × (entries_right p t k ≡ true) × (new_row t k ≡ true) = λ k h. row_parts k (rows_all p t v.1 k h) in
      let may : (l k : ℕ) → listed t l k ≡ true → (1 ≤ l) × (l ≤ last p) × (k < contexts t) = λ l k h.
      let b = listed_parts t m.3 l k h in
      let r = ⊎_elim (λ n. absurd (both_ways (listed t l k) (not-true _ n) h)) (λ n. n) (or_cases (not (listed t l k)) (may_list p t l k) (every_at 16 _ (masks_all p t v.2 l b.0) k b.1)) in
      let q = and_parts (leb 1 l) _ r in
      let s = and_parts (leb l (last p)) (ltb k (contexts t)) q.1 in (leb-true _ _ q.0, leb-true _ _ s.0, ltb-true _ _ s.1) in
      record {
        whole_rows = w;
        all_masks = m.3;
        some_context = m.1;
        few_contexts = m.2;
        outermost = λ x. ⊎_elim (λ l. eqb-true _ _ (every_at 32 (λ y. eqb (entry t 0 y) 0) (⊎_elim (λ z. absurd (omega (arith, ltb-true 0 0 z))) (λ z. z) (or_cases (ltb 0 0) (zero_row t 0) (row 0 (omega (arith, m.1))).0)) x l)) (λ l. sym (entry_past t 0 x l)) (cases_lt x 32);
        entries = λ k x. ⊎_elim
            (λ h. ⊎_elim (λ l. ⊎_elim (λ z. inl (eqb-true _ _ z)) (λ z. inr (is_bound _ _ z)) (or_cases (eqb (entry t k x) 0) (binds_variable (binds p (entry t k x)) x) (every_at 32 (entry_right p t k) (row k h).1 x l))) (λ l. inl (sym (entry_past t k x l))) (cases_lt x 32))
            (λ h. inl (entry_beyond t w k x h)) (cases_lt k (contexts t));
        apart = λ j k l h. not-true _ (every_at k (λ i. not (same_rows t i k)) (row k h).2 j l);
        listed_labels = λ l k h. ((may l k h).0, (may l k h).1);
        listed_contexts = λ l k h. (may l k h).2;
        named = λ s f h. let b = holds_parts t.members s f h in named_by f (right_cases p t f (facts_all p t v.3 s f b.0 b.1 h));
      }

  both_pass : memory_right t ≡ true → Ok tt ≡ rows_verdict p t → Ok tt ≡ masks_verdict p t → Ok tt ≡ facts_verdict p t → due_form p t ≡ Ok tt
  unfolding due_form
  both_pass m r k f =
      ap (λ o. before o (before (rows_verdict p t) (before (masks_verdict p t) (facts_verdict p t)))) (cond-true (memory_right t) (Ok tt) (Err MemoryLength) m)
      ∙ ap (λ o. before o (before (masks_verdict p t) (facts_verdict p t))) (sym r)
      ∙ ap (λ o. before o (facts_verdict p t)) (sym k)
      ∙ sym f

  module _ (w : WellFormed p) (d : DueForm p t) where
    row_since : (k : ℕ) → k < contexts t → row_right p t k ≡ true
    row_since k h = and_from _ _ (first_row (cases_eq k 0)) (and_from _ _ (every_from 32 _ (λ x l. ⊎_elim (λ z. or_left _ _ (eq-eqb _ _ z)) (λ z. or_right (eqb (entry t k x) 0) _ (ap (λ o. binds_variable o x) z ∙ eq-eqb x x refl)) (d.entries k x))) (every_from k _ (λ j l. not_from_false _ (d.apart j k l h))))
      where
        first_row : (k ≡ 0) ⊎ (k ≡ 0 → ⊥) → (ltb 0 k || zero_row t k) ≡ true
        first_row (inl z) = or_right (ltb 0 k) _ (every_from 32 _ (λ x l. eq-eqb _ _ (ap (λ i. entry t i x) z ∙ d.outermost x)))
        first_row (inr z) = or_left _ _ (lt-ltb 0 k (omega arith))

    mask_since : (l : ℕ) → mask_right p t l ≡ true
    mask_since l = every_from 16 _ (λ k h. ⊎_elim
        (λ e. or_right (not (listed t l k)) _ (and_from _ _ (le-leb _ _ (d.listed_labels l k e).0) (and_from _ _ (le-leb _ _ (d.listed_labels l k e).1) (lt-ltb _ _ (d.listed_contexts l k e)))))
        (λ e. or_left _ _ (not_from_false _ e)) (cases_Bool (listed t l k)))

    right_since : (f : ℕ) → Named p t f → fact_right p t f ≡ true
    right_since f law.a_number = right_number p t f refl
    right_since f (law.symbol s h) = right_symbol p t f h
    right_since f (law.function g h) = right_function p t f (g, omega (arith, w.few_terms, (binder_label p w g (body_binds p g h)).1), h, refl)
    right_since f (law.pair c a b k h l) = right_pair p t f (c, k, omega (arith, w.few_terms, cons_low p c a b h), l, ap is_some h, refl)

    pub since_due : due_form p t ≡ Ok tt
    since_due =
        both_pass (memory_from t (omega (arith, d.whole_rows)) d.some_context d.few_contexts d.all_masks)
        (rows_right p t row_since)
        (masks_right p t (λ l _. mask_since l))
        (facts_right p t (λ s h. sym (fact_none p t s 4608 (λ k l. false_from_ne_true _ (λ e. omega (arith, (holds_parts t.members s k e).1))) (λ k l e. right_since k (d.named s k e)))))

-- the code's way to each answer

module _ (p : Script) (t : Tables) where
  pub no_memory : memory_right t ≡ false → due_form p t ≡ Err MemoryLength
  unfolding due_form
  no_memory m = ap (λ o. before o (before (rows_verdict p t) (before (masks_verdict p t) (facts_verdict p t)))) (cond-false (memory_right t) (Ok tt) (Err MemoryLength) m)

  module _ (m : memory_right t ≡ true) where
    past_memory : due_form p t ≡ before (rows_verdict p t) (before (masks_verdict p t) (facts_verdict p t))
    unfolding due_form
    past_memory = ap (λ o. before o (before (rows_verdict p t) (before (masks_verdict p t) (facts_verdict p t)))) (cond-true (memory_right t) (Ok tt) (Err MemoryLength) m)

    pub wrong_rows : (e : Fault) → Err e ≡ rows_verdict p t → due_form p t ≡ Err e
    wrong_rows e r = past_memory ∙ ap (λ o. before o (before (masks_verdict p t) (facts_verdict p t))) (sym r)

    module _ (r : Ok tt ≡ rows_verdict p t) where
      pub wrong_masks : (e : Fault) → Err e ≡ masks_verdict p t → due_form p t ≡ Err e
      wrong_masks e k = past_memory ∙ ap (λ o. before o (before (masks_verdict p t) (facts_verdict p t))) (sym r) ∙ ap (λ o. before o (facts_verdict p t)) (sym k)

      pub past_masks : Ok tt ≡ masks_verdict p t → due_form p t ≡ facts_verdict p t
      past_masks k = past_memory ∙ ap (λ o. before o (before (masks_verdict p t) (facts_verdict p t))) (sym r) ∙ ap (λ o. before o (facts_verdict p t)) (sym k)

  pub refusal : WellFormed p → {F : Type 0} (m : F → ℕ → ℕ → Bool) (r : Result (Proposal F) Fault) (e : Fault) → IsErrAnd r (λ f. f ≡ e) → due_form p t ≡ Err e
      → record { verdict : made_tables m r ≡ proposal_of p t; exactly : MatchResult r (λ _. DueForm p t) (λ _. DueForm p t → ⊥) }
  refusal w m (Ok q) e h d = absurd h
  refusal w m (Err f) e h d = record { verdict = ap Err h ∙ ap (λ o. taken o t) (sym d); exactly = λ form. let s = sym d ∙ since_due p t w form in cc }

  pub declined : (e : Fault) → due_form p t ≡ Err e → Err e ≡ proposal_of p t
  declined e q = ap (λ o. taken o t) (sym q)

  pub made : due_form p t ≡ Ok tt → Ok t ≡ proposal_of p t
  made q = ap (λ o. taken o t) (sym q)
