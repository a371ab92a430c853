-- The owner is the innermost binder; captured says that a function body lies between.
use Rattle.std.proofs.Common.{◌≡◌, ℕ, zero, suc, ◌+◌, ◌<◌, ◌≤◌, Bool, true, false, not, eqb, ◌⊎◌, is_some, Some, sym, refl, ap, ◌∙◌, subst, inl, inr, arith}
use Rattle.std.proofs.lemmas.Bool.{false≢true, false_from_ne_true, cases_Bool, cases_eq, cond-true, cond-false, and_parts, and_from, or_cases, or_left, or_right, eqb-false, ne_eqb, not-true, not_from_false}
use Rattle.terms.specs.Script.{Script, last, term, first, spans, binds, is_body, occurs, binds_variable}
use Rattle.terms.specs.WellFormed.{WellFormed}
use Rattle.terms.proofs.Bound.{is_bound, bound_is}
use Rattle.terms.proofs.Nesting.{spans_out, nested, binder_label, body_binds}
use Rattle.owners.specs.Owners.{least, some_of, binds_over, owner_of, owner, between, captured}
use Rattle.owners.specs.Laws.{Innermost, Unbound, Owned}
use Rattle.owners.proofs.Noting.{no_owner}

-- ---- the least number that passes
pub record Least (n b : ℕ) (f : ℕ → Bool) (r : ℕ) : Type 0 where
  pub passes : f r ≡ true
  pub first_one : (c : ℕ) → b ≤ c → f c ≡ true → c < b + n → r ≤ c

abbrev NonePasses : ℕ → ℕ → (ℕ → Bool) → Type 0
NonePasses n b f = (c : ℕ) → b ≤ c → c < b + n → f c ≡ false

least_is : (n b : ℕ) (f : ℕ → Bool) → ((least n b f ≡ 0) × NonePasses n b f) ⊎ Least n b f (least n b f)
unfolding least
least_is zero b f = inl (refl, λ c low high. absurd (omega arith))
least_is (suc n) b f = elim (cases_Bool (f b)) [
  | inl h ↦ (inr (subst (Least (suc n) b f) (sym (cond-true _ _ _ h)) (record { passes = h; first_one = λ c low pass high. low })))
  | inr h ↦ (elim (least_is n (suc b) f) [
    | inl q ↦ (inl (cond-false _ _ _ h ∙ q.0, λ c low high. (elim (cases_eq c b) [ inl e ↦ (ap f e ∙ h) | inr ne ↦ (q.1 c (omega arith) (omega arith)) ])))
    | inr q ↦ (inr (subst (Least (suc n) b f) (sym (cond-false _ _ _ h)) (record {
      passes = q.passes;
      first_one = λ c low pass high. (elim (cases_eq c b) [ inl e ↦ absurd (false≢true (sym (ap f e ∙ h) ∙ pass)) | inr ne ↦ (q.first_one c (omega arith) pass (omega arith)) ]);
    })))
  ])
]

some_out : (n b : ℕ) (f : ℕ → Bool) → some_of n b f ≡ true → (g : ℕ) × (f g ≡ true)
unfolding some_of
some_out zero b f h = absurd (false≢true h)
some_out (suc n) b f h = elim (or_cases (f b) _ h) [ inl q ↦ (b, q) | inr q ↦ some_out n (suc b) f q ]

some_in : (n b : ℕ) (f : ℕ → Bool) (g : ℕ) → b ≤ g → g < b + n → f g ≡ true → some_of n b f ≡ true
unfolding some_of
some_in zero b f g low high h = absurd (omega arith)
some_in (suc n) b f g low high h = elim (cases_eq g b) [
  | inl e ↦ or_left (f b) _ (ap f (sym e) ∙ h)
  | inr ne ↦ or_right (f b) _ (some_in n (suc b) f g (omega arith) (omega arith) h)
]

module _ (p : Script) (w : WellFormed p) (l : ℕ) where
  small : (c x : ℕ) → binds p c ≡ Some x → (1 ≤ c) × (c < 255) × (c ≤ last p)
  small c x e = let k = binder_label p w c (ap is_some e) in (k.0, omega (arith, k.1, w.few_terms), omega (arith, k.1))

  owned_by : (x : ℕ) → ((least 256 0 (binds_over p x l) ≡ 0) × NonePasses 256 0 (binds_over p x l)) ⊎ Least 256 0 (binds_over p x l) (least 256 0 (binds_over p x l))
      → ((least 256 0 (binds_over p x l) ≡ 0) × Unbound p x l) ⊎ Innermost p x l (least 256 0 (binds_over p x l))
  owned_by x (inl q) = inl (
    q.0,
    λ c e. false_from_ne_true (spans p c l) (λ s.
        false≢true (sym (q.1 c (omega arith) (omega (arith, (small c x e).1))) ∙ and_from _ _ (bound_is (binds p c) x e) s)),
  )
  owned_by x (inr q) =
      let o = least 256 0 (binds_over p x l) in
      let parts = and_parts (binds_variable (binds p o) x) (spans p o l) q.passes in
      let bound = is_bound (binds p o) x parts.0 in
      let span = spans_out p o l parts.1 in
      inr (record {
        binder = bound;
        holds = parts.1;
        inside = λ c e s. within c e s (spans_out p c l s) (q.first_one c (omega arith) (and_from _ _ (bound_is (binds p c) x e) s) (omega (arith, (small c x e).1))) span;
      })
    where
      within : {o : ℕ} (c : ℕ) → binds p c ≡ Some x → spans p c l ≡ true → (first p c ≤ l) × (l ≤ c) → o ≤ c → (first p o ≤ l) × (l ≤ o) → (first p c ≤ first p o) × (o ≤ c)
      within {o} c e s sc le so = elim (cases_eq o c) [
        | inl q ↦ (let k : first p o ≡ first p c = ap (first p) q in (omega arith, le))
        | inr ne ↦ (let k = small c x e in (nested p w o c k.0 k.2 (omega arith) (omega (arith, sc.0, so.1)), le))
      ]

  owner_some : (x : ℕ) → occurs (term p l) ≡ Some x → least 256 0 (binds_over p x l) ≡ owner p l
  unfolding owner
  owner_some x e = sym (ap (owner_of p l) e)

  pub owned : Owned p l
  unfolding captured
  owned = record {
    other_terms = no_owner p l;
    occurrences = λ x e. subst (λ o. ((o ≡ 0) × Unbound p x l) ⊎ Innermost p x l o) (owner_some x e) (owned_by x (least_is 256 0 (binds_over p x l)));
    captures = λ h.
        let q = and_parts (not (eqb (owner p l) 0)) _ h in
        let g = some_out 256 0 (between p l (owner p l)) q.1 in
        let a = and_parts (is_body p g.0) _ g.1 in
        let b = and_parts (not (eqb g.0 (owner p l))) _ a.1 in
        let c = and_parts (spans p (owner p l) g.0) _ b.1 in (
          eqb-false (owner p l) 0 (not-true _ q.0),
          record { body = g.0; function = a.0; other = eqb-false g.0 (owner p l) (not-true _ b.0); inside = c.0; holds = c.1 },
        );
    captured_since = λ some h.
        and_from _ _ (not_from_false _ (ne_eqb (owner p l) 0 some))
        (some_in 256 0 (between p l (owner p l)) h.body (omega arith)
        (let k = binder_label p w h.body (body_binds p h.body h.function) in omega (arith, k.1, w.few_terms))
        (and_from _ _ h.function (and_from _ _ (not_from_false _ (ne_eqb h.body (owner p l) h.other)) (and_from _ _ h.inside h.holds))));
  }
