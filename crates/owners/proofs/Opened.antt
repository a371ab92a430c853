-- How the scopes that are open change from one label to the one below.
use Rattle.std.proofs.Common.{◌≡◌, ℕ, zero, suc, ◌+◌, ◌-◌, ◌<◌, ◌≤◌, Bool, true, false, cond, ◌&&◌, ltb, List, [], ◌∷◌, length, reverse, is_some, sym, refl, ap, ◌∙◌, subst, inl, inr, arith}
use Rattle.std.proofs.lemmas.List.{length-reverse}
use Rattle.std.proofs.lemmas.Bool.{cases_Bool, cases_eq, cases_lt, cond-true, cond-false, and_parts, and_from, lt-ltb, le-ltb, false≢true, false_from_ne_true}
use Rattle.std.proofs.lemmas.Bool.Decides.{same_from_decides}
use Rattle.terms.specs.Script.{Script, last, first, spans, binds, is_body}
use Rattle.terms.specs.WellFormed.{WellFormed}
use Rattle.terms.proofs.Firsts.{first_le}
use Rattle.terms.proofs.Nesting.{spans_in, spans_out, nested, binder_label}
use Rattle.owners.specs.declared.scope.Scope.{Scope}
use Rattle.owners.specs.Scoping.{scope, innermost, left_at, entered, opened, scopes_at}

-- binder b stands open at l
abbrev pub stands : Script → ℕ → ℕ → Bool
stands p l b = is_some (binds p b) && spans p b l

-- b entered within ss
abbrev pub within : Script → ℕ → List Scope → List Scope
within p b ss = scope b (cond (is_body p b) b (innermost ss).function) ∷ ss

module _ (p : Script) where
  pub opened_in : (l n b : ℕ) → stands p l b ≡ true → opened p l (suc n) b ≡ within p b (opened p l n (suc b))
  unfolding opened
  opened_in l n b h = cond-true _ _ _ h

  pub opened_out : (l n b : ℕ) → stands p l b ≡ false → opened p l (suc n) b ≡ opened p l n (suc b)
  unfolding opened
  opened_out l n b h = cond-false _ _ _ h

  pub stands_out : (l b : ℕ) → stands p l b ≡ true → (is_some (binds p b) ≡ true) × (first p b ≤ l) × (l ≤ b)
  stands_out l b h = let q = and_parts (is_some (binds p b)) (spans p b l) h in let s = spans_out p b l q.1 in (q.0, s.0, s.1)

  pub stands_in : (l b : ℕ) → is_some (binds p b) ≡ true → first p b ≤ l → l ≤ b → stands p l b ≡ true
  stands_in l b h low high = and_from _ _ h (spans_in p b l low high)

  below_fails : (l b : ℕ) → b < l → stands p l b ≡ false
  below_fails l b lt = false_from_ne_true (stands p l b) (λ h. omega (arith, (stands_out l b h).2))

module _ (p : Script) (w : WellFormed p) (l : ℕ) where
  -- past a scope that holds l, the same scopes are open at l and just above
  same_past : (b0 : ℕ) → l < b0 → first p b0 ≤ l → (n b : ℕ) → b0 < b → opened p l n b ≡ opened p (suc l) n b
  unfolding opened
  same_past b0 above from zero b lt = refl
  same_past b0 above from (suc n) b lt =
      ap (λ t. cond t (within p b (opened p l n (suc b))) (opened p l n (suc b))) test
      ∙ ap (λ ss. cond (stands p (suc l) b) (within p b ss) ss) (same_past b0 above from n (suc b) (omega arith))
    where
      test : stands p l b ≡ stands p (suc l) b
      test = same_from_decides (stands p l b) (stands p (suc l) b) (
        (λ h. let q = stands_out p l b h in stands_in p (suc l) b q.0 (omega (arith, q.1)) (omega arith)),
        (λ h. let q = stands_out p (suc l) b h in
            let k = binder_label p w b q.0 in
            let f : first p b ≤ first p b0 = nested p w b0 b k.0 (omega (arith, k.1)) lt (omega (arith, q.1)) in
            stands_in p l b q.0 (omega arith) (omega arith)),
      )
          (λ e. e, λ e. e)

  -- above l, those are open at l that do not begin above it
  left_above : (n b : ℕ) → l < b → opened p l n b ≡ left_at p l (opened p (suc l) n b)
  unfolding opened
  left_above zero b above = refl
  left_above (suc n) b above = elim (cases_Bool (stands p (suc l) b)) [
    | inr out ↦ (opened_out p l n b (false_from_ne_true (stands p l b) (λ h. let q = stands_out p l b h in false≢true (sym out ∙ stands_in p (suc l) b q.0 (omega (arith, q.1)) (omega arith))))
        ∙ left_above n (suc b) (omega arith) ∙ ap (left_at p l) (sym (opened_out p (suc l) n b out)))
    | inl in-it ↦ (let q = stands_out p (suc l) b in-it in
        elim (cases_lt l (first p b)) [
          | inl begins ↦ (opened_out p l n b (false_from_ne_true (stands p l b) (λ h. omega (arith, (stands_out p l b h).1)))
              ∙ left_above n (suc b) (omega arith)
              ∙ sym (ap (left_at p l) (opened_in p (suc l) n b in-it) ∙ cond-true (ltb l (first p b)) _ _ (lt-ltb l (first p b) begins)))
          | inr from ↦ (opened_in p l n b (stands_in p l b q.0 from (omega arith))
              ∙ ap (within p b) (same_past b above from n (suc b) (omega arith))
              ∙ sym (ap (left_at p l) (opened_in p (suc l) n b in-it) ∙ cond-false (ltb l (first p b)) _ _ (le-ltb l (first p b) from)))
        ])
  ]

  entering : (n b : ℕ) → b ≤ l → l < b + n → opened p l n b ≡ entered p l (left_at p l (opened p (suc l) n b))
  unfolding opened
  entering zero b low high = absurd (omega arith)
  entering (suc n) b low high = elim (cases_eq b l) [
    | inl e ↦ (subst (λ k. opened p l (suc n) k ≡ entered p l (left_at p l (opened p (suc l) (suc n) k))) (sym e) here)
    | inr ne ↦ (opened_out p l n b (below_fails p l b (omega arith)) ∙ entering n (suc b) (omega arith) (omega arith)
        ∙ ap (λ ss. entered p l (left_at p l ss)) (sym (opened_out p (suc l) n b (below_fails p (suc l) b (omega arith)))))
  ]
    where
      test : stands p l l ≡ is_some (binds p l)
      test = same_from_decides (stands p l l) (is_some (binds p l)) (λ h. (stands_out p l l h).0, λ h. stands_in p l l h (first_le p.terms l) (omega arith)) (λ e. e, λ e. e)

      here : opened p l (suc n) l ≡ entered p l (left_at p l (opened p (suc l) (suc n) l))
      here =
          ap (λ t. cond t (within p l (opened p l n (suc l))) (opened p l n (suc l))) test
          ∙ ap (entered p l) (left_above n (suc l) (omega arith))
          ∙ ap (λ ss. entered p l (left_at p l ss)) (sym (opened_out p (suc l) n l (below_fails p (suc l) l (omega arith))))

  -- going down by one label leaves scopes, and may enter one
  pub scopes_down : l < 256 → scopes_at p l ≡ entered p l (left_at p l (scopes_at p (suc l)))
  unfolding scopes_at
  scopes_down h = entering 256 0 (omega arith) (omega arith)

module _ (p : Script) (w : WellFormed p) where
  none_opened : (n b : ℕ) → opened p (suc (last p)) n b ≡ []
  unfolding opened
  none_opened zero b = refl
  none_opened (suc n) b = opened_out p (suc (last p)) n b (false_from_ne_true (stands p (suc (last p)) b) (λ h. let q = stands_out p (suc (last p)) b h in omega (arith, q.2, (binder_label p w b q.0).1))) ∙ none_opened n (suc b)

  -- past the last label nothing is open
  pub no_scopes : scopes_at p (suc (last p)) ≡ []
  unfolding scopes_at
  no_scopes = none_opened 256 0

  few_opened : (l n b : ℕ) → length (opened p l n b) ≤ last p - b
  unfolding opened
  few_opened l zero b = omega arith
  few_opened l (suc n) b = elim (cases_Bool (stands p l b)) [
    | inl h ↦ (let k = binder_label p w b (stands_out p l b h).0 in
        let e : length (opened p l (suc n) b) ≡ suc (length (opened p l n (suc b))) = ap length (opened_in p l n b h) in
        omega (arith, few_opened l n (suc b), k.1))
    | inr h ↦ (let e : length (opened p l (suc n) b) ≡ length (opened p l n (suc b)) = ap length (opened_out p l n b h) in omega (arith, few_opened l n (suc b)))
  ]

  few_from_none : (l n : ℕ) → length (opened p l (suc n) 0) < 255
  few_from_none l n =
      let e : length (opened p l (suc n) 0) ≡ length (opened p l n 1) =
      ap length (opened_out p l n 0 (false_from_ne_true (stands p l 0) (λ h. omega (arith, (binder_label p w 0 (stands_out p l 0 h).0).0)))) in
      omega (arith, few_opened l n 1, w.few_terms, w.some_term)

  -- fewer scopes are open than a search has room for
  pub few_scopes : (l : ℕ) → length (scopes_at p l) < 255
  unfolding scopes_at
  few_scopes l = few_from_none l 255

pub left_fewer : (p : Script) (l : ℕ) (ss : List Scope) → length (left_at p l ss) ≤ length ss
left_fewer p l [] = omega arith
left_fewer p l (s ∷ ss) = elim (cases_Bool (ltb l (first p s.binder))) [
  | inl h ↦ (let e : length (left_at p l (s ∷ ss)) ≡ length (left_at p l ss) = ap length (cond-true _ _ _ h) in omega (arith, left_fewer p l ss))
  | inr h ↦ (let e : length (left_at p l (s ∷ ss)) ≡ suc (length ss) = ap length (cond-false _ _ _ h) in omega arith)
]

-- there is room for one scope more
pub room : (p : Script) → WellFormed p → (l : ℕ) (xs ss : List Scope) → reverse xs ≡ left_at p l ss → ss ≡ scopes_at p (suc l) → length xs < 255
room p w l xs ss left stood =
    let e = sym (length-reverse xs) ∙ ap length (left ∙ ap (left_at p l) stood) in omega (arith, left_fewer p l (scopes_at p (suc l)), few_scopes p w (suc l))
