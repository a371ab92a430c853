-- First labels: that of the first child, or the term's own.
use Rattle.std.proofs.Common.{◌≡◌, ℕ, zero, suc, ◌<◌, ◌≤◌, cond, ◌&&◌, ltb, leb, List, [], ◌∷◌, ◌++◌, length, sym, refl, ap, ◌∙◌, inl, inr, arith}
use Rattle.std.proofs.lemmas.List.{get_or_append_left, length-append}
use Rattle.std.proofs.lemmas.Bool.{cond-true, cond-false, cases_lt, lt-ltb, le-ltb, le-leb, lt-leb, and_from, and_right}
use Rattle.terms.specs.declared.term.Term.{Term}
use Rattle.terms.specs.declared.term.Term.TheVariants.{Quote}
use Rattle.terms.specs.Syntax.{children}
use Rattle.terms.specs.Script.{term_at, first_in, first_at}

-- what one step gives, from what f gives of the children
abbrev pub step : (ℕ → ℕ) → ℕ → List ℕ → ℕ
step f l [] = l
step f l (c ∷ cs) = cond (ltb c l) (f c) l

step_same : (f g : ℕ → ℕ) (l : ℕ) (cs : List ℕ) → ((c : ℕ) → c < l → f c ≡ g c) → step f l cs ≡ step g l cs
step_same f g l [] e = refl
step_same f g l (c ∷ cs) e = elim (cases_lt c l) [
  | inl h ↦ (cond-true (ltb c l) _ _ (lt-ltb c l h) ∙ e c h ∙ sym (cond-true (ltb c l) _ _ (lt-ltb c l h)))
  | inr h ↦ (cond-false (ltb c l) _ _ (le-ltb c l h) ∙ sym (cond-false (ltb c l) _ _ (le-ltb c l h)))
]

step_le : (f : ℕ → ℕ) (l : ℕ) (cs : List ℕ) → ((c : ℕ) → c < l → f c ≤ c) → step f l cs ≤ l
step_le f l [] e = omega arith
step_le f l (c ∷ cs) e = elim (cases_lt c l) [
  | inl h ↦ (rw (cond-true (ltb c l) (f c) l (lt-ltb c l h)) (omega (arith, e c h)))
  | inr h ↦ (rw (cond-false (ltb c l) (f c) l (le-ltb c l h)) (omega arith))
]

module _ (ts : List Term) where
  in_step : (n l : ℕ) → first_in ts (suc n) l ≡ step (first_in ts n) l (children (term_at ts l))
  in_step n l = at (children (term_at ts l))
    where
      at : (cs : List ℕ) → ◌≡◌ {A = ℕ} (elim cs [ [] ↦ l | c ∷ ds ↦ cond (ltb c l) (first_in ts n c) l ]) (step (first_in ts n) l cs)
      at [] = refl
      at (c ∷ ds) = refl

  -- the number of steps does not matter once it suffices
  fuel : (n k l : ℕ) → l ≤ n → l ≤ k → first_in ts n l ≡ first_in ts k l
  unfolding term_at
  fuel zero zero l a b = refl
  fuel zero (suc k) zero a b = refl
  fuel zero (suc k) (suc l) a b = absurd (omega arith)
  fuel (suc n) zero zero a b = refl
  fuel (suc n) zero (suc l) a b = absurd (omega arith)
  fuel (suc n) (suc k) l a b =
      in_step n l ∙ step_same _ _ l (children (term_at ts l)) (λ c h. fuel n k c (omega arith) (omega arith)) ∙ sym (in_step k l)

  in_le : (n l : ℕ) → first_in ts n l ≤ l
  in_le zero l = omega arith
  in_le (suc n) l = rw (in_step n l) (step_le (first_in ts n) l (children (term_at ts l)) (λ c h. in_le n c))

  -- at the label of a term
  inside : (l : ℕ) → 1 ≤ l → l ≤ length ts → first_at ts l ≡ first_in ts l l
  unfolding first_at
  inside l low high = cond-true (leb 1 l && leb l (length ts)) _ _ (and_from _ _ (le-leb 1 l low) (le-leb l (length ts) high))

  pub first_zero : first_at ts 0 ≡ 0
  unfolding first_at
  first_zero = refl

  pub first_past : (l : ℕ) → length ts < l → first_at ts l ≡ 0
  unfolding first_at
  first_past l h = cond-false (leb 1 l && leb l (length ts)) _ _ (and_right (leb 1 l) (leb l (length ts)) (lt-leb l (length ts) h))

  pub first_le : (l : ℕ) → first_at ts l ≤ l
  first_le zero = rw first_zero (omega arith)
  first_le (suc l) = elim (cases_lt (length ts) (suc l)) [
    | inl h ↦ (rw (first_past (suc l) h) (omega arith))
    | inr h ↦ (rw (inside (suc l) (omega arith) h) (in_le (suc l) (suc l)))
  ]

  -- the first label of a term is what its first child's is, or its own
  pub first_step : (l : ℕ) → 1 ≤ l → l ≤ length ts → first_at ts l ≡ step (first_at ts) l (children (term_at ts l))
  first_step zero low high = absurd (omega arith)
  first_step (suc n) low high =
      inside (suc n) low high ∙ in_step n (suc n) ∙ step_same _ _ (suc n) (children (term_at ts (suc n))) below
    where
      below : (c : ℕ) → c < suc n → first_in ts n c ≡ first_at ts c
      below zero h = fuel n 0 0 (omega arith) (omega arith) ∙ sym first_zero
      below (suc c) h = fuel n (suc c) (suc c) (omega arith) (omega arith) ∙ sym (inside (suc c) (omega arith) (omega arith))

-- first labels do not depend on the terms above
module _ (ts us : List Term) where
  under : (k l : ℕ) → l ≤ length ts → first_in (ts ++ us) k l ≡ first_in ts k l
  unfolding term_at
  under zero l h = refl
  under (suc k) l h =
      in_step (ts ++ us) k l
      ∙ step_same (first_in (ts ++ us) k) (first_in ts k) l (children (term_at (ts ++ us) l)) (λ c lt. under k c (omega arith))
      ∙ ap (λ t. step (first_in ts k) l (children t)) (get_or_append_left (Quote 0 ∷ ts) us (Quote 0) l (omega arith))
      ∙ sym (in_step ts k l)

  pub first_under : (l : ℕ) → l ≤ length ts → first_at (ts ++ us) l ≡ first_at ts l
  first_under zero h = first_zero (ts ++ us) ∙ sym (first_zero ts)
  first_under (suc l) h =
      inside (ts ++ us) (suc l) (omega arith) (omega (arith, length-append ts us)) ∙ under (suc l) (suc l) h ∙ sym (inside ts (suc l) (omega arith) h)
