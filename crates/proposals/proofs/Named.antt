-- What a fact names.
use Rattle.std.proofs.Common.{◌≡◌, ℕ, ◌<◌, ◌≤◌, Bool, true, false, ◌&&◌, eqb, ltb, ◌⊎◌, is_some, Some, None, Option, MatchOption, sym, refl, ap, ◌∙◌, subst, inl, inr, ⊎_elim, arith}
use Rattle.std.specs.Cmp.Derive.{one_truth}
use Rattle.std.proofs.lemmas.Bool.{eqb-true, eq-eqb, ltb-true, lt-ltb, and_parts, and_from, or_cases, or_left, or_right, both_ways}
use Rattle.std.proofs.lemmas.Option.{cond_some}
use Rattle.terms.specs.declared.term.Term.{Term}
use Rattle.terms.specs.Script.{Script, term, find_term, is_body, cons_operands}
use Rattle.terms.specs.WellFormed.{WellFormed}
use Rattle.terms.proofs.Nesting.{binder_label, body_binds}
use Rattle.terms.proofs.Lookups.{nothing_there}
use Rattle.facts.specs.declared.numbering.Fact.{Fact}
use Rattle.facts.specs.declared.numbering.Fact.TheVariants as fact
use Rattle.facts.specs.Numbering.{function_fact, pair_fact, fact_number, ProperFact}
use Rattle.proposals.specs.Counting.{some}
use Rattle.proposals.specs.Tables.{Tables, contexts}
use Rattle.proposals.specs.DueForm.{names_function, names_pair, fact_right, names}
use Rattle.proposals.proofs.Counts.{some_at, some_where}

module _ (p : Script) (t : Tables) (f : ℕ) where
  abbrev pub FunctionNamed : Type 0
  FunctionNamed = (g : ℕ) × (g < 256) × (is_body p g ≡ true) × (function_fact g ≡ f)

  abbrev pub PairNamed : Type 0
  PairNamed = (c : ℕ) × (k : ℕ) × (c < 256) × (k < contexts t) × (is_some (cons_operands (term p c)) ≡ true) × (pair_fact c k ≡ f)

  pub right_function : FunctionNamed → fact_right p t f ≡ true
  right_function h = or_right (eqb f 32) _ (or_right (ltb f p.symbols) _ (or_left _ _ (some_at 256 _ h.0 h.1 (and_from _ _ h.2 (eq-eqb _ _ h.3)))))

  pub right_pair : PairNamed → fact_right p t f ≡ true
  right_pair h =
      or_right (eqb f 32) _ (or_right (ltb f p.symbols) _ (or_right (names_function p f) _ (
      some_at 256 _ h.0 h.2 (and_from _ _ h.4 (some_at (contexts t) _ h.1 h.3 (eq-eqb _ _ h.5))))))

  pub right_symbol : f < p.symbols → fact_right p t f ≡ true
  right_symbol h = or_right (eqb f 32) _ (or_left _ _ (lt-ltb _ _ h))

  pub right_number : f ≡ 32 → fact_right p t f ≡ true
  right_number h = or_left _ _ (eq-eqb _ _ h)

  function_where : names_function p f ≡ true → FunctionNamed
  function_where e =
      let w = some_where 256 (λ g. is_body p g && eqb (function_fact g) f) e in
      let q = and_parts (is_body p w.0) (eqb (function_fact w.0) f) w.2 in (w.0, w.1, q.0, eqb-true _ _ q.1)

  pair_where : names_pair p t f ≡ true → PairNamed
  pair_where e =
      let w = some_where 256 (λ c. is_some (cons_operands (term p c)) && some (contexts t) (λ k. eqb (pair_fact c k) f)) e in
      let q = and_parts (is_some (cons_operands (term p w.0))) (some (contexts t) (λ k. eqb (pair_fact w.0 k) f)) w.2 in
      let v = some_where (contexts t) (λ k. eqb (pair_fact w.0 k) f) q.1 in
      (w.0, v.0, w.1, v.1, q.0, eqb-true _ _ v.2)

  pub right_cases : fact_right p t f ≡ true → (f ≡ 32) ⊎ ((f < p.symbols) ⊎ (FunctionNamed ⊎ PairNamed))
  right_cases e =
      ⊎_elim (λ a. inl (eqb-true _ _ a))
      (λ a. ⊎_elim (λ b. inr (inl (ltb-true _ _ b))) (λ b. ⊎_elim (λ c. inr (inr (inl (function_where c)))) (λ c. inr (inr (inr (pair_where c)))) (or_cases (names_function p f) _ b)) (or_cases (ltb f p.symbols) _ a))
      (or_cases (eqb f 32) _ e)

-- the code's way to each answer: the fact with the number f
module _ (p : Script) (w : WellFormed p) (t : Tables) (few : contexts t ≤ 16) (f : ℕ) where
  body_low : (g : ℕ) → is_body p g ≡ true → g < 256
  body_low g e = omega (arith, w.few_terms, (binder_label p w g (body_binds p g e)).1)

  at_symbol : (s : ℕ) → (s < 32) × (s ≡ f) → ltb s p.symbols ≡ fact_right p t f
  at_symbol s h = one_truth _ _ (λ e. right_symbol p t f (omega (arith, ltb-true _ _ e, h.1))) (λ e. back (right_cases p t f e))
    where
      back : (f ≡ 32) ⊎ ((f < p.symbols) ⊎ (FunctionNamed p t f ⊎ PairNamed p t f)) → ltb s p.symbols ≡ true
      back (inl a) = absurd (omega (arith, h.0, h.1))
      back (inr (inl a)) = lt-ltb _ _ (omega (arith, h.1))
      back (inr (inr (inl a))) = absurd (omega (arith, h.0, h.1, a.3))
      back (inr (inr (inr a))) = absurd (omega (arith, h.0, h.1, a.5))

  at_number : 32 ≡ f → true ≡ fact_right p t f
  at_number h = sym (right_number p t f (sym h))

  at_function : (g : ℕ) → (g < 256) × (function_fact g ≡ f) → is_body p g ≡ fact_right p t f
  at_function g h = one_truth _ _ (λ e. right_function p t f (g, h.0, e, h.1)) (λ e. back (right_cases p t f e))
    where
      back : (f ≡ 32) ⊎ ((f < p.symbols) ⊎ (FunctionNamed p t f ⊎ PairNamed p t f)) → is_body p g ≡ true
      back (inl a) = absurd (omega (arith, h.1))
      back (inr (inl a)) = absurd (omega (arith, h.1, w.few_symbols))
      back (inr (inr (inl a))) = let e : a.0 ≡ g = omega (arith, h.1, a.3) in subst (λ (x : ℕ). is_body p x ≡ true) e a.2
      back (inr (inr (inr a))) = absurd (omega (arith, h.0, h.1, a.5))

  pair_same : (c k : ℕ) → (k < 16) × (pair_fact c k ≡ f) → fact_right p t f ≡ true → (k < contexts t) × (is_some (cons_operands (term p c)) ≡ true)
  pair_same c k h e = back (right_cases p t f e)
    where
      back : (f ≡ 32) ⊎ ((f < p.symbols) ⊎ (FunctionNamed p t f ⊎ PairNamed p t f)) → (k < contexts t) × (is_some (cons_operands (term p c)) ≡ true)
      back (inl a) = absurd (omega (arith, h.1))
      back (inr (inl a)) = absurd (omega (arith, h.1, w.few_symbols))
      back (inr (inr (inl a))) = absurd (omega (arith, h.1, a.3, a.1))
      back (inr (inr (inr a))) =
          let ec : a.0 ≡ c = omega (arith, h.0, h.1, a.5, a.3, few) in
          let ek : a.1 ≡ k = omega (arith, h.0, h.1, a.5, a.3, few) in
          (omega (arith, ek, a.3), subst (λ (x : ℕ). is_some (cons_operands (term p x)) ≡ true) ec a.4)

  at_pair : (c k : ℕ) → ((c < 256) × (k < 16)) × (pair_fact c k ≡ f) → (ltb k (contexts t) && is_some (cons_operands (term p c))) ≡ fact_right p t f
  at_pair c k h = one_truth _ _
      (λ e. let q = and_parts (ltb k (contexts t)) _ e in right_pair p t f (c, k, h.0.0, ltb-true _ _ q.0, q.1, h.1))
      (λ e. let q = pair_same c k (h.0.1, h.1) e in and_from _ _ (lt-ltb _ _ q.0) q.1)

  pub at_fact : (x : Fact) → ProperFact x × (fact_number x ≡ f) → names p t x ≡ fact_right p t f
  at_fact (fact.Symbol s) h = at_symbol s h
  at_fact fact.Number h = at_number h.1
  at_fact (fact.Function g) h = at_function g h
  at_fact (fact.Pair c k) h = at_pair c k h

  pub at_none : ((x : Fact) → ProperFact x → fact_number x ≡ f → ⊥) → false ≡ fact_right p t f
  at_none h = one_truth _ _ (λ e. absurd (both_ways false refl e)) (λ e. absurd (back (right_cases p t f e)))
    where
      back : (f ≡ 32) ⊎ ((f < p.symbols) ⊎ (FunctionNamed p t f ⊎ PairNamed p t f)) → ⊥
      back (inl a) = h fact.Number tt (sym a)
      back (inr (inl a)) = h (fact.Symbol f) (omega (arith, w.few_symbols)) refl
      back (inr (inr (inl a))) = h (fact.Function a.0) a.1 a.3
      back (inr (inr (inr a))) = h (fact.Pair a.0 a.1) (a.2, omega (arith, a.3, few)) a.5

-- where no term is, no cons is
pub cons_read : (p : Script) (l : ℕ) (o : Option Term) (b : Bool) (Q : Term → Type 0) → o ≡ find_term p l → MatchOption o (b ≡ false) Q
    → ((x : Term) → Q x → b ≡ is_some (cons_operands x)) → b ≡ is_some (cons_operands (term p l))
cons_read p l None b Q e m at = m ∙ ap (λ u. is_some (cons_operands u)) (sym (nothing_there p l e))
cons_read p l (Some x) b Q e m at = at x m ∙ ap (λ u. is_some (cons_operands u)) (sym (cond_some _ _ _ (sym e)).1)
