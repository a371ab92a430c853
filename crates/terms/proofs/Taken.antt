-- Reading a term out of a list whose first terms are a script's.
use Rattle.std.proofs.Common.{◌≡◌, ℕ, zero, suc, ◌-◌, ◌<◌, ◌≤◌, leb, List, length, get_or, take, Some, None, sym, ap, ◌∙◌, inl, inr, sub-one, arith}
use Rattle.std.proofs.lemmas.List.{length-take-le, get_or-take, get_or_default, get_or_past}
use Rattle.std.proofs.lemmas.Bool.{cases_lt, cond-true, cond-false, and_from, and_left, and_right, le-leb, lt-leb}
use Rattle.terms.specs.declared.term.Term.{Term}
use Rattle.terms.specs.declared.term.Term.TheVariants.{Quote}
use Rattle.terms.specs.declared.term.Definition.{Definition}
use Rattle.terms.specs.Script.{Script, last, term_at, find_term}

module _ (ts : List Term) (l v : ℕ) (ds : List Definition) (n : ℕ) (fits : l ≤ length ts) where
  -- the script of the first l of the terms and the first n of the definitions
  abbrev taken : Script
  taken = record { terms = take l ts; symbols = v; definitions = take n ds }

  pub last_is : l ≡ last taken
  unfolding last
  last_is = sym (length-take-le l ts fits)

  at_is : (m : ℕ) (d : Term) → 1 ≤ m → m ≤ l → get_or ts (m - 1) d ≡ term_at (take l ts) m
  unfolding term_at
  at_is zero d low high = absurd (omega arith)
  at_is (suc m) d low high = ap (λ k. get_or ts k d) (sub-one (suc m)) ∙ get_or_default ts m d (Quote 0) (omega arith) ∙ sym (get_or-take l ts m (Quote 0) (omega arith))

  pub term_is : (m : ℕ) (d : Term) → 1 ≤ m → m ≤ l → Some (get_or ts (m - 1) d) ≡ find_term taken m
  term_is m d low high =
      ap Some (at_is m d low high) ∙ sym (cond-true _ _ _ (and_from _ _ (le-leb 1 m low) (le-leb m (last taken) (rw (sym last_is) high))))

  pub no_term : (m : ℕ) → (1 ≤ m → m ≤ l → ⊥) → None ≡ find_term taken m
  no_term m h = sym (cond-false _ _ _ (elim (cases_lt m 1) [
    | inl a ↦ (and_left _ _ (lt-leb 1 m a))
    | inr a ↦ (elim (cases_lt l m) [
      | inl b ↦ (and_right (leb 1 m) _ (lt-leb m (last taken) (rw (sym last_is) b)))
      | inr b ↦ (absurd (h a b))
    ])
  ]))

  pub above_is : (m : ℕ) (d : Term) → m < l → get_or ts m d ≡ term_at (take l ts) (suc m)
  unfolding term_at
  above_is m d low = get_or_default ts m d (Quote 0) (omega arith) ∙ sym (get_or-take l ts m (Quote 0) low)

  pub none_above : (m : ℕ) → l ≤ m → Quote 0 ≡ term_at (take l ts) (suc m)
  unfolding term_at
  none_above m high = sym (get_or_past (take l ts) m (Quote 0) (rw (length-take-le l ts fits) high))
