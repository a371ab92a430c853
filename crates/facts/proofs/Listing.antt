-- all that p takes, one by one
use Rattle.std.proofs.Common.{◌≡◌, ℕ, zero, suc, ◌+◌, ◌-◌, ◌<◌, ◌≤◌, Bool, true, false, ◌&&◌, cond, [], ◌∷◌, Some, None, Option, Decides, refl, sym, ap, ◌∙◌, ⊎_elim, arith}
use Rattle.std.specs.List.{list_all, find}
use Rattle.std.proofs.lemmas.Bool.{and_parts, and_from, cond-true, cond-false, cases_eq, cases_Bool, both_ways}
use Rattle.facts.specs.Table.{holds, first_of, all_of, Smallest, Within}
use Rattle.facts.proofs.Firsts.{holds_parts}

all_none : (p : ℕ → Bool) (from n : ℕ) → ((k : ℕ) → from ≤ k → p k ≡ false) → all_of p from n ≡ []
unfolding all_of
all_none p from zero none = refl
all_none p from (suc n) none = cond-false _ _ _ (none from (omega arith)) ∙ all_none p (from + 1) n (λ k l. none k (omega arith))

all_first : (p : ℕ → Bool) (from n f : ℕ) → from ≤ f → f < from + n → p f ≡ true → ((k : ℕ) → from ≤ k → k < f → p k ≡ false)
    → all_of p from n ≡ f ∷ all_of p (f + 1) (from + n - (f + 1))
unfolding all_of
all_first p from zero f lo hi t before = absurd (omega arith)
all_first p from (suc n) f lo hi t before =
    ⊎_elim (λ e. let m : from + suc n - (f + 1) ≡ n = omega arith in let s : f + 1 ≡ from + 1 = omega arith in cond-true _ _ _ (ap p e ∙ t) ∙ rw (m, s, e))
    (λ d. let l : from < f = omega arith in
    let m : from + suc n - (f + 1) ≡ from + 1 + n - (f + 1) = omega arith in
    cond-false _ _ _ (before from (omega arith) l) ∙ all_first p (from + 1) n f (omega arith) (omega arith) t (λ k a b. before k (omega arith) b) ∙ rw m)
    (cases_eq from f)

-- what is left of a set's facts, at an answer of next
module _ (h : ℕ → ℕ → Bool) (s from : ℕ) where
  pub left_none : Smallest (holds h s) from None → all_of (holds h s) from (4608 - from) ≡ []
  left_none none = all_none (holds h s) from (4608 - from) none

  pub left_some : (f : ℕ) → Smallest (holds h s) from (Some f) → all_of (holds h s) from (4608 - from) ≡ f ∷ all_of (holds h s) (f + 1) (4608 - (f + 1))
  left_some f k =
      let l : f < 4608 = (holds_parts h s f k.1).1 in
      let m : from + (4608 - from) - (f + 1) ≡ 4608 - (f + 1) = omega (arith, k.0) in
      all_first (holds h s) from (4608 - from) f k.0 (omega (arith, k.0)) k.1 k.2 ∙ rw m

module _ (p q : ℕ → Bool) where
  all_true : (from n : ℕ) → list_all q (all_of p from n) ≡ true → (k : ℕ) → from ≤ k → k < from + n → p k ≡ true → q k ≡ true
  unfolding all_of
  all_true from zero e k lo hi t = absurd (omega arith)
  all_true from (suc n) e k lo hi t =
      ⊎_elim (λ y. let a = and_parts (q from) _ (rw y at e) in
      ⊎_elim (λ same. ap q (sym same) ∙ a.0) (λ d. all_true (from + 1) n a.1 k (omega arith) (omega arith) t) (cases_eq from k))
      (λ y. ⊎_elim (λ same. absurd (both_ways (p from) y (ap p same ∙ t))) (λ d. all_true (from + 1) n (rw y at e) k (omega arith) (omega arith) t) (cases_eq from k))
      (cases_Bool (p from))

  true_all : (from n : ℕ) → ((k : ℕ) → p k ≡ true → q k ≡ true) → list_all q (all_of p from n) ≡ true
  unfolding all_of
  true_all from zero all = refl
  true_all from (suc n) all =
      ⊎_elim (λ y. rw y (and_from _ _ (all from y) (true_all (from + 1) n all))) (λ y. rw y (true_all (from + 1) n all)) (cases_Bool (p from))

  -- the first of those that q takes
  pub find_first : (from n : ℕ) → find q (all_of p from n) ≡ first_of (λ k. p k && q k) from n
  unfolding all_of first_of
  find_first from zero = refl
  find_first from (suc n) =
      let e : from + 1 ≡ suc from = omega arith in
      let rest = find_first (from + 1) n ∙ ap (λ m. first_of (λ k. p k && q k) m n) e in
      ⊎_elim (λ y. rw y (ap (λ (r : Option ℕ). cond (q from) (Some from) r) rest)) (λ y. rw y rest) (cases_Bool (p from))

pub within_all : (h : ℕ → ℕ → Bool) (a b : ℕ) → Decides (list_all (holds h b) (all_of (holds h a) 0 4608)) (Within h a b)
within_all h a b =
    (λ e f t. all_true (holds h a) (holds h b) 0 4608 e f (omega arith) (holds_parts h a f t).1 t, λ all. true_all (holds h a) (holds h b) 0 4608 all)
