-- the first number that p takes
use Rattle.std.proofs.Common.{◌≡◌, ℕ, zero, suc, ◌+◌, ◌-◌, ◌*◌, ◌<◌, ◌≤◌, Bool, true, false, ◌&&◌, ltb, ◌⊎◌, Some, None, Option, MatchOption, sym, refl, ap, ◌∙◌, ⊎_elim, arith}
use Rattle.std.proofs.lemmas.Bool.{false_from_ne_true, and_parts, lt-ltb, ltb-true, cond-true, cond-false, cases_lt, cases_eq, cases_Bool}
use denote.Param.Members.{Mut}
use denote.Ref.{Bor}
use Rattle.std.specs.declared.ops.Range.{Range}
use Rattle.std.specs.Fn.{CalledAt}
use Rattle.std.specs.Iterator.{FindsItem}
use Rattle.std.proofs.iter.Yields.{nat_range_steps}
use Rattle.std.proofs.lemmas.Iterator.{first_from_Range}
use Rattle.facts.specs.Table.{holds, MemberNumbered, first_of, Smallest, Next}

pub first_at : (p : ℕ → Bool) (from n f : ℕ) → from ≤ f → f < from + n → p f ≡ true → ((k : ℕ) → from ≤ k → k < f → p k ≡ false)
    → Some f ≡ first_of p from n
unfolding first_of
first_at p from zero f lo hi t before = absurd (omega arith)
first_at p from (suc n) f lo hi t before =
    ⊎_elim (λ e. sym (cond-true (p from) _ _ (ap p e ∙ t) ∙ ap Some e))
    (λ d. let l : from < f = omega arith in
    first_at p (suc from) n f l (omega arith) t (λ k m o. before k (omega arith) o) ∙ sym (cond-false (p from) _ _ (before from (omega arith) l)))
    (cases_eq from f)

pub first_none : (p : ℕ → Bool) (from n : ℕ) → ((k : ℕ) → from ≤ k → k < from + n → p k ≡ false) → None ≡ first_of p from n
unfolding first_of
first_none p from zero all = refl
first_none p from (suc n) all =
    first_none p (suc from) n (λ k lo hi. all k (omega arith) (omega arith)) ∙ sym (cond-false (p from) _ _ (all from (omega arith) (omega arith)))

pub none_first : (p : ℕ → Bool) (from n : ℕ) → None ≡ first_of p from n → (k : ℕ) → from ≤ k → k < from + n → p k ≡ false
unfolding first_of
none_first p from zero e k lo hi = absurd (omega arith)
none_first p from (suc n) e k lo hi =
    ⊎_elim (λ t. let s = e ∙ cond-true (p from) (Some from) (first_of p (suc from) n) t in cc)
    (λ t. ⊎_elim (λ q. ap p (sym q) ∙ t) (λ d. none_first p (suc from) n (e ∙ cond-false (p from) _ _ t) k (omega arith) (omega arith)) (cases_eq from k))
    (cases_Bool (p from))

-- what `find` answers over a range, with p the test that its closure computes
module _ {F : Type 0} {g : Mut F (Bor ℕ × Unit {0}) Bool} (p : ℕ → Bool) {s : Range ℕ} (u : Range ℕ) {f : F} where
  found : (r : Option ℕ) → FindsItem nat_range_steps g s f r u → ((x : ℕ) (b : Bool) (q : F) → CalledAt g f x b q → (q ≡ f) × (b ≡ p x))
      → MatchOption r ((k : ℕ) → s.start ≤ k → k < s.end → p k ≡ false) (λ i. (s.start ≤ i) × (i < s.end) × (p i ≡ true) × ((k : ℕ) → s.start ≤ k → k < i → p k ≡ false))
  found r ran at = first_from_Range s u f r (λ k. p k ≡ true) (λ k. p k ≡ false) ran (λ x q k. sym (at x true q k).1) (λ x q k. ((at x false q k).0, sym (at x false q k).1))

  pub found_in_range : (r : Option ℕ) (n : ℕ) → FindsItem nat_range_steps g s f r u → s.end ≡ s.start + n → ((x : ℕ) (b : Bool) (q : F) → CalledAt g f x b q → (q ≡ f) × (b ≡ p x))
      → r ≡ first_of p s.start n
  found_in_range None n ran e at = let none = found None ran at in first_none p s.start n (λ k lo hi. none k lo (omega arith))
  found_in_range (Some i) n ran e at = let here = found (Some i) ran at in first_at p s.start n i here.0 (omega (arith, here.1)) here.2 here.3

-- a table's facts
pub holds_at : (h : ℕ → ℕ → Bool) (s f : ℕ) → s < 4608 → f < 4608 → h s f ≡ holds h s f
holds_at h s f a b = rw (lt-ltb s 4608 a, lt-ltb f 4608 b)

pub holds_parts : (h : ℕ → ℕ → Bool) (s f : ℕ) → holds h s f ≡ true → (s < 4608) × (f < 4608) × (h s f ≡ true)
holds_parts h s f e =
    let p = and_parts (ltb s 4608) (ltb f 4608 && h s f) e in
    let q = and_parts (ltb f 4608) (h s f) p.1 in
    (ltb-true s 4608 p.0, ltb-true f 4608 q.0, q.1)

-- the relation gives the equation too
module _ (h : ℕ → ℕ → Bool) (s from : ℕ) where
  answered : (r : Option ℕ) → Smallest (holds h s) from r → r ≡ first_of (holds h s) from (4608 - from)
  answered None k = first_none (holds h s) from (4608 - from) (λ i lo hi. k i lo)
  answered (Some f) k =
      let l : f < 4608 = (holds_parts h s f k.1).1 in first_at (holds h s) from (4608 - from) f k.0 (omega (arith, k.0)) k.1 k.2

  pub next_by : (r : Option ℕ) → Smallest (holds h s) from r → Next h s from r
  next_by r k = record { answer = answered r k; smallest = k }

  pub next_none : ((k : ℕ) → from ≤ k → k < 4608 → holds h s k ≡ false) → Next h s from None
  next_none all = next_by None (λ k lo. ⊎_elim (all k lo) (λ hi. false_from_ne_true _ (λ e. omega (arith, (holds_parts h s k e).1))) (cases_lt k 4608))

  -- past the last set or the last fact there is none
  pub next_no_more : (4608 ≤ s) ⊎ (4608 ≤ from) → Next h s from None
  next_no_more l =
      next_by None (λ k m. false_from_ne_true _ (λ e. let p = holds_parts h s k e in ⊎_elim (λ a. omega (arith, p.0)) (λ b. omega (arith, p.1)) l))

-- past the numbers of sets and facts nothing is held
pub has_by : (h : ℕ → ℕ → Bool) (s f : ℕ) (o : Option ℕ) (b : Bool) (Q : ℕ → Type 0) → MemberNumbered s f o → MatchOption o (b ≡ false) Q
    → ((n : ℕ) → s < 4608 → f < 4608 → n ≡ 4608 * s + f → Q n → b ≡ h s f) → b ≡ holds h s f
has_by h s f None b Q m e at = e ∙ sym (false_from_ne_true _ (λ t. let p = holds_parts h s f t in ⊎_elim (λ l. omega (arith, p.0)) (λ l. omega (arith, p.1)) m))
has_by h s f (Some n) b Q m q at = at n m.0 m.1 m.2 q ∙ holds_at h s f m.0 m.1
