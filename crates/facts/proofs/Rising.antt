-- rising lists of numbers, and the table that they make
use Rattle.std.proofs.Common.{◌≡◌, ℕ, zero, suc, ◌+◌, ◌-◌, ◌*◌, ◌<◌, ◌≤◌, true, false, not, eqb, ltb, ◌⊎◌, List, [], ◌∷◌, length, get_or, is_some, Some, None, Ok, Err, is_ok, IfSome, Result, MatchResult, Option, sym, refl, ap, ◌∙◌, subst, inl, inr, ⊎_elim, sub-one, arith}
use Rattle.std.specs.List.Sorted.{IsBinarySearchResult, IsPartitionedBy, IsPartitionPoint}
use Rattle.std.specs.Ordering.{nat_cmp}
use Rattle.std.proofs.lemmas.List.Sorted.{searched, IsPartitionedBy-ltb, IsNonDecreasingBy-from_default}
use Rattle.std.proofs.lemmas.Bool.{false_from_ne_true, ltb-false, eqb-true, eq-eqb, ltb-true, le-ltb, and_parts, or_cases, or_left, or_right, cases_lt, cases_eq, cases_order, cases_Bool, ne_eqb, both_ways, cond-true, cond-false, not-false, not_from_true, not_from_false}
use Rattle.faults.specs.declared.fault.Fault.TheVariants.{ListOrder}
use Rattle.facts.specs.Table.{holds, first_of, Smallest}
use Rattle.facts.specs.Lists.{among, in_list, in_order, first_wrong, list_rule, Rises, Place}
use Rattle.facts.proofs.Firsts.{holds_at, holds_parts, none_first, first_none, first_at}

among_at : (ns : List ℕ) (k n : ℕ) → k < length ns → get_or ns k 0 ≡ n → among n ns ≡ true
among_at [] k n h e = absurd (omega arith)
among_at (x ∷ xs) zero n h e = or_left _ _ (eq-eqb x n e)
among_at (x ∷ xs) (suc k) n h e = or_right _ _ (among_at xs k n (omega arith) e)

among_where : (ns : List ℕ) (n : ℕ) → among n ns ≡ true → (k : ℕ) × (k < length ns) × (get_or ns k 0 ≡ n)
among_where [] n e = absurd (both_ways false refl e)
among_where (x ∷ xs) n e =
    ⊎_elim (λ a. (0, omega arith, eqb-true x n a)) (λ b. let f = among_where xs n b in (suc f.0, omega (arith, f.1), f.2)) (or_cases _ _ e)

pub rises_le : (ns : List ℕ) → Rises ns → (i j : ℕ) → i ≤ j → j < length ns → get_or ns i 0 ≤ get_or ns j 0
rises_le ns up i j l h = ⊎_elim (λ e. rw e (omega arith)) (λ n. let k : i < j = omega arith in omega (arith, up i j k h)) (cases_eq i j)

-- n stands at its place, or nowhere
module _ (ns : List ℕ) (n i : ℕ) (p : Place ns n i) where
  pub place_has : Rises ns → i < length ns → among n ns ≡ eqb (get_or ns i 0) n
  place_has up h =
      ⊎_elim (λ e. among_at ns i n h e ∙ sym (eq-eqb _ _ e)) (λ d. false_from_ne_true _ (λ e. elsewhere d (among_where ns n e)) ∙ sym (ne_eqb _ _ d))
      (cases_eq (get_or ns i 0) n)
    where
      elsewhere : (get_or ns i 0 ≡ n → ⊥) → (k : ℕ) × (k < length ns) × (get_or ns k 0 ≡ n) → ⊥
      elsewhere d f =
          ⊎_elim (λ e. d (ap (λ j. get_or ns j 0) e ∙ f.2))
          (⊎_elim (λ l. omega (arith, up i f.0 l f.1, p.above i (omega arith) h, f.2)) (λ l. omega (arith, p.below f.0 l, f.2)))
          (cases_order i f.0)

  pub place_past : length ns ≤ i → among n ns ≡ false
  place_past h = false_from_ne_true _ (λ e. let f = among_where ns n e in let l : f.0 < i = omega (arith, f.1) in omega (arith, p.below f.0 l, f.2))

-- what the library's searches say of numbers that rise
module _ (ns : List ℕ) (up : Rises ns) (n : ℕ) where
  pub found : (r : Result ℕ ℕ) → IsBinarySearchResult (λ y. nat_cmp y n) ns r → is_ok r ≡ among n ns
  found r at = answer r (searched ns n r at (rises_le ns up))
    where
      answer : (r : Result ℕ ℕ) → MatchResult r (λ i. (i < length ns) × (get_or ns i 0 ≡ n)) (λ i. (i ≤ length ns) × ((k : ℕ) → k < i → get_or ns k 0 < n) × ((k : ℕ) → i ≤ k → k < length ns → n < get_or ns k 0)) → is_ok r ≡ among n ns
      answer (Ok i) at = sym (among_at ns i n at.0 at.1)
      answer (Err i) at = sym (false_from_ne_true _ (λ e.
          let f = among_where ns n e in
          ⊎_elim (λ b. omega (arith, at.1 f.0 b, f.2)) (λ b. omega (arith, at.2 f.0 b f.1, f.2)) (cases_lt f.0 i)))

  pub parted : IsPartitionedBy (λ y. ltb y n) ns
  parted = IsPartitionedBy-ltb (λ x. x) ns n (IsNonDecreasingBy-from_default (λ x. x) ns 0 (rises_le ns up))

  pub placed : (i : ℕ) → i ≤ length ns → IsPartitionPoint (λ y. ltb y n ≡ true) (λ y. ltb y n ≡ false) ns i → Place ns n i
  placed i l at = record {
    inside = l;
    below = λ k b. ltb-true _ _ (at.0 k 0 (omega arith) b);
    above = λ k a h. ltb-false _ _ (at.1 k 0 a h);
  }

-- the facts of set s from `from` on stand from the place of 4608 s + from on
module _ (ns : List ℕ) (s from i : ℕ) (up : Rises ns) (hs : s < 4608) (p : Place ns (4608 * s + from) i) where
  stands : (k : ℕ) → from ≤ k → holds (in_list ns) s k ≡ true → (i < length ns) × (get_or ns i 0 ≤ 4608 * s + k) × (k < 4608)
  stands k l e =
      let c = holds_parts (in_list ns) s k e in
      let f = among_where ns (4608 * s + k) c.2 in
      let g : i ≤ f.0 = ⊎_elim (λ b. absurd (omega (arith, p.below f.0 b, f.2))) (λ b. b) (cases_lt f.0 i) in
      (omega (arith, f.1), omega (arith, rises_le ns up i f.0 g f.1, f.2), c.1)

  abbrev fact : ℕ
  fact = from + (get_or ns i 0 - (4608 * s + from))

  pub next_some : i < length ns → get_or ns i 0 - 4608 * s < 4608 → Smallest (holds (in_list ns) s) from (Some (get_or ns i 0 - 4608 * s))
  next_some h l =
      let a = p.above i (omega arith) h in
      let e : 4608 * s + (get_or ns i 0 - 4608 * s) ≡ get_or ns i 0 = omega arith in
      (omega arith, sym (holds_at (in_list ns) s _ hs l) ∙ among_at ns i _ h (sym e), λ k m n. false_from_ne_true _ (λ t. omega (arith, (stands k m t).1)))

  pub next_past : length ns ≤ i → Smallest (holds (in_list ns) s) from None
  next_past h = λ k m. false_from_ne_true _ (λ t. omega (arith, (stands k m t).0))

  pub next_there : i < length ns → (x : ℕ) → x ≡ fact → (r : Option ℕ) → is_some r ≡ ltb x 4608 → (Q : ℕ → Type 0) → IfSome r Q → ((f : ℕ) → Q f → f ≡ x) → Smallest (holds (in_list ns) s) from r
  next_there h x q None v Q m to = λ k m. false_from_ne_true _ (λ t. omega (arith, q, ltb-false _ _ (sym v), (stands k m t).1, (stands k m t).2))
  next_there h x q (Some f) v Q m to =
      let e = to f m in
      let a = p.above i (omega arith) h in
      let l = ltb-true _ _ (sym v) in
      let g : 4608 * s + f ≡ get_or ns i 0 = omega (arith, q, e, a) in
      (omega (arith, q, e), sym (holds_at (in_list ns) s f hs (omega (arith, e, l))) ∙ among_at ns i _ h (sym g), λ k m n. false_from_ne_true _ (λ t. omega (arith, q, e, (stands k m t).1)))

  pub next_over : i < length ns → 4608 ≤ get_or ns i 0 - 4608 * s → Smallest (holds (in_list ns) s) from None
  next_over h l = λ k m. false_from_ne_true _ (λ t. omega (arith, (stands k m t).1, (stands k m t).2))

-- a list with each number in order rises
rises_from : (ns : List ℕ) → ((i : ℕ) → i < length ns → in_order ns i ≡ true) → Rises ns
rises_from ns all i zero l h = absurd (omega arith)
rises_from ns all i (suc j) l h =
    let q = (and_parts (ltb (get_or ns (suc j) 0) 21233664) _ (all (suc j) h)).1 in
    let m : get_or ns (suc j - 1) 0 < get_or ns (suc j) 0 = ⊎_elim (λ z. absurd (omega (arith, eqb-true (suc j) 0 z))) (ltb-true _ _) (or_cases (eqb (suc j) 0) _ q) in
    let s : get_or ns j 0 < get_or ns (suc j) 0 = subst (λ (x : ℕ). get_or ns x 0 < get_or ns (suc j) 0) (sub-one (suc j)) m in
    ⊎_elim (λ e. rw e s) (λ d. let k : i < j = omega arith in omega (arith, rises_from ns all i j k (omega arith), s)) (cases_eq i j)

-- and so does one that is accepted
module _ (ns : List ℕ) where
  wrong_none : (o : Option ℕ) → Ok tt ≡ first_wrong o → o ≡ None
  wrong_none None e = refl
  wrong_none (Some i) e = cc

  pub rises_accepted : Ok tt ≡ list_rule ns → Rises ns
  rises_accepted e =
      rises_from ns (λ i h. not-false _ (none_first (λ i. not (in_order ns i)) 0 (length ns) (sym (wrong_none _ (short (cases_Bool _)))) i (omega arith) (omega arith)))
    where
      short : (ltb 8191 (length ns) ≡ true) ⊎ (ltb 8191 (length ns) ≡ false) → Ok tt ≡ first_wrong (first_of (λ i. not (in_order ns i)) 0 (length ns))
      short (inl t) = let s = e ∙ cond-true _ _ _ t in cc
      short (inr t) = e ∙ cond-false _ _ _ t

-- the answer at the first number that is not in order
pub ruled : (ns : List ℕ) → length ns ≤ 8191 → (o : Option ℕ) → o ≡ first_of (λ i. not (in_order ns i)) 0 (length ns) → first_wrong o ≡ list_rule ns
ruled ns l o e = ap first_wrong e ∙ sym (cond-false _ _ _ (le-ltb 8191 (length ns) l))

-- the same at each answer
module _ (ns : List ℕ) (l : length ns ≤ 8191) where
  pub refused_at : (i : ℕ) → i < length ns → in_order ns i ≡ false → ((k : ℕ) → k < i → in_order ns k ≡ true) → Err (ListOrder i) ≡ list_rule ns
  refused_at i h e before = ruled ns l (Some i) (first_at _ 0 (length ns) i (omega arith) (omega arith) (not_from_false _ e) (λ k _ m. not_from_true _ (before k m)))

  pub accepted_all : ((k : ℕ) → k < length ns → in_order ns k ≡ true) → Ok tt ≡ list_rule ns
  accepted_all all = ruled ns l None (first_none _ 0 (length ns) (λ k _ m. not_from_true _ (all k (omega arith))))
