-- every and some number below a bound
use Rattle.std.proofs.Common.{◌≡◌, ℕ, zero, suc, ◌+◌, ◌<◌, Bool, true, false, get_or, Decides, refl, ap, sym, ◌∙◌, inl, inr, arith}
use denote.Param.Members.{Mut}
use Rattle.std.specs.declared.ops.Range.{Range}
use Rattle.std.specs.Fn.{Called}
use Rattle.std.specs.Iterator.{ChecksAll}
use Rattle.std.specs.List.{list_all, range_with_len}
use Rattle.std.proofs.iter.Yields.{nat_range_steps}
use Rattle.std.proofs.lemmas.List.FromFn.{length-range_with_len, get_or-range_with_len}
use Rattle.std.proofs.lemmas.List.Sums.{AllPass-from_list_all, list_all-from_AllPass}
use Rattle.std.proofs.lemmas.Bool.{or_from, cases_Bool, both_ways}
use Rattle.std.proofs.lemmas.Bool.Decides.{Decides-below_and, Decides-below_or, same_from_decides}
use Rattle.std.proofs.lemmas.Iterator.{YieldsList-from_range}
use Rattle.std.proofs.lemmas.Iterator.Search.{all_from_yields_List}
use Rattle.proposals.specs.Counting.{every, some}

every_decides : (n : ℕ) (f : ℕ → Bool) → Decides (every n f) ((i : ℕ) → i < n → f i ≡ true)
unfolding every
every_decides n f = Decides-below_and f (λ i. f i ≡ true) (λ m. every m f) (λ i. (λ e. e, λ e. e)) refl (λ _. refl) n

pub every_from : (n : ℕ) (f : ℕ → Bool) → ((i : ℕ) → i < n → f i ≡ true) → every n f ≡ true
every_from n f = (every_decides n f).1

pub every_at : (n : ℕ) (f : ℕ → Bool) → every n f ≡ true → (i : ℕ) → i < n → f i ≡ true
every_at n f = (every_decides n f).0

pub every_not : (n : ℕ) (f : ℕ → Bool) (i : ℕ) → i < n → f i ≡ false → every n f ≡ false
every_not n f i l e = elim (cases_Bool (every n f)) [
  | inl t ↦ (absurd (both_ways (f i) e (every_at n f t i l)))
  | inr t ↦ t
]

pub every_same : (n : ℕ) (f g : ℕ → Bool) → ((i : ℕ) → i < n → f i ≡ g i) → every n f ≡ every n g
unfolding every
every_same zero f g h = refl
every_same (suc n) f g h = rw (h n (omega arith), every_same n f g (λ i l. h i (omega arith)))

some_decides : (n : ℕ) (f : ℕ → Bool) → Decides (some n f) ((i : ℕ) × (i < n) × (f i ≡ true))
unfolding some
some_decides n f = Decides-below_or f (λ i. f i ≡ true) (λ m. some m f) (λ i. (λ e. e, λ e. e)) refl (λ _. refl) n

pub some_at : (n : ℕ) (f : ℕ → Bool) (i : ℕ) → i < n → f i ≡ true → some n f ≡ true
some_at n f i l e = (some_decides n f).1 (i, l, e)

pub some_where : (n : ℕ) (f : ℕ → Bool) → some n f ≡ true → (i : ℕ) × (i < n) × (f i ≡ true)
some_where n f = (some_decides n f).0

pub some_none : (n : ℕ) (f : ℕ → Bool) → ((i : ℕ) → i < n → f i ≡ false) → some n f ≡ false
unfolding some
some_none zero f h = refl
some_none (suc n) f h = or_from _ _ (h n (omega arith)) (some_none n f (λ i l. h i (omega arith)))

-- the same of the numbers of a range
range_at : (n i d : ℕ) → i < n → get_or (range_with_len 0 n) i d ≡ i
range_at n i d l = let z : 0 + i ≡ i = omega arith in get_or-range_with_len 0 n i d l ∙ z

range_every : (p : ℕ → Bool) (n : ℕ) → list_all p (range_with_len 0 n) ≡ every n p
range_every p n =
    let len = length-range_with_len 0 n in
    same_from_decides _ _
    (λ e i l. ap p (sym (range_at n i 0 l)) ∙ AllPass-from_list_all p _ e i 0 (omega (arith, len)), λ all. list_all-from_AllPass p _ (λ i d l. let h : i < n = omega (arith, len) in ap p (range_at n i d h) ∙ all i h))
    (every_decides n p)

-- what `all` answers over a range, with p the test that its closure computes
pub all_in_range : {F : Type 0} {g : Mut F (ℕ × Unit {0}) Bool} (p : ℕ → Bool) {s : Range ℕ} (u : Range ℕ) {f : F} (r : Bool) (n : ℕ)
    → ChecksAll nat_range_steps g s f r u → s ≡ record { start = 0; end = n } → ((x : ℕ) (b : Bool) (q : F) → Called g f (x, tt) b q → (q ≡ f) × (b ≡ p x))
    → r ≡ every n p
all_in_range p u {f} r n ran e at = all_from_yields_List p u f r ran (YieldsList-from_range 0 n n e (omega arith)) at ∙ range_every p n
