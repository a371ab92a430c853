-- the first set bit from a given number on, in the words of a set
use Rattle.std.proofs.Common.{◌≡◌, ℕ, zero, suc, ◌+◌, ◌-◌, ◌*◌, ◌/◌, ◌%◌, ◌^◌, ◌<◌, ◌≤◌, true, false, List, get_or, Some, sym, refl, ap, ◌∙◌, ⊎_elim, add-zero, pow-suc, div-one, one-add, arith, shr-shr, w64}
use lib.Pow.{shr_le}
use lib.Count.{count_trailing_zeros, under}
use Rattle.std.specs.Int.{bit_at, trailing_zeros}
use Rattle.std.proofs.lemmas.Bool.{eq-eqb, ne_eqb, eqb-true, eqb-false, not-true, not-false, both_ways, cases_lt}
use Rattle.std.proofs.lemmas.Nat.Bits.{bit_at-zero, bit_at_above, bit_at-trailing_zeros}
use Rattle.facts.specs.Table.{holds, Smallest}
use Rattle.facts.specs.Words.{bit, in_words, filled}
use Rattle.facts.proofs.Firsts.{holds_at}

bit_clear : (w k : ℕ) → bit_at w k ≡ 0 → bit w k ≡ false
bit_clear w k e = rw e refl

bit_shr : (w j k : ℕ) → bit (w / 2 ^ j) k ≡ bit w (j + k)
bit_shr w j k = simp shr-shr

-- the bits below the trailing zeros of w are 0, and the next is 1
tz_below : (n w k : ℕ) → k < count_trailing_zeros n w → bit w k ≡ false
unfolding count_trailing_zeros
tz_below zero w k h = absurd (omega arith)
tz_below (suc n) w k h = step (tz_below n (w / 2)) (w % 2) refl k h
  where
    step : ((k : ℕ) → k < count_trailing_zeros n (w / 2) → bit (w / 2) k ≡ false) → (d : ℕ) → w % 2 ≡ d
        → (k : ℕ) → k < under d (count_trailing_zeros n (w / 2)) → bit w k ≡ false
    step up zero e zero h = ne_eqb _ _ (simp div-one (omega arith))
    step up zero e (suc k) h = sym (bit_shr w 1 k ∙ ap (bit w) (one-add k)) ∙ up k (omega arith)
    step up (suc d) e k h = absurd (omega arith)

tz_at : (n w : ℕ) → 0 < w → w < 2 ^ n → bit w (count_trailing_zeros n w) ≡ true
unfolding count_trailing_zeros
tz_at zero w p h = absurd (omega arith)
tz_at (suc n) w p h = step (tz_at n (w / 2)) (w % 2) refl
  where
    step : (0 < w / 2 → w / 2 < 2 ^ n → bit (w / 2) (count_trailing_zeros n (w / 2)) ≡ true) → (d : ℕ) → w % 2 ≡ d
        → bit w (under d (count_trailing_zeros n (w / 2))) ≡ true
    step up zero e =
        let s = pow-suc 2 n in
        let t = count_trailing_zeros n (w / 2) in
        sym (bit_shr w 1 t ∙ ap (bit w) (one-add t)) ∙ up (omega arith) (omega arith)
    step up (suc d) e = eq-eqb _ _ (simp div-one (omega arith))

-- word q of set s
module _ (ws : List ℕ) (s q : ℕ) (hs : s < 4608) (hq : q < 72) where
  abbrev word : ℕ
  word = get_or ws (72 * s + q) 0

  agrees : (j : ℕ) → j < 64 → holds (in_words ws) s (64 * q + j) ≡ bit word j
  agrees j h =
      let a : (64 * q + j) / 64 ≡ q = omega arith in
      let b : (64 * q + j) % 64 ≡ j = omega arith in
      sym (holds_at (in_words ws) s (64 * q + j) hs (omega arith)) ∙ rw (a, b)

  -- no bit is set from i on
  none_from : (i : ℕ) → word / 2 ^ i ≡ 0 → (k : ℕ) → 64 * q + i ≤ k → k < 64 * q + 64 → holds (in_words ws) s k ≡ false
  none_from i z k lo hi =
      let m = k - (64 * q + i) in
      let e : 64 * q + (i + m) ≡ k = omega arith in
      ap (holds (in_words ws) s) (sym e) ∙ agrees (i + m) (omega arith) ∙ sym (bit_shr word i m) ∙ rw z (bit_clear 0 m (bit_at-zero m))

  -- the first that is
  first_from : (i : ℕ) → word < 2 ^ 64 → (word / 2 ^ i ≡ 0 → ⊥)
      → (holds (in_words ws) s (64 * q + i + trailing_zeros w64 (word / 2 ^ i)) ≡ true)
      × ((k : ℕ) → 64 * q + i ≤ k → k < 64 * q + i + trailing_zeros w64 (word / 2 ^ i) → holds (in_words ws) s k ≡ false)
  first_from i fits nz =
      let t = trailing_zeros w64 (word / 2 ^ i) in
      let lowest = bit_at-trailing_zeros w64 (word / 2 ^ i) (omega arith) (omega (arith, shr_le word i)) in
      let set : bit word (i + t) ≡ true = sym (bit_shr word i t) ∙ eq-eqb _ _ lowest.1 in
      let small : i + t < 64 = ⊎_elim (λ l. l) (λ g. absurd (both_ways _ (bit_clear word (i + t) (bit_at_above word 64 (i + t) fits g)) set)) (cases_lt (i + t) 64) in
      let e : 64 * q + i + t ≡ 64 * q + (i + t) = omega arith in (
        ap (holds (in_words ws) s) e ∙ agrees (i + t) small ∙ set,
        λ k lo hi.
            let m = k - (64 * q + i) in
            let f : 64 * q + (i + m) ≡ k = omega arith in
            ap (holds (in_words ws) s) (sym f) ∙ agrees (i + m) (omega arith) ∙ sym (bit_shr word i m) ∙ bit_clear (word / 2 ^ i) m (lowest.2 m (omega arith)),
      )

  pub first_in_word : word < 2 ^ 64 → (word ≡ 0 → ⊥)
      → (holds (in_words ws) s (64 * q + trailing_zeros w64 word) ≡ true)
      × ((k : ℕ) → 64 * q ≤ k → k < 64 * q + trailing_zeros w64 word → holds (in_words ws) s k ≡ false)
  first_in_word fits nz = simp (div-one, add-zero) at (first_from 0 fits (λ z. nz (sym (div-one word) ∙ z)))

-- fact `from`, with the number n
module _ (ws : List ℕ) (s from n : ℕ) (hs : s < 4608) (hf : from < 4608) (hn : n ≡ 4608 * s + from) where
  pub word_of : n / 64 ≡ 72 * s + from / 64
  word_of = omega arith

  pub bit_of : n % 64 ≡ from % 64
  bit_of = omega arith

  whole : 64 * (from / 64) + from % 64 ≡ from
  whole = omega arith

  pub none_after : get_or ws (n / 64) 0 / 2 ^ (n % 64) ≡ 0 → (k : ℕ) → from ≤ k → k < 64 * (from / 64 + 1) → holds (in_words ws) s k ≡ false
  none_after z k lo hi = none_from ws s (from / 64) hs (omega arith) (from % 64) (rw (word_of, bit_of) at z) k (omega arith) (omega arith)

  pub first_after : get_or ws (n / 64) 0 < 2 ^ 64 → (get_or ws (n / 64) 0 / 2 ^ (n % 64) ≡ 0 → ⊥)
      → Smallest (holds (in_words ws) s) from (Some (from + trailing_zeros w64 (get_or ws (n / 64) 0 / 2 ^ (n % 64))))
  first_after fits nz = rw (word_of, bit_of) (first (rw word_of at fits) (rw (word_of, bit_of) at nz))
    where
      first : get_or ws (72 * s + from / 64) 0 < 2 ^ 64 → (get_or ws (72 * s + from / 64) 0 / 2 ^ (from % 64) ≡ 0 → ⊥)
          → Smallest (holds (in_words ws) s) from (Some (from + trailing_zeros w64 (get_or ws (72 * s + from / 64) 0 / 2 ^ (from % 64))))
      first fits nz =
          let f = rw whole at (first_from ws s (from / 64) hs (omega arith) (from % 64) fits nz) in
          (omega arith, f.0, f.1)

  -- where its word has none from it on, and the words after that have none up to word q
  module _ (z : get_or ws (n / 64) 0 / 2 ^ (n % 64) ≡ 0) (q : ℕ) (none : (w : ℕ) → n / 64 + 1 ≤ w → w < q → filled ws w ≡ false) where
    pub none_before : (k : ℕ) → from ≤ k → k < 4608 → 4608 * s + k < 64 * q → holds (in_words ws) s k ≡ false
    none_before k lo few hi = ⊎_elim (none_after z k lo)
        (λ l.
        let e : get_or ws (72 * s + k / 64) 0 ≡ 0 = eqb-true _ _ (not-false _ (none (72 * s + k / 64) (omega arith) (omega arith))) in
        none_from ws s (k / 64) hs (omega arith) 0 (div-one (get_or ws (72 * s + k / 64) 0) ∙ e) k (omega arith) (omega arith))
        (cases_lt k (64 * (from / 64 + 1)))

    pub first_later : n / 64 + 1 ≤ q → q < 72 * (s + 1) → filled ws q ≡ true → get_or ws q 0 < 2 ^ 64
        → Smallest (holds (in_words ws) s) from (Some (from + (64 * q + trailing_zeros w64 (get_or ws q 0) - n)))
    first_later l g full fits =
        let i = q - 72 * s in
        let e : 72 * s + i ≡ q = omega arith in
        let f = rw e at (first_in_word ws s i hs (omega arith) (rw e fits) (λ d. eqb-false _ _ (not-true _ full) (ap (λ w. get_or ws w 0) (sym e) ∙ d))) in
        let m : from + (64 * q + trailing_zeros w64 (get_or ws q 0) - n) ≡ 64 * i + trailing_zeros w64 (get_or ws q 0) = omega arith in
        rw m (omega arith, f.0, λ k lo hi. ⊎_elim (λ b. none_before k lo (omega arith) (omega arith)) (λ b. f.1 k b hi) (cases_lt k (64 * i)))
