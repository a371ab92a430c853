-- The first wrong thing, and none.
use Rattle.std.proofs.Common.{◌≡◌, ℕ, ◌<◌, Bool, true, false, not, ◌&&◌, is_some, Some, None, Ok, Err, Option, unwrap_or, sym, refl, ap, ◌∙◌, ⊎_elim, arith}
use Rattle.std.proofs.lemmas.Bool.{not_from_true, not_from_false, not-false, and_from, and_left, and_right, cases_lt, cases_Bool}
use Rattle.faults.specs.declared.fault.Fault.{Fault}
use Rattle.faults.specs.declared.fault.Fault.TheVariants.{WrongRow, WrongMask, WrongFact}
use Rattle.terms.specs.Script.{Script}
use Rattle.facts.specs.Table.{first_of, Smallest}
use Rattle.facts.proofs.Firsts.{first_at, first_none, none_first, holds_parts}
use Rattle.proposals.specs.Tables.{Tables, in_set, contexts}
use Rattle.proposals.specs.DueForm.{row_right, mask_right, fact_right, wrong_fact, refused_at, rows_verdict, masks_verdict, facts_verdict}

module _ (fault : ℕ → Fault) (f : ℕ → Bool) (n : ℕ) where
  pub refused_first : (i : ℕ) → i < n → f i ≡ false → ((k : ℕ) → k < i → f k ≡ true) → Err (fault i) ≡ refused_at fault (first_of (λ k. not (f k)) 0 n)
  refused_first i h e before = ap (refused_at fault) (first_at _ 0 n i (omega arith) (omega arith) (not_from_false _ e) (λ k _ l. not_from_true _ (before k l)))

  pub refused_none : ((k : ℕ) → k < n → f k ≡ true) → Ok tt ≡ refused_at fault (first_of (λ k. not (f k)) 0 n)
  refused_none all = ap (refused_at fault) (first_none _ 0 n (λ k _ l. not_from_true _ (all k (omega arith))))

-- nothing is wrong
pub none_refused : (fault : ℕ → Fault) (o : Option ℕ) → Ok tt ≡ refused_at fault o → None ≡ o
none_refused fault None e = refl
none_refused fault (Some i) e = cc

module _ (p : Script) (t : Tables) where
  pub row_wrong : (i : ℕ) → i < contexts t → row_right p t i ≡ false → ((k : ℕ) → k < i → row_right p t k ≡ true) → Err (WrongRow i) ≡ rows_verdict p t
  unfolding rows_verdict
  row_wrong = refused_first WrongRow (row_right p t) (contexts t)

  pub rows_right : ((k : ℕ) → k < contexts t → row_right p t k ≡ true) → Ok tt ≡ rows_verdict p t
  unfolding rows_verdict
  rows_right = refused_none WrongRow (row_right p t) (contexts t)

  pub rows_all : Ok tt ≡ rows_verdict p t → (k : ℕ) → k < contexts t → row_right p t k ≡ true
  unfolding rows_verdict
  rows_all e k h = not-false _ (none_first (λ i. not (row_right p t i)) 0 (contexts t) (none_refused WrongRow _ e) k (omega arith) (omega arith))

  pub mask_wrong : (i : ℕ) → i < 256 → mask_right p t i ≡ false → ((k : ℕ) → k < i → mask_right p t k ≡ true) → Err (WrongMask i) ≡ masks_verdict p t
  unfolding masks_verdict
  mask_wrong = refused_first WrongMask (mask_right p t) 256

  pub masks_right : ((k : ℕ) → k < 256 → mask_right p t k ≡ true) → Ok tt ≡ masks_verdict p t
  unfolding masks_verdict
  masks_right = refused_none WrongMask (mask_right p t) 256

  pub masks_all : Ok tt ≡ masks_verdict p t → (l : ℕ) → l < 256 → mask_right p t l ≡ true
  unfolding masks_verdict
  masks_all e l h = not-false _ (none_first (λ i. not (mask_right p t i)) 0 256 (none_refused WrongMask _ e) l (omega arith) (omega arith))

  pub fact_first : (s from f : ℕ) → Smallest (in_set t s) from (Some f) → fact_right p t f ≡ false
      → ((k : ℕ) → k < from → in_set t s k ≡ true → fact_right p t k ≡ true) → Some f ≡ wrong_fact p t s
  unfolding wrong_fact
  fact_first s from f next e before =
      first_at (λ k. in_set t s k && not (fact_right p t k)) 0 4608 f (omega arith) (omega (arith, (holds_parts t.members s f next.1).1)) (and_from _ _ next.1 (not_from_false _ e)) (λ k _ l. earlier k l)
    where
      earlier : (k : ℕ) → k < f → (in_set t s k && not (fact_right p t k)) ≡ false
      earlier k l = ⊎_elim
          (λ a. ⊎_elim (λ i. and_right (in_set t s k) _ (not_from_true _ (before k a i))) (λ i. and_left _ _ i) (cases_Bool (in_set t s k)))
          (λ a. and_left _ _ (next.2 k a l)) (cases_lt k from)

  pub fact_none : (s from : ℕ) → Smallest (in_set t s) from None → ((k : ℕ) → k < from → in_set t s k ≡ true → fact_right p t k ≡ true) → None ≡ wrong_fact p t s
  unfolding wrong_fact
  fact_none s from next before = first_none (λ k. in_set t s k && not (fact_right p t k)) 0 4608 (λ k _ _. none k)
    where
      none : (k : ℕ) → (in_set t s k && not (fact_right p t k)) ≡ false
      none k = ⊎_elim
          (λ a. ⊎_elim (λ i. and_right (in_set t s k) _ (not_from_true _ (before k a i))) (λ i. and_left _ _ i) (cases_Bool (in_set t s k)))
          (λ a. and_left _ _ (next k a)) (cases_lt k from)

  pub facts_wrong : (s f : ℕ) → s < 4608 → Some f ≡ wrong_fact p t s → ((k : ℕ) → k < s → wrong_fact p t k ≡ None) → Err (WrongFact s f) ≡ facts_verdict p t
  unfolding facts_verdict
  facts_wrong s f h e before =
      ap (λ o. Err (WrongFact s (unwrap_or o 0))) e
      ∙ ap (refused_at (λ u. WrongFact u (unwrap_or (wrong_fact p t u) 0))) (first_at (λ u. is_some (wrong_fact p t u)) 0 4608 s (omega arith) (omega arith) (ap is_some (sym e)) (λ k _ l. ap is_some (before k l)))

  pub facts_right : ((k : ℕ) → k < 4608 → wrong_fact p t k ≡ None) → Ok tt ≡ facts_verdict p t
  unfolding facts_verdict
  facts_right all = ap (refused_at (λ u. WrongFact u (unwrap_or (wrong_fact p t u) 0))) (first_none (λ u. is_some (wrong_fact p t u)) 0 4608 (λ k _ l. ap is_some (all k (omega arith))))

  no_some : (o : Option ℕ) → is_some o ≡ false → None ≡ o
  no_some None e = refl
  no_some (Some i) e = cc

  pub facts_all : Ok tt ≡ facts_verdict p t → (s f : ℕ) → s < 4608 → f < 4608 → in_set t s f ≡ true → fact_right p t f ≡ true
  unfolding facts_verdict wrong_fact
  facts_all e s f hs hf i =
      let o = none_first (λ u. is_some (wrong_fact p t u)) 0 4608 (none_refused (λ u. WrongFact u (unwrap_or (wrong_fact p t u) 0)) _ e) s (omega arith) (omega arith) in
      let n = none_first (λ k. in_set t s k && not (fact_right p t k)) 0 4608 (no_some _ o) f (omega arith) (omega arith) in
      not-false _ (sym (ap (λ b. b && not (fact_right p t f)) i) ∙ n)
