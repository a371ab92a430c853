-- For code that tries parts: one list of parts after another, facts of a set one by one, one set within another.
use Rattle.std.proofs.Common.{◌≡◌, ℕ, zero, suc, ◌+◌, ◌<◌, ◌≤◌, Bool, true, false, cond, List, [], ◌∷◌, ◌++◌, Err, Decides, sym, refl, ap, ◌∙◌, inl, inr, arith}
use Rattle.std.proofs.lemmas.Bool.{cases_eq, cases_Bool, cond-true, cond-false, both_ways}
use Rattle.faults.specs.declared.fault.Fault.{Fault}
use Rattle.proposals.specs.Tables.{Tables, in_set}
use Rattle.proposals.specs.DueForm.{before}
use Rattle.clauses.specs.Clauses.{Part, each_fact}
use Rattle.clauses.specs.Verdict.{is_within, meets, tried}
use Rattle.clauses.specs.Acceptance.{Subset}
use Rattle.clauses.proofs.Meeting.{subset_out, subset_in}

module _ (t : Tables) where
  -- what decides whether one set is within another is the verdict's own answer
  pub within_is : (s u : ℕ) (r : Bool) → Decides r (Subset t s u) → r ≡ is_within t s u
  within_is s u true d = sym (subset_in t s u (d.0 refl))
  within_is s u false d = elim (cases_Bool (is_within t s u)) [ inl q ↦ absurd (both_ways false refl (d.1 (subset_out t s u q))) | inr q ↦ sym q ]

  -- parts, then more parts
  pub tried_then : (fault : ℕ → Fault) (ds es : List Part) → tried t fault (ds ++ es) ≡ before (tried t fault ds) (tried t fault es)
  tried_then fault [] es = refl
  tried_then fault (d ∷ ds) es = elim (cases_Bool (meets t d.need)) [
    | inl q ↦ (cond-true (meets t d.need) (tried t fault (ds ++ es)) (Err (fault d.number)) q
        ∙ tried_then fault ds es
        ∙ ap (λ r. before r (tried t fault es)) (sym (cond-true (meets t d.need) (tried t fault ds) (Err (fault d.number)) q)))
    | inr q ↦ (cond-false (meets t d.need) (tried t fault (ds ++ es)) (Err (fault d.number)) q
        ∙ ap (λ r. before r (tried t fault es)) (sym (cond-false (meets t d.need) (tried t fault ds) (Err (fault d.number)) q)))
  ]

  module _ (s : ℕ) (parts : ℕ → List Part) where
    -- the set holds none of the n facts from f on
    pub each_none : (f n : ℕ) → ((g : ℕ) → f ≤ g → g < f + n → in_set t s g ≡ false) → each_fact t s f n parts ≡ []
    unfolding each_fact
    each_none f zero h = refl
    each_none f (suc n) h =
        ap (λ b. cond b (parts f) [] ++ each_fact t s (suc f) n parts) (h f (omega arith) (omega arith))
        ∙ each_none (suc f) n (λ g low high. h g (omega arith) (omega arith))

    -- g is the smallest that it holds, and m come after it
    pub each_next : (f n g m : ℕ) → f ≤ g → g < f + n → suc (g + m) ≡ f + n → in_set t s g ≡ true → ((k : ℕ) → f ≤ k → k < g → in_set t s k ≡ false)
        → each_fact t s f n parts ≡ parts g ++ each_fact t s (suc g) m parts
    unfolding each_fact
    each_next f zero g m low high count here skipped = absurd (omega arith)
    each_next f (suc n) g m low high count here skipped = elim (cases_eq f g) [
      | inl e ↦ (let q : n ≡ m = omega arith in
          ap (λ b. cond b (parts f) [] ++ each_fact t s (suc f) n parts) (ap (in_set t s) e ∙ here)
          ∙ ap (λ k. parts k ++ each_fact t s (suc k) n parts) e
          ∙ ap (λ k. parts g ++ each_fact t s (suc g) k parts) q)
      | inr d ↦ (ap (λ b. cond b (parts f) [] ++ each_fact t s (suc f) n parts) (skipped f (omega arith) (omega arith))
          ∙ each_next (suc f) n g m (omega arith) (omega arith) (omega arith) here (λ k lo hi. skipped k (omega arith) hi))
    ]
