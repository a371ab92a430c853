-- the first number that passes; one verdict after another
use Rattle.std.proofs.Common.{◌≡◌, ℕ, zero, suc, ◌+◌, ◌<◌, ◌≤◌, Bool, true, false, not, ◌||◌, ◌⊎◌, Some, None, Ok, Err, Result, sym, refl, ap, ◌∙◌, inl, inr, arith}
use Rattle.std.proofs.lemmas.Bool.{cases_eq, cases_Bool, cond-true, cond-false, false≢true}
use Rattle.faults.specs.declared.fault.Fault.{Fault}
use Rattle.facts.specs.Table.{first_of}
use Rattle.proposals.specs.DueForm.{before}
use Rattle.clauses.specs.Verdict.{in_turn}

-- that a implies b, as it is tried
pub implies_out : (a b : Bool) → (not a || b) ≡ true → a ≡ true → b ≡ true
implies_out true b e i = e
implies_out false b e i = absurd (false≢true i)

pub implies_in : (a b : Bool) → (a ≡ true → b ≡ true) → (not a || b) ≡ true
implies_in true b f = f refl
implies_in false b f = refl

pub none_some : {A : Type 0} {x : A} → None ≡ Some x → ⊥
none_some e = let z : ◌≡◌ {A = ℕ} 0 1 = cc in omega arith

pub some_same : {A : Type 0} {x y : A} → Some x ≡ Some y → x ≡ y
some_same e = cc

-- the first number that passes is in range and passes
pub some_first : (p : ℕ → Bool) (from n f : ℕ) → first_of p from n ≡ Some f → (from ≤ f) × (f < from + n) × (p f ≡ true)
unfolding first_of
some_first p from zero f e = absurd (none_some e)
some_first p from (suc n) f e = elim (cases_Bool (p from)) [
  | inl t ↦ (let q : from ≡ f = some_same (sym (cond-true (p from) (Some from) (first_of p (suc from) n) t) ∙ e) in
      (omega arith, omega arith, ap p (sym q) ∙ t))
  | inr t ↦ (let r = some_first p (suc from) n f (sym (cond-false (p from) (Some from) (first_of p (suc from) n) t) ∙ e) in
      (omega (arith, r.0), omega (arith, r.1), r.2))
]

abbrev pub Verdict : Type 0
Verdict = Result (Unit {0}) Fault

pub ok_err : {f : Fault} → ◌≡◌ {A = Verdict} (Ok tt) (Err f) → ⊥
ok_err e = let z : ◌≡◌ {A = ℕ} 0 1 = cc in omega arith

pub err_same : {f g : Fault} → ◌≡◌ {A = Verdict} (Err f) (Err g) → f ≡ g
err_same e = cc

-- ---- one verdict, then another
pub before_ok : (a b : Verdict) → before a b ≡ Ok tt → (a ≡ Ok tt) × (b ≡ Ok tt)
before_ok (Ok u) b e = (refl, e)
before_ok (Err f) b e = absurd (ok_err (sym e))

pub before_err : (a b : Verdict) (f : Fault) → before a b ≡ Err f → (a ≡ Err f) ⊎ ((a ≡ Ok tt) × (b ≡ Err f))
before_err (Ok u) b f e = inr (refl, e)
before_err (Err g) b f e = inl e

pub before_first : (a b : Verdict) (f : Fault) → a ≡ Err f → before a b ≡ Err f
before_first a b f e = ap (λ r. before r b) e

pub before_next : (a b : Verdict) → a ≡ Ok tt → before a b ≡ b
before_next a b e = ap (λ r. before r b) e

-- ---- verdicts in turn
module _ (v : ℕ → Verdict) where
  pub turn_ok : (i n : ℕ) → in_turn v i n ≡ Ok tt → (j : ℕ) → i ≤ j → j < i + n → v j ≡ Ok tt
  unfolding in_turn
  turn_ok i zero e j low high = absurd (omega arith)
  turn_ok i (suc n) e j low high =
      let q = before_ok (v i) (in_turn v (suc i) n) e in
      elim (cases_eq j i) [ inl s ↦ (ap v s ∙ q.0) | inr d ↦ turn_ok (suc i) n q.1 j (omega arith) (omega arith) ]

  pub ok_turn : (i n : ℕ) → ((j : ℕ) → i ≤ j → j < i + n → v j ≡ Ok tt) → in_turn v i n ≡ Ok tt
  unfolding in_turn
  ok_turn i zero h = refl
  ok_turn i (suc n) h = before_next (v i) _ (h i (omega arith) (omega arith)) ∙ ok_turn (suc i) n (λ j low high. h j (omega arith) (omega arith))

  -- v refuses first at j
  pub record Turned (i n : ℕ) (f : Fault) : Type 0 where
    pub at : ℕ
    pub low : i ≤ at
    pub high : at < i + n
    pub refuses : v at ≡ Err f
    pub passes : (j : ℕ) → i ≤ j → j < at → v j ≡ Ok tt

  pub turn_err : (i n : ℕ) (f : Fault) → in_turn v i n ≡ Err f → Turned i n f
  unfolding in_turn
  turn_err i zero f e = absurd (ok_err e)
  turn_err i (suc n) f e = elim (before_err (v i) (in_turn v (suc i) n) f e) [
    | inl q ↦ (record { at = i; low = omega arith; high = omega arith; refuses = q; passes = λ j low high. absurd (omega arith) })
    | inr q ↦ (let r = turn_err (suc i) n f q.1 in record {
      at = r.at;
      low = omega (arith, r.low);
      high = omega (arith, r.high);
      refuses = r.refuses;
      passes = λ j low high. (elim (cases_eq j i) [ inl s ↦ (ap v s ∙ q.0) | inr d ↦ (r.passes j (omega arith) high) ]);
    })
  ]

  pub err_turn : (i n : ℕ) (f : Fault) → Turned i n f → in_turn v i n ≡ Err f
  unfolding in_turn
  err_turn i zero f r = absurd (omega (arith, r.low, r.high))
  err_turn i (suc n) f r = elim (cases_eq r.at i) [
    | inl s ↦ (before_first (v i) _ f (ap v (sym s) ∙ r.refuses))
    | inr d ↦ (before_next (v i) _ (r.passes i (omega arith) (omega (arith, r.low)))
        ∙ err_turn (suc i) n f (record { at = r.at; low = omega (arith, r.low); high = omega (arith, r.high); refuses = r.refuses; passes = λ j low high. r.passes j (omega arith) high }))
  ]
