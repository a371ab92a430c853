-- What is written for the labels above l, from the last down.
use Rattle.std.proofs.Common.{◌≡◌, ℕ, zero, suc, ◌-◌, ◌<◌, ◌≤◌, Bool, true, false, cond, not, ◌&&◌, eqb, ◌≢◌, List, map, length, get_or, set, replicate, is_some, Some, None, Option, sym, refl, ap, ◌∙◌, subst, inl, inr, arith, length-set}
use Rattle.std.proofs.lemmas.List.{get_or-replicate, get_or_past, get_or-set_same, get_or-set_other}
use Rattle.std.proofs.lemmas.List.FromFn.{fill_by_all}
use Rattle.std.proofs.lemmas.Bool.{cases_eq, cases_lt, false≢true}
use Rattle.std.proofs.lemmas.Bool.Decides.{nat_tests}
use Rattle.std.specs.Int.{from_bool}
use Rattle.std.specs.List.{range_with_len}
use Rattle.terms.specs.Script.{Script, last, term, term_at, occurs}
use Rattle.terms.specs.WellFormed.{WellFormed}
use Rattle.terms.proofs.Nesting.{occurrence_below}
use Rattle.owners.specs.declared.owner.Owner.{Owner}
use Rattle.owners.specs.Scoping.{owned_by, owner_at}
use Rattle.owners.specs.Owners.{owner_of, owner, some_of, between, captured, captured_byte, owners_of, captures_of}

-- f is written at the labels above l, and 0 at the others
pub record Noted (f : ℕ → ℕ) (l : ℕ) (xs : List ℕ) : Type 0 where
  pub long : length xs ≡ 256
  pub above : (m : ℕ) → l < m → m < 256 → get_or xs m 0 ≡ f m
  pub below : (m : ℕ) → m ≤ l → get_or xs m 0 ≡ 0

module _ (f : ℕ → ℕ) where
  pub none_noted : (l : ℕ) (xs : List ℕ) → xs ≡ replicate 256 0 → ((m : ℕ) → l < m → f m ≡ 0) → Noted f l xs
  none_noted l xs e past = record {
    long = ap length e;
    above = λ m a b. zero_at m ∙ sym (past m a);
    below = λ m a. zero_at m;
  }
    where
      zero_at : (m : ℕ) → get_or xs m 0 ≡ 0
      zero_at m = ap (λ ys. get_or ys m 0) e ∙ elim (cases_lt m 256) [ inl h ↦ (get_or-replicate 256 m 0 0 h) | inr h ↦ (get_or_past (replicate 256 0) m 0 h) ]

  -- nothing is written at l, where f is 0
  left_out : (l : ℕ) (xs : List ℕ) → f l ≡ 0 → Noted f l xs → Noted f (l - 1) xs
  left_out l xs z n = record {
    long = n.long;
    above = λ m a b. elim (cases_eq m l) [ inl q ↦ (n.below m (omega arith) ∙ sym (ap f q ∙ z)) | inr q ↦ (n.above m (omega arith) b) ];
    below = λ m a. n.below m (omega arith);
  }

  pub one_noted : (l y : ℕ) (xs ys : List ℕ) → 1 ≤ l → l < 256 → y ≡ f l → Noted f l xs → ys ≡ set xs l y → Noted f (l - 1) ys
  one_noted l y xs ys low high is n e = record {
    long = ap length e ∙ length-set xs l y ∙ n.long;
    above = λ m a b. ap (λ zs. get_or zs m 0) e ∙ elim (cases_eq m l) [
      | inl q ↦ (ap (λ k. get_or (set xs l y) k 0) q ∙ get_or-set_same xs l y 0 (omega (arith, n.long)) ∙ is ∙ ap f (sym q))
      | inr q ↦ (get_or-set_other xs l m y 0 q ∙ n.above m (omega arith) b)
    ];
    below = λ m a. ap (λ zs. get_or zs m 0) e ∙ get_or-set_other xs l m y 0 (let q : m ≢ l = omega arith in q) ∙ n.below m (omega arith);
  }

  pub all_noted : (xs : List ℕ) → f 0 ≡ 0 → Noted f 0 xs → xs ≡ map f (range_with_len 0 256)
  all_noted xs z n = fill_by_all f xs 256 0 n.long at
    where
      at : (k : ℕ) → k < 256 → get_or xs k 0 ≡ f k
      at zero h = n.below 0 (omega arith) ∙ sym z
      at (suc k) h = n.above (suc k) (omega arith) h

-- where there is no term there is no occurrence
module _ (p : Script) where
  pub no_owner : (l : ℕ) → occurs (term p l) ≡ None → owner p l ≡ 0
  unfolding owner
  no_owner l e = ap (owner_of p l) e

  -- what has no owner is not captured
  uncaptured : (l : ℕ) → owner p l ≡ 0 → captured_byte p l ≡ 0
  unfolding captured
  uncaptured l z = ap (λ k. cond (not (eqb k 0) && some_of 256 0 (between p l k)) 1 0) z

  no_capture : (l : ℕ) → occurs (term p l) ≡ None → captured_byte p l ≡ 0
  no_capture l e = uncaptured l (no_owner l e)

  none_past : (l : ℕ) → last p < l → occurs (term p l) ≡ None
  unfolding last term_at
  none_past zero h = absurd (omega arith)
  none_past (suc l) h = ap occurs (get_or_past p.terms l _ (omega arith))

  none_zero : occurs (term p 0) ≡ None
  unfolding term_at
  none_zero = refl

  pub occurrence_low : WellFormed p → (l x : ℕ) → occurs (term p l) ≡ Some x → x < 32
  occurrence_low w l x e = elim (cases_lt (last p) l) [
    | inl past ↦ absurd (let z : ◌≡◌ {A = Option ℕ} None (Some x) = sym (none_past l past) ∙ e in false≢true (ap is_some z))
    | inr le ↦ elim (cases_eq l 0) [
      | inl q ↦ absurd (let z : ◌≡◌ {A = Option ℕ} None (Some x) = sym none_zero ∙ ap (λ k. occurs (term p k)) (sym q) ∙ e in false≢true (ap is_some z))
      | inr q ↦ occurrence_below p w l x (omega arith) le e
    ]
  ]

  pub owner_past : (l : ℕ) → last p < l → owner p l ≡ 0
  owner_past l h = no_owner l (none_past l h)

  pub owner_zero : owner p 0 ≡ 0
  owner_zero = no_owner 0 none_zero

  pub capture_past : (l : ℕ) → last p < l → captured_byte p l ≡ 0
  capture_past l h = no_capture l (none_past l h)

  pub capture_zero : captured_byte p 0 ≡ 0
  capture_zero = no_capture 0 none_zero

as_byte : (k : Bool) → from_bool k ≡ cond k 1 0
as_byte true = refl
as_byte false = refl

-- both outputs, noted down to l
abbrev pub BothNoted : Script → ℕ → List ℕ → List ℕ → Type 0
BothNoted p l os cs = Noted (owner p) l os × Noted (captured_byte p) l cs

module _ (p : Script) (l : ℕ) (os cs : List ℕ) where
  pub first_noted : l ≡ last p → os ≡ replicate 256 0 → cs ≡ replicate 256 0 → BothNoted p l os cs
  first_noted is o c = (none_noted (owner p) l os o (λ m h. owner_past p m (omega arith)), none_noted (captured_byte p) l cs c (λ m h. uncaptured p m (owner_past p m (omega arith))))

  pub last_noted : l ≡ 0 → BothNoted p l os cs → (os ≡ owners_of p) × (cs ≡ captures_of p)
  unfolding owners_of captures_of
  last_noted end n = (
    all_noted (owner p) os (owner_zero p) (subst (λ k. Noted (owner p) k os) end n.0),
    all_noted (captured_byte p) cs (uncaptured p 0 (owner_zero p)) (subst (λ k. Noted (captured_byte p) k cs) end n.1),
  )

some_found : (b : ℕ) (k : Bool) (o : Owner) → Some o ≡ owned_by b k → o ≡ record { binder = b; captured = k }
some_found b k o is = grind (arith, nat_tests)

none_found : (b : ℕ) (k : Bool) → None ≡ owned_by b k → b ≡ 0
none_found b k is = grind (arith, nat_tests)

-- what a walk found at l is what is noted there
module _ (p : Script) (l : ℕ) where
  pub note_some : (o : Owner) (os cs os' cs' : List ℕ) → Some o ≡ owner_at p l → 1 ≤ l → l < 256 → os' ≡ set os l o.binder → cs' ≡ set cs l (from_bool o.captured) → BothNoted p l os cs → BothNoted p (l - 1) os' cs'
  note_some o os cs os' cs' is low high own capture n = (
    one_noted (owner p) l _ os os' low high (ap (λ (u : Owner). u.binder) (some_found _ _ o is)) n.0 own,
    one_noted (captured_byte p) l _ cs cs' low high (ap (λ (u : Owner). from_bool u.captured) (some_found _ _ o is) ∙ as_byte (captured p l)) n.1 capture,
  )

  pub note_none : (os cs : List ℕ) → None ≡ owner_at p l → BothNoted p l os cs → BothNoted p (l - 1) os cs
  note_none os cs is n = (left_out (owner p) l os (none_found _ _ is) n.0, left_out (captured_byte p) l cs (uncaptured p l (none_found _ _ is)) n.1)
