-- Where children begin, read from the last to the first, against the rule that they keep.
use Rattle.std.proofs.Common.{◌≡◌, ℕ, suc, ◌<◌, ◌≤◌, Bool, true, false, cond, ◌&&◌, eqb, ltb, leb, List, [], ◌∷◌, ◌++◌, length, slice_index_or, Some, None, Option, sym, refl, ap, ◌∙◌, subst, inl, inr, arith}
use Rattle.std.proofs.lemmas.Bool.{cond-true, cond-false, cases_Bool, and_parts, eqb-true, lt-ltb}
use Rattle.terms.specs.Form.{chained, chained_from}
use Rattle.terms.specs.Syntax.{present}
use Rattle.terms.specs.Reading.{ends_below, passed, joined, opening}
use Rattle.terms.proofs.Firsts.{step}

joined_by : (g : ℕ → ℕ) (c d : ℕ) (ok : Bool) → joined g c (cond ok (Some (g d)) None) ≡ cond (leb 1 c && (eqb (suc c) (g d) && ok)) (Some (g c)) None
joined_by g c d true = at (leb 1 c) (eqb (suc c) (g d))
  where
    at : (x y : Bool) → cond (x && y) (Some (g c)) None ≡ cond (x && (y && true)) (Some (g c)) None
    at true true = refl
    at true false = refl
    at false y = refl
joined_by g c d false = at (leb 1 c) (eqb (suc c) (g d))
  where
    at : (x y : Bool) → None ≡ cond (x && (y && false)) (Some (g c)) None
    at true true = refl
    at true false = refl
    at false y = refl

-- children that keep the rule begin where the first of them does
pub opening_from : (g : ℕ → ℕ) (c : ℕ) (cs : List ℕ) (l : ℕ) → opening g (c ∷ cs) l ≡ cond (chained_from g c cs l) (Some (g c)) None
opening_from g c [] l = refl
opening_from g c (d ∷ cs) l = ap (joined g c) (opening_from g d cs l) ∙ joined_by g c d (chained_from g d cs l)

-- a beginning that does not lie past l
abbrev pub Upto : ℕ → Option ℕ → Type 0
Upto l None = Unit {0}
Upto l (Some a) = a ≤ l

module _ (g : ℕ → ℕ) (le : (c : ℕ) → g c ≤ c) (l : ℕ) where
  joined_upto : (c : ℕ) (o : Option ℕ) → Upto l o → Upto l (joined g c o)
  joined_upto c None u = tt
  joined_upto c (Some a) u = elim (cases_Bool (leb 1 c && eqb (suc c) a)) [
    | inl h ↦ (let e : suc c ≡ a = eqb-true (suc c) a (and_parts _ _ h).1 in
        subst (Upto l) (sym (cond-true _ (Some (g c)) None h)) (omega (arith, le c)))
    | inr h ↦ (subst (Upto l) (sym (cond-false _ (Some (g c)) None h)) tt)
  ]

  opening_upto : (cs : List ℕ) → Upto l (opening g cs l)
  opening_upto [] = omega arith
  opening_upto (c ∷ cs) = joined_upto c (opening g cs l) (opening_upto cs)

  pub chained_below : (c : ℕ) (cs : List ℕ) → chained_from g c cs l ≡ true → c < l
  chained_below c [] h = let e : suc c ≡ l = eqb-true (suc c) l (and_parts _ _ h).1 in omega arith
  chained_below c (d ∷ cs) h =
      let q = and_parts (eqb (suc c) (g d)) (chained_from g d cs l) (and_parts _ _ h).1 in
      let e : suc c ≡ g d = eqb-true (suc c) (g d) q.0 in
      let d_below : d < l = chained_below d cs q.1 in
      omega (arith, le d)

  module _ (f : ℕ → ℕ) (same : (c : ℕ) → c < l → f c ≡ g c) where
    joined_same : (c : ℕ) (o : Option ℕ) → Upto l o → joined f c o ≡ joined g c o
    joined_same c None u = refl
    joined_same c (Some a) u = elim (cases_Bool (leb 1 c && eqb (suc c) a)) [
      | inl h ↦ (let e : suc c ≡ a = eqb-true (suc c) a (and_parts _ _ h).1 in
          ap (λ m. cond (leb 1 c && eqb (suc c) a) (Some m) None) (same c (omega arith)))
      | inr h ↦ (cond-false _ (Some (f c)) None h ∙ sym (cond-false _ (Some (g c)) None h))
    ]

    -- what is known of the labels below l suffices
    pub opening_same : (cs : List ℕ) → opening f cs l ≡ opening g cs l
    opening_same [] = refl
    opening_same (c ∷ cs) = ap (joined f c) (opening_same cs) ∙ joined_same c (opening g cs l) (opening_upto cs)

  -- children keep the rule exactly when they can be read, and then the first of them begins where they all do
  pub opening_is : (cs : List ℕ) → opening g cs l ≡ cond (chained g cs l) (Some (step g l cs)) None
  opening_is [] = refl
  opening_is (c ∷ cs) = elim (cases_Bool (chained_from g c cs l)) [
    | inl h ↦ (opening_from g c cs l ∙ ap (λ m. cond (chained_from g c cs l) (Some m) None) (sym (cond-true (ltb c l) (g c) l (lt-ltb c l (chained_below c cs h)))))
    | inr h ↦ (opening_from g c cs l ∙ cond-false _ (Some (g c)) None h ∙ sym (cond-false _ (Some (step g l (c ∷ cs))) None h))
  ]

-- from the last children, whose opening is o, on to the others
abbrev pub onward : (ℕ → ℕ) → List ℕ → Option ℕ → Option ℕ
onward f [] o = o
onward f (c ∷ cs) o = joined f c (onward f cs o)

module _ (f : ℕ → ℕ) where
  onward_more : (cs : List ℕ) (c : ℕ) (o : Option ℕ) → onward f (cs ++ (c ∷ [])) o ≡ onward f cs (joined f c o)
  onward_more [] c o = refl
  onward_more (d ∷ cs) c o = ap (joined f d) (onward_more cs c o)

  -- a turn: child c is taken off the end, and o is where it begins
  pub turn : (all rest : List ℕ) (c a : ℕ) (o r : Option ℕ) → all ≡ rest ++ (c ∷ []) → onward f all (Some a) ≡ r → ends_below f c a ≡ o → onward f rest o ≡ r
  turn all rest c a o r split sofar e = ap (onward f rest) (sym e) ∙ sym (onward_more rest c (Some a)) ∙ ap (λ cs. onward f cs (Some a)) (sym split) ∙ sofar

  pub onward_none : (cs : List ℕ) → onward f cs None ≡ None
  onward_none [] = refl
  onward_none (c ∷ cs) = ap (joined f c) (onward_none cs)

-- one child more, if it is there
passed_on : (f : ℕ → ℕ) (o : Option ℕ) (os : List (Option ℕ)) (l n : ℕ) → opening f (present os) l ≡ Some n → opening f (present (o ∷ os)) l ≡ passed f o n
passed_on f None os l n e = e
passed_on f (Some c) os l n e = ap (joined f c) e

-- three places for children, from the last to the first
pub opened : (f : ℕ → ℕ) (os : List (Option ℕ)) (l m n : ℕ) → length os ≡ 3 → passed f (slice_index_or os 2 None) l ≡ Some m → passed f (slice_index_or os 1 None) m ≡ Some n → opening f (present os) l ≡ passed f (slice_index_or os 0 None) n
opened f [] l m n len third second = absurd (omega arith)
opened f (a ∷ []) l m n len third second = absurd (omega arith)
opened f (a ∷ b ∷ []) l m n len third second = absurd (omega arith)
opened f (a ∷ b ∷ d ∷ []) l m n len third second =
    passed_on f a (b ∷ d ∷ []) l n (passed_on f b (d ∷ []) l m (passed_on f d [] l l refl ∙ third) ∙ second)
opened f (a ∷ b ∷ d ∷ e ∷ os) l m n len third second = absurd (omega arith)
