-- `newest` and `replaced` on one binding and on a list in two parts.
use Rattle.std.proofs.Common.{◌≡◌, ℕ, ◌+◌, ◌<◌, Bool, true, false, cond, eqb, List, [], ◌∷◌, ◌++◌, length, get_or, take, drop, set, Some, None, sym, refl, ap, ◌∙◌, add-one, take-append-drop}
use Rattle.std.proofs.lemmas.List.{drop_more, take_more, set_split}
use Rattle.std.proofs.lemmas.Bool.{eq-eqb, ne_eqb, cond-true, cond-false}
use Rattle.stores.specs.declared.binding.Binding.{Binding}
use Rattle.stores.specs.Meaning.{newest, replaced}

-- a binding's thing replaced
abbrev pub with_thing : {T : Type 0} → Binding T → T → Binding T
with_thing b t = record { variable = b.variable; thing = t; birthplace = b.birthplace }

module _ {T : Type 0} (x : ℕ) (b : Binding T) (bs : List (Binding T)) where
  pub newest_here : b.variable ≡ x → newest x (b ∷ bs) ≡ Some (b.thing, b.birthplace)
  newest_here e = cond-true (eqb b.variable x) _ _ (eq-eqb _ _ e)

  pub newest_past : (b.variable ≡ x → ⊥) → newest x (b ∷ bs) ≡ newest x bs
  newest_past ne = cond-false (eqb b.variable x) _ _ (ne_eqb _ _ ne)

  pub replaced_here : (t : T) → b.variable ≡ x → replaced x t (b ∷ bs) ≡ with_thing b t ∷ bs
  replaced_here t e = cond-true (eqb b.variable x) _ _ (eq-eqb _ _ e)

  pub replaced_past : (t : T) → (b.variable ≡ x → ⊥) → replaced x t (b ∷ bs) ≡ b ∷ replaced x t bs
  replaced_past t ne = cond-false (eqb b.variable x) _ _ (ne_eqb _ _ ne)

-- what has no binding of x is passed over
pub newest_skip : {T : Type 0} (x : ℕ) (ps qs : List (Binding T)) → newest x ps ≡ None → newest x (ps ++ qs) ≡ newest x qs
newest_skip x [] qs h = refl
newest_skip x (b ∷ ps) qs h =
    let P : Bool → Type 0 = λ v. cond v (Some (b.thing, b.birthplace)) (newest x ps) ≡ None → cond v (Some (b.thing, b.birthplace)) (newest x (ps ++ qs)) ≡ newest x qs in
    let both : (v : Bool) → P v = λ v. elim v as P [ true ↦ λ e. absurd (cc) | false ↦ λ e. newest_skip x ps qs e ] in
    both (eqb b.variable x) h

pub replaced_skip : {T : Type 0} (x : ℕ) (t : T) (ps qs : List (Binding T)) → newest x ps ≡ None → replaced x t (ps ++ qs) ≡ ps ++ replaced x t qs
replaced_skip x t [] qs h = refl
replaced_skip x t (b ∷ ps) qs h =
    let P : Bool → Type 0 = λ v. cond v (Some (b.thing, b.birthplace)) (newest x ps) ≡ None → cond v (with_thing b t ∷ (ps ++ qs)) (b ∷ replaced x t (ps ++ qs)) ≡ b ∷ (ps ++ replaced x t qs) in
    let both : (v : Bool) → P v = λ v. elim v as P [ true ↦ λ e. absurd (cc) | false ↦ λ e. ap (λ l. b ∷ l) (replaced_skip x t ps qs e) ] in
    both (eqb b.variable x) h

pub replaced_none : {T : Type 0} (x : ℕ) (t : T) (bs : List (Binding T)) → newest x bs ≡ None → replaced x t bs ≡ bs
replaced_none x t [] h = refl
replaced_none x t (b ∷ bs) h =
    let P : Bool → Type 0 = λ v. cond v (Some (b.thing, b.birthplace)) (newest x bs) ≡ None → cond v (with_thing b t ∷ bs) (b ∷ replaced x t bs) ≡ b ∷ bs in
    let both : (v : Bool) → P v = λ v. elim v as P [ true ↦ λ e. absurd (cc) | false ↦ λ e. ap (λ l. b ∷ l) (replaced_none x t bs e) ] in
    both (eqb b.variable x) h

pub length_replaced : {T : Type 0} (x : ℕ) (t : T) (bs : List (Binding T)) → length (replaced x t bs) ≡ length bs
length_replaced x t [] = refl
length_replaced x t (b ∷ bs) =
    let P : Bool → Type 0 = λ v. length (cond v (with_thing b t ∷ bs) (b ∷ replaced x t bs)) ≡ length (b ∷ bs) in
    elim (eqb b.variable x) as P [ true ↦ refl | false ↦ cc (length_replaced x t bs) ]

-- one step of a search
pub newest_more : {T : Type 0} (x : ℕ) (bs : List (Binding T)) (i : ℕ) (d : Binding T) → i < length bs → newest x (take i bs) ≡ None → ((get_or bs i d).variable ≡ x → ⊥)
    → newest x (take (i + 1) bs) ≡ None
newest_more x bs i d lt before ne =
    ap (newest x) (take_more bs i d lt) ∙ newest_skip x (take i bs) _ before ∙ newest_past x (get_or bs i d) [] ne

-- the binding at i is the newest of x
module _ {T : Type 0} (x : ℕ) (bs : List (Binding T)) (i : ℕ) (d : Binding T) (lt : i < length bs) (here : (get_or bs i d).variable ≡ x) (before : newest x (take i bs) ≡ None) where
  parted : bs ≡ take i bs ++ (get_or bs i d ∷ drop (i + 1) bs)
  parted = sym (take-append-drop i bs) ∙ ap (λ l. take i bs ++ l) (drop_more bs i d lt)

  pub newest_at : newest x bs ≡ Some ((get_or bs i d).thing, (get_or bs i d).birthplace)
  newest_at = ap (newest x) parted ∙ newest_skip x (take i bs) _ before ∙ newest_here x (get_or bs i d) _ here

  pub replaced_at : (t : T) → replaced x t bs ≡ set bs i (with_thing (get_or bs i d) t)
  replaced_at t =
      ap (replaced x t) parted ∙ replaced_skip x t (take i bs) _ before ∙ ap (λ l. take i bs ++ l) (replaced_here x (get_or bs i d) _ t here)
      ∙ sym (rw add-one (set_split bs i _ lt))
