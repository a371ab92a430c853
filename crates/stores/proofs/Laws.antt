-- What a caller learns from the equation of a call; then the laws of `specs/Laws`.
use Rattle.std.proofs.Common.{◌≡◌, ℕ, ◌<◌, ◌≤◌, cond, eqb, ltb, List, [], ◌∷◌, ◌++◌, length, get_or, set, is_some, Some, None, Ok, Err, Option, Result, sym, refl, ap, ◌∙◌, ⊎_elim, arith, length-set}
use Rattle.std.proofs.lemmas.List.{get_or-set_same, get_or-set_other}
use Rattle.std.proofs.lemmas.Bool.{cond-true, cond_both, lt-ltb, eqb-false, cases_eq}
use Rattle.std.proofs.lemmas.Bool.Decides.{nat_tests}
use Rattle.faults.specs.declared.fault.Fault.{Fault}
use Rattle.faults.specs.declared.fault.Fault.TheVariants.{NoSuchVariable, StoreFull}
use Rattle.stores.specs.declared.binding.Binding.{Binding}
use Rattle.stores.specs.Meaning.{Meaning, Formed, count_of, clear_of, bound, bind_of, unbound, unbind_of, newest, outermost, or_else, seen, look_of, replaced, assigned, put_of}
use Rattle.stores.specs.Laws.{Free, Newest, birthplace_in, LookNewest, BindShows, UnbindUndoes, PutReplaces, PutTops, PutShows, Lawful}
use Rattle.stores.proofs.Bindings.{with_thing, newest_here, newest_past, newest_skip, replaced_here, replaced_past, replaced_skip, replaced_none, length_replaced}

-- no answer is both
pub one_answer : (r : Result (Unit {0}) Fault) (e : Fault) → r ≡ Ok tt → r ≡ Err e → ⊥
one_answer r e ok err = let z : ◌≡◌ {A = ℕ} 0 1 = cc in omega arith

-- ---- one equation, r the answer and m' the meaning after
module _ {T : Type 0} (m m' : Meaning T) (x : ℕ) (t : T) (b : ℕ) (r : Result (Unit {0}) Fault) (is : (r, m') ≡ bind_of m x t b) where
  pub bind_done : r ≡ Ok tt → (m' ≡ bound m x t b) × (x ≤ 31) × (count_of m ≡ m.limit → ⊥)
  bind_done ok = grind (arith, nat_tests)

  pub bind_refused : (e : Fault) → r ≡ Err e → m' ≡ m
  bind_refused e err = grind (arith, nat_tests)

  pub bind_accepts : x ≤ 31 → count_of m < m.limit → r ≡ Ok tt
  bind_accepts low room = grind (arith, nat_tests)

  pub bind_full : x ≤ 31 → count_of m ≡ m.limit → r ≡ Err StoreFull
  bind_full low full = grind (arith, nat_tests)

  pub bind_high : 31 < x → r ≡ Err NoSuchVariable
  bind_high high = grind (arith, nat_tests)

module _ {T : Type 0} (m m' : Meaning T) (r : Result (Unit {0}) Fault) (is : (r, m') ≡ unbind_of m) where
  -- of a list with a binding in front
  pub unbind_done : (b : Binding T) (bs : List (Binding T)) → m.bindings ≡ b ∷ bs → (r ≡ Ok tt) × (m' ≡ record { bindings = bs; top = m.top; limit = m.limit })
  unbind_done b bs list =
      let e : (r, m') ≡ unbind_of (record { bindings = b ∷ bs; top = m.top; limit = m.limit }) = is ∙ ap (λ l. unbind_of (record { bindings = l; top = m.top; limit = m.limit })) list in
      (ap (λ p. p.0) e, ap (λ p. p.1) e)

  pub unbind_refused : (e : Fault) → r ≡ Err e → (m' ≡ m) × (m.bindings ≡ [])
  unbind_refused e err = grind arith

module _ {T : Type 0} (m m' : Meaning T) (x : ℕ) (t : T) (r : Result (Unit {0}) Fault) (is : (r, m') ≡ put_of m x t) where
  pub put_done : r ≡ Ok tt → (m' ≡ assigned m x t) × (x ≤ 31)
  put_done ok = grind (arith, nat_tests)

  pub put_refused : (e : Fault) → r ≡ Err e → (m' ≡ m) × (31 < x)
  put_refused e err = grind (arith, nat_tests)

  pub put_accepts : x ≤ 31 → r ≡ Ok tt
  put_accepts low = grind (arith, nat_tests)

module _ {T : Type 0} (m : Meaning T) (x : ℕ) where
  pub look_low : x ≤ 31 → look_of m x ≡ Ok (seen m x)
  look_low low = grind (arith, nat_tests)

  pub look_high : 31 < x → look_of m x ≡ Err NoSuchVariable
  look_high high = cond-true (ltb 31 x) _ _ (lt-ltb 31 x high)

  pub look_done : (o : Option (T × ℕ)) → look_of m x ≡ Ok o → (o ≡ seen m x) × (x ≤ 31)
  look_done o is = grind (arith, nat_tests)

-- ---- the laws
free_newest : {T : Type 0} (x : ℕ) (bs : List (Binding T)) → Free x bs → newest x bs ≡ None
free_newest x [] h = refl
free_newest x (b ∷ bs) h = newest_past x b bs h.0 ∙ free_newest x bs h.1

module _ {T : Type 0} (m : Meaning T) (x : ℕ) (front rest : List (Binding T)) (b : Binding T) (h : Newest m x front b rest) where
  newest_is : newest x m.bindings ≡ Some (b.thing, b.birthplace)
  newest_is = ap (newest x) h.parted ∙ newest_skip x front _ (free_newest x front h.others) ∙ newest_here x b rest h.of_x

  replaced_is : (t : T) → replaced x t m.bindings ≡ front ++ (with_thing b t ∷ rest)
  replaced_is t =
      ap (replaced x t) h.parted ∙ replaced_skip x t front _ (free_newest x front h.others) ∙ ap (λ l. front ++ l) (replaced_here x b rest t h.of_x)

look_newest : {T : Type 0} → LookNewest T
look_newest m x front rest b low h = look_low m x low ∙ ap (λ o. Ok (or_else o (outermost (get_or m.top x None)))) (newest_is m x front rest b h)

bind_shows : {T : Type 0} → BindShows T
bind_shows {T} m m' x t b is =
    let done = bind_done m m' x t b (Ok tt) is refl in
    let new : Binding T = record { variable = x; thing = t; birthplace = b } in
    let here : look_of (bound m x t b) x ≡ Ok (Some (t, b)) =
    look_low (bound m x t b) x done.1 ∙ ap (λ o. Ok (or_else o (outermost (get_or m.top x None)))) (newest_here x new m.bindings refl) in (
      ap (λ v. look_of v x) done.0 ∙ here,
      λ y ne.
          ap (λ v. look_of v y) done.0
          ∙ ap (λ o. cond (ltb 31 y) (Err NoSuchVariable) (Ok (or_else o (outermost (get_or m.top y None))))) (newest_past y new m.bindings (λ e. ne (sym e))),
    )

unbind_undoes : {T : Type 0} → UnbindUndoes T
unbind_undoes m m' x t b is = ap (λ v. unbind_of v) (bind_done m m' x t b (Ok tt) is refl).0

put_replaces : {T : Type 0} → PutReplaces T
put_replaces m m' x t front rest b h is =
    let list : replaced x t m.bindings ≡ front ++ (with_thing b t ∷ rest) = replaced_is m x front rest b h t in
    let keeps : cond (is_some (newest x m.bindings)) m.top (set m.top x (Some t)) ≡ m.top =
    ap (λ o. cond (is_some o) m.top (set m.top x (Some t))) (newest_is m x front rest b h) in
    let after : assigned m x t ≡ record { bindings = front ++ (with_thing b t ∷ rest); top = m.top; limit = m.limit } = cc in
    (put_done m m' x t (Ok tt) is refl).0 ∙ after

put_tops : {T : Type 0} → PutTops T
put_tops m m' x t free is =
    let none : newest x m.bindings ≡ None = free_newest x m.bindings free in
    let list : replaced x t m.bindings ≡ m.bindings = replaced_none x t m.bindings none in
    let takes : cond (is_some (newest x m.bindings)) m.top (set m.top x (Some t)) ≡ set m.top x (Some t) =
    ap (λ o. cond (is_some o) m.top (set m.top x (Some t))) none in
    let after : assigned m x t ≡ record { bindings = m.bindings; top = set m.top x (Some t); limit = m.limit } = cc in
    (put_done m m' x t (Ok tt) is refl).0 ∙ after

newest_replaced : {T : Type 0} (x : ℕ) (t : T) (bs : List (Binding T)) (p : T × ℕ) → newest x bs ≡ Some p → newest x (replaced x t bs) ≡ Some (t, p.1)
newest_replaced x t [] p h = absurd (cc)
newest_replaced x t (b ∷ bs) p h =
    ⊎_elim
    (λ e.
    let born : b.birthplace ≡ p.1 = let q : Some (b.thing, b.birthplace) ≡ Some p = sym (newest_here x b bs e) ∙ h in cc in
    ap (newest x) (replaced_here x b bs t e) ∙ newest_here x (with_thing b t) bs e ∙ ap (λ k. Some (t, k)) born)
    (λ ne.
    ap (newest x) (replaced_past x b bs t ne) ∙ newest_past x b (replaced x t bs) ne
    ∙ newest_replaced x t bs p (sym (newest_past x b bs ne) ∙ h))
    (cases_eq b.variable x)

newest_replaced_other : {T : Type 0} (x y : ℕ) (t : T) (bs : List (Binding T)) → (y ≡ x → ⊥) → newest y (replaced x t bs) ≡ newest y bs
newest_replaced_other x y t [] ne = refl
newest_replaced_other x y t (b ∷ bs) ne =
    ⊎_elim
    (λ e.
    ap (newest y) (replaced_here x b bs t e) ∙ newest_past y (with_thing b t) bs (λ e'. ne (sym e' ∙ e))
    ∙ sym (newest_past y b bs (λ e'. ne (sym e' ∙ e))))
    (λ other.
    ap (newest y) (replaced_past x b bs t other)
    ∙ ap (λ o. cond (eqb b.variable y) (Some (b.thing, b.birthplace)) o) (newest_replaced_other x y t bs ne))
    (cases_eq b.variable x)

-- what x shows after an assignment to it, by what its newest binding was
seen_assigned : {T : Type 0} (m : Meaning T) (x : ℕ) (t : T) → x < length m.top → (n : Option (T × ℕ)) → newest x m.bindings ≡ n
    → seen (assigned m x t) x ≡ Some (t, birthplace_in (or_else n (outermost (get_or m.top x None))))
seen_assigned m x t lt None h =
    let list : newest x (replaced x t m.bindings) ≡ None = ap (newest x) (replaced_none x t m.bindings h) ∙ h in
    let top : get_or (cond (is_some (newest x m.bindings)) m.top (set m.top x (Some t))) x None ≡ Some t =
    ap (λ o. get_or (cond (is_some o) m.top (set m.top x (Some t))) x None) h ∙ get_or-set_same m.top x (Some t) None lt in
    ap (λ o. or_else o (outermost (get_or (cond (is_some (newest x m.bindings)) m.top (set m.top x (Some t))) x None))) list
    ∙ ap outermost top ∙ ap (λ k. Some (t, k)) (outside (get_or m.top x None))
  where
    outside : {T : Type 0} (o : Option T) → 0 ≡ birthplace_in (outermost o)
    outside None = refl
    outside (Some s) = refl
seen_assigned m x t lt (Some p) h =
    ap (λ o. or_else o (outermost (get_or (assigned m x t).top x None))) (newest_replaced x t m.bindings p h)

put_shows : {T : Type 0} → PutShows T
put_shows m m' x t o size was is =
    let done = put_done m m' x t (Ok tt) is refl in
    let old = look_done m x o was in
    let here : look_of (assigned m x t) x ≡ Ok (Some (t, birthplace_in o)) =
    look_low (assigned m x t) x done.1 ∙ ap Ok (seen_assigned m x t (omega (arith, done.1)) (newest x m.bindings) refl)
    ∙ ap (λ v. Ok (Some (t, birthplace_in v))) (sym old.0) in (
      ap (λ v. look_of v x) done.0 ∙ here,
      λ y ne.
          let list : newest y (replaced x t m.bindings) ≡ newest y m.bindings = newest_replaced_other x y t m.bindings ne in
          let top : get_or (cond (is_some (newest x m.bindings)) m.top (set m.top x (Some t))) y None ≡ get_or m.top y None =
          cond_both (is_some (newest x m.bindings)) m.top (set m.top x (Some t)) (λ l. get_or l y None ≡ get_or m.top y None) (λ _. refl) (λ _. get_or-set_other m.top x y (Some t) None ne) in
          ap (λ v. look_of v y) done.0
          ∙ ap (λ v. cond (ltb 31 y) (Err NoSuchVariable) (Ok (or_else v (outermost (get_or (assigned m x t).top y None))))) list
          ∙ ap (λ v. cond (ltb 31 y) (Err NoSuchVariable) (Ok (or_else (newest y m.bindings) (outermost v)))) top,
    )

pub clear_formed : {T : Type 0} (m : Meaning T) → Formed (clear_of m)
clear_formed m = record { room = omega arith; places = refl }

pub bind_formed : {T : Type 0} (m : Meaning T) (x : ℕ) (t : T) (b : ℕ) → Formed m → Formed (bind_of m x t b).1
bind_formed {T} m x t b h =
    let P : Result (Unit {0}) Fault × Meaning T → Type 0 = λ p. Formed p.1 in
    cond_both (ltb 31 x) _ _ P (λ _. h)
    (λ _. cond_both (eqb (count_of m) m.limit) _ _ P (λ _. h)
    (λ e. let ne = eqb-false _ _ e in let le = h.room in record { room = omega arith; places = h.places }))

pub unbind_formed : {T : Type 0} (m : Meaning T) → Formed m → Formed (unbind_of m).1
unbind_formed m h = from m.bindings m.top m.limit h.room h.places
  where
    from : {T : Type 0} (bs : List (Binding T)) (top : List (Option T)) (n : ℕ) → length bs ≤ n → length top ≡ 32 → Formed (unbound bs top n).1
    from [] top n room size = record { room = room; places = size }
    from (b ∷ bs) top n room size = record { room = omega arith; places = size }

pub put_formed : {T : Type 0} (m : Meaning T) (x : ℕ) (t : T) → Formed m → Formed (put_of m x t).1
put_formed {T} m x t h =
    let P : Result (Unit {0}) Fault × Meaning T → Type 0 = λ p. Formed p.1 in
    let long : length (assigned m x t).top ≡ 32 =
    cond_both (is_some (newest x m.bindings)) m.top (set m.top x (Some t)) (λ l. length l ≡ 32) (λ _. h.places) (λ _. length-set m.top x (Some t) ∙ h.places) in
    let same = length_replaced x t m.bindings in
    let le = h.room in
    cond_both (ltb 31 x) _ _ P (λ _. h) (λ _. record { room = omega arith; places = long })

pub lawful : (T : Type 0) → Lawful T
lawful T = record {
  look_newest = look_newest;
  bind_shows = bind_shows;
  unbind_undoes = unbind_undoes;
  put_replaces = put_replaces;
  put_tops = put_tops;
  put_shows = put_shows;
  refused_same = record {
    bind = λ m m' x t b e is. bind_refused m m' x t b (Err e) is e refl;
    unbind = λ m m' e is. (unbind_refused m m' (Err e) is e refl).0;
    put = λ m m' x t e is. (put_refused m m' x t (Err e) is e refl).0;
  };
  stays_formed = record { clear = clear_formed; bind = bind_formed; unbind = unbind_formed; put = put_formed };
}
