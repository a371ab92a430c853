-- What a search of the bindings tells of them.
use Rattle.std.proofs.Common.{◌≡◌, ℕ, suc, ◌+◌, ◌<◌, ◌≤◌, Bool, true, false, not, cond, eqb, List, [], ◌∷◌, length, get_or, slice_get, set, Some, None, Ok, Option, position, find, option_map, sym, refl, ap, ◌∙◌, arith, length-set}
use Rattle.std.specs.List.{position_or_len}
use Rattle.std.proofs.lemmas.Bool.Decides.{nat_tests}
use Rattle.std.proofs.lemmas.List.Folds.{find_at}
use Rattle.std.proofs.lemmas.Option.{slice_get_read, slice_get_cases}
use Rattle.stores.specs.declared.binding.Binding.{Binding}
use Rattle.stores.specs.Stack.{Stacked, capacity_of, set_of}
use Rattle.stores.specs.Meaning.{newest, outermost, or_else, replaced, look_of, put_of}
use Rattle.stores.proofs.Bindings.{with_thing}
use Rattle.stores.proofs.Calls as calls
use Rattle.deep.specs.Records.{held}

module _ {X : Type 0} (p : X → Bool) (xs : List X) where
  place_found : (i : ℕ) → Some i ≡ position p xs → (i < length xs) × (i ≡ position_or_len p xs)
  place_found i e = grind (arith, nat_tests)

  pub item_found : (i : ℕ) (x : X) → Some i ≡ position p xs → x ≡ get_or xs i x → Some x ≡ find p xs
  item_found i x e is =
      let f = place_found i e in
      sym (find_at p xs ∙ ap (λ k. slice_get xs k) (sym f.1) ∙ slice_get_read xs (length xs) i x refl f.0 is)

  pub none_found : None ≡ position p xs → None ≡ find p xs
  none_found e = grind (arith, nat_tests, find_at, slice_get_cases)

abbrev pub of : {T : Type 0} → ℕ → Binding T → Bool
of x b = eqb b.variable x

newest_find : {T : Type 0} (x : ℕ) (bs : List (Binding T)) → newest x bs ≡ option_map (λ b. (b.thing, b.birthplace)) (find (of x) bs)
newest_find x [] = refl
newest_find x (b ∷ bs) =
    elim (eqb b.variable x) as (λ v. cond v (Some (b.thing, b.birthplace)) (newest x bs) ≡ option_map (λ b. (b.thing, b.birthplace)) (cond v (Some b) (find (of x) bs)))
    [ true ↦ refl | false ↦ newest_find x bs ]

replaced_find : {T : Type 0} (x : ℕ) (t : T) (bs : List (Binding T)) (b : Binding T) → Some b ≡ find (of x) bs → replaced x t bs ≡ set bs (position_or_len (of x) bs) (with_thing b t)
replaced_find x t [] b h = absurd (cc)
replaced_find {T} x t (a ∷ bs) b h =
    let P : Bool → Type 0 = λ v. Some b ≡ cond v (Some a) (find (of x) bs) → cond v (with_thing a t ∷ bs) (a ∷ replaced x t bs) ≡ set (a ∷ bs) (cond (not v) (1 + position_or_len (of x) bs) 0) (with_thing b t) in
    let both : (v : Bool) → P v = λ v. elim v as P [ true ↦ λ e. (cc) | false ↦ λ e. ap (λ l. a ∷ l) (replaced_find x t bs b e) ∙ ap (λ k. set (a ∷ bs) k (with_thing b t)) (let more : suc (position_or_len (of x) bs) ≡ 1 + position_or_len (of x) bs = omega arith in more) ] in
    both (eqb a.variable x) h

module _ {T : Type 0} (s : Stacked (Binding T)) (top : List (Option T)) (x : ℕ) (low : x ≤ 31) where
  pub look_bound : (b : Binding T) → Some b ≡ find (of x) s.items → Ok (Some (b.thing, b.birthplace)) ≡ look_of (held s top) x
  look_bound b e =
      calls.look_low (held s top) x _ low
      (ap (λ o. or_else (option_map (λ v. (v.thing, v.birthplace)) o) (outermost (get_or top x None))) e
      ∙ ap (λ o. or_else o (outermost (get_or top x None))) (sym (newest_find x s.items)))

  pub look_free : None ≡ find (of x) s.items → Ok (outermost (get_or top x None)) ≡ look_of (held s top) x
  look_free e =
      calls.look_low (held s top) x _ low
      (ap (λ o. or_else (option_map (λ v. (v.thing, v.birthplace)) o) (outermost (get_or top x None))) e
      ∙ ap (λ o. or_else o (outermost (get_or top x None))) (sym (newest_find x s.items)))

  pub put_bound : (i : ℕ) (b : Binding T) (t : T) → Some i ≡ position (of x) s.items → Some b ≡ find (of x) s.items → (Ok tt, held (set_of s i (with_thing b t)) top) ≡ put_of (held s top) x t
  put_bound i b t at e =
      let shown : newest x s.items ≡ Some (b.thing, b.birthplace) = newest_find x s.items ∙ ap (option_map (λ v. (v.thing, v.birthplace))) (sym e) in
      let list : set s.items i (with_thing b t) ≡ replaced x t s.items = ap (λ k. set s.items k (with_thing b t)) (place_found (of x) s.items i at).1 ∙ sym (replaced_find x t s.items b e) in
      let long : length (set s.items i (with_thing b t)) ≡ length s.items = length-set s.items i (with_thing b t) in
      calls.put_bound s.items (set s.items i (with_thing b t)) top top (capacity_of s) (capacity_of (set_of s i (with_thing b t))) (ap (λ n. n + s.free) long) x t low _ shown list refl

  pub put_free : (t : T) → None ≡ find (of x) s.items → (Ok tt, held s (set top x (Some t))) ≡ put_of (held s top) x t
  put_free t e =
      calls.put_top s.items s.items top (set top x (Some t)) (capacity_of s) (capacity_of s) refl x t low
      (newest_find x s.items ∙ ap (option_map (λ v. (v.thing, v.birthplace))) (sym e)) refl refl
