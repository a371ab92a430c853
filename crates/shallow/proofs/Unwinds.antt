-- The bindings that cells and a trail stand for, and how a new binding and an assignment change them.
use Rattle.std.proofs.Common.{◌≡◌, ℕ, zero, suc, ◌<◌, ◌≤◌, true, List, [], ◌∷◌, length, get_or, set, replicate, is_some, Some, None, Option, sym, refl, ap, ◌∙◌, ⊎_elim, arith, length-set}
use Rattle.std.proofs.lemmas.List.{get_or-set_same, get_or-set_other, set-set, set_comm, set-get_or}
use Rattle.std.proofs.lemmas.Bool.{le-leb, and_from, cases_eq}
use Rattle.stores.specs.declared.binding.Binding.{Binding}
use Rattle.shallow.specs.declared.saved.Saved.{Saved}
use Rattle.stores.specs.Meaning.{newest, replaced}
use Rattle.shallow.specs.Trail.{ahead, unwind, vacant, sound}
use Rattle.shallow.proofs.Lengths.{Parts, sound_parts}
use Rattle.stores.proofs.Bindings.{newest_here, newest_past, replaced_here, replaced_past}

-- ---- empty cells
vacant_at : {X : Type 0} (os : List (Option X)) → vacant os ≡ true → (x : ℕ) → get_or os x None ≡ None
vacant_at [] h x = refl
vacant_at (None ∷ os) h zero = refl
vacant_at (None ∷ os) h (suc x) = vacant_at os h x
vacant_at (Some a ∷ os) h x = absurd (cc)

pub vacant_none : (X : Type 0) (n : ℕ) → vacant {X = X} (replicate n None) ≡ true
vacant_none X zero = refl
vacant_none X (suc n) = vacant_none X n

-- ---- the binding in a cell of v, ahead of others
module _ {T : Type 0} (x v : ℕ) (bs : List (Binding T)) where
  newest_ahead : (o : Option (T × ℕ)) → is_some o ≡ true → v ≡ x → newest x (ahead v o bs) ≡ o
  newest_ahead None h e = absurd (cc)
  newest_ahead (Some p) h e = newest_here x (record { variable = v; thing = p.0; birthplace = p.1 }) bs e

  newest_behind : (o : Option (T × ℕ)) → (v ≡ x → ⊥) → newest x (ahead v o bs) ≡ newest x bs
  newest_behind None ne = refl
  newest_behind (Some p) ne = newest_past x (record { variable = v; thing = p.0; birthplace = p.1 }) bs ne

  replaced_ahead : (t : T) (p : T × ℕ) → v ≡ x → replaced x t (ahead v (Some p) bs) ≡ ahead v (Some (t, p.1)) bs
  replaced_ahead t p e = replaced_here x (record { variable = v; thing = p.0; birthplace = p.1 }) bs t e

  replaced_behind : (t : T) (o : Option (T × ℕ)) → (v ≡ x → ⊥) → replaced x t (ahead v o bs) ≡ ahead v o (replaced x t bs)
  replaced_behind t None ne = refl
  replaced_behind t (Some p) ne = replaced_past x (record { variable = v; thing = p.0; birthplace = p.1 }) bs t ne

-- ---- a sound trail
sound_from : {T : Type 0} (cells : List (Option (T × ℕ))) (s : Saved T) (ss : List (Saved T)) → Parts cells s ss → sound cells (s ∷ ss) ≡ true
unfolding sound
sound_from cells s ss p = and_from _ _ (le-leb _ _ p.low) (and_from _ _ p.there p.rest)

-- the newest binding of each variable is in its cell
pub newest_unwind : {T : Type 0} (x : ℕ) (cells : List (Option (T × ℕ))) (ss : List (Saved T)) → sound cells ss ≡ true → newest x (unwind cells ss) ≡ get_or cells x None
unfolding unwind sound
newest_unwind x cells [] h = sym (vacant_at cells h x)
newest_unwind x cells (s ∷ ss) h =
    let p = sound_parts cells s ss h in
    let v = s.variable in
    ⊎_elim
    (λ e. newest_ahead x v _ (get_or cells v None) p.there e ∙ ap (λ k. get_or cells k None) e)
    (λ ne.
    newest_behind x v _ (get_or cells v None) ne ∙ newest_unwind x (set cells v s.covered) ss p.rest
    ∙ get_or-set_other cells v x s.covered None (λ e. ne (sym e)))
    (cases_eq v x)

-- ---- a new binding of x
module _ {T : Type 0} (x : ℕ) (cells : List (Option (T × ℕ))) (ss : List (Saved T)) (q : T × ℕ) (low : x ≤ 31) (size : length cells ≡ 32) where
  put_back : set (set cells x (Some q)) x (get_or cells x None) ≡ cells
  put_back = set-set cells x (Some q) (get_or cells x None) ∙ set-get_or cells x None

  in_cell : get_or (set cells x (Some q)) x None ≡ Some q
  in_cell = get_or-set_same cells x (Some q) None (omega arith)

  pub sound_new : sound cells ss ≡ true → sound (set cells x (Some q)) (record { variable = x; covered = get_or cells x None } ∷ ss) ≡ true
  sound_new h = sound_from _ _ _ (record { low = low; there = ap is_some in_cell; rest = ap (λ l. sound l ss) put_back ∙ h })

  pub unwind_new : unwind (set cells x (Some q)) (record { variable = x; covered = get_or cells x None } ∷ ss) ≡ record { variable = x; thing = q.0; birthplace = q.1 } ∷ unwind cells ss
  unfolding unwind
  unwind_new =
      ap (λ o. ahead x o (unwind (set (set cells x (Some q)) x (get_or cells x None)) ss)) in_cell ∙ ap (λ l. ahead x (Some q) (unwind l ss)) put_back

-- ---- another thing for x, whose cell is full
pub unwind_put : {T : Type 0} (x : ℕ) (t : T) (p : T × ℕ) (cells : List (Option (T × ℕ))) (ss : List (Saved T)) → x < length cells → get_or cells x None ≡ Some p → sound cells ss ≡ true
    → unwind (set cells x (Some (t, p.1))) ss ≡ replaced x t (unwind cells ss)
unfolding unwind
unwind_put x t p cells [] lt there h = refl
unwind_put x t p cells (s ∷ ss) lt there h =
    let h' = sound_parts cells s ss h in
    let v = s.variable in
    let c = s.covered in
    let q : Option _ = Some (t, p.1) in
    ⊎_elim
    (λ e.
    let here : get_or cells v None ≡ Some p = ap (λ k. get_or cells k None) e ∙ there in
    let after : get_or (set cells x q) v None ≡ q = ap (λ k. get_or (set cells x q) k None) e ∙ get_or-set_same cells x q None lt in
    let back : set (set cells x q) v c ≡ set cells v c = ap (λ k. set (set cells x q) k c) e ∙ set-set cells x q c ∙ ap (λ k. set cells k c) (sym e) in
    ap (λ o. ahead v o (unwind (set (set cells x q) v c) ss)) after ∙ ap (λ l. ahead v q (unwind l ss)) back
    ∙ sym (ap (λ o. replaced x t (ahead v o (unwind (set cells v c) ss))) here ∙ replaced_ahead x v (unwind (set cells v c) ss) t p e))
    (λ ne.
    let same : get_or (set cells x q) v None ≡ get_or cells v None = get_or-set_other cells x v q None ne in
    let back : set (set cells x q) v c ≡ set (set cells v c) x q = set_comm cells x v q c (λ e. ne (sym e)) in
    let still : get_or (set cells v c) x None ≡ Some p = get_or-set_other cells v x c None (λ e. ne (sym e)) ∙ there in
    let long : x < length (set cells v c) = simp length-set lt in
    ap (λ o. ahead v o (unwind (set (set cells x q) v c) ss)) same ∙ ap (λ l. ahead v (get_or cells v None) (unwind l ss)) back
    ∙ ap (ahead v (get_or cells v None)) (unwind_put x t p (set cells v c) ss long still h'.rest)
    ∙ sym (replaced_behind x v (unwind (set cells v c) ss) t (get_or cells v None) ne))
    (cases_eq v x)

pub sound_put : {T : Type 0} (x : ℕ) (q p : T × ℕ) (cells : List (Option (T × ℕ))) (ss : List (Saved T)) → x < length cells → get_or cells x None ≡ Some p → sound cells ss ≡ true
    → sound (set cells x (Some q)) ss ≡ true
unfolding sound
sound_put x q p cells [] lt there h = let no_thing = vacant_at cells h x in absurd (cc)
sound_put x q p cells (s ∷ ss) lt there h =
    let h' = sound_parts cells s ss h in
    let v = s.variable in
    let c = s.covered in
    ⊎_elim
    (λ e.
    let after : get_or (set cells x (Some q)) v None ≡ Some q = ap (λ k. get_or (set cells x (Some q)) k None) e ∙ get_or-set_same cells x (Some q) None lt in
    let back : set (set cells x (Some q)) v c ≡ set cells v c = ap (λ k. set (set cells x (Some q)) k c) e ∙ set-set cells x (Some q) c ∙ ap (λ k. set cells k c) (sym e) in
    sound_from _ s ss (record { low = h'.low; there = ap is_some after; rest = ap (λ l. sound l ss) back ∙ h'.rest }))
    (λ ne.
    let same : get_or (set cells x (Some q)) v None ≡ get_or cells v None = get_or-set_other cells x v (Some q) None ne in
    let back : set (set cells x (Some q)) v c ≡ set (set cells v c) x (Some q) = set_comm cells x v (Some q) c (λ e. ne (sym e)) in
    let still : get_or (set cells v c) x None ≡ Some p = get_or-set_other cells v x c None (λ e. ne (sym e)) ∙ there in
    let long : x < length (set cells v c) = simp length-set lt in
    sound_from _ s ss (record { low = h'.low; there = ap is_some same ∙ h'.there; rest = ap (λ l. sound l ss) back ∙ sound_put x q p (set cells v c) ss long still h'.rest }))
    (cases_eq v x)
