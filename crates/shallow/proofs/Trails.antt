-- The calls of a store whose bindings are what its cells and its trail stand for.
use Rattle.std.proofs.Common.{◌≡◌, ℕ, suc, ◌+◌, ◌≤◌, true, List, [], ◌∷◌, length, get_or, set, replicate, is_some, Some, None, Ok, Err, Option, Result, sym, refl, ap, ◌∙◌, arith}
use Rattle.faults.specs.declared.fault.Fault.{Fault}
use Rattle.faults.specs.declared.fault.Fault.TheVariants.{StoreFull, StoreEmpty}
use Rattle.stores.specs.declared.binding.Binding.{Binding}
use Rattle.shallow.specs.declared.saved.Saved.{Saved}
use Rattle.stores.specs.Stack.{Stacked, capacity_of, new_stack, push_of, pop_of}
use Rattle.stores.specs.Meaning.{new_store, bound, bind_of, unbind_of, look_of, or_else, outermost, put_of}
use Rattle.shallow.specs.Trail.{ahead, unwind, unwound, sound}
use Rattle.stores.proofs.Stacks.{push_done, push_refused, pop_done, pop_refused}
use Rattle.stores.proofs.Calls as calls
use Rattle.shallow.proofs.Lengths.{Parts, sound_parts, length_unwind}
use Rattle.shallow.proofs.Unwinds.{vacant_none, newest_unwind, sound_new, unwind_new, unwind_put, sound_put}

-- nothing bound
module _ {T : Type 0} (cells : List (Option (T × ℕ))) (s : Stacked (Saved T)) (n : ℕ) (is : s ≡ new_stack (Saved T) n) where
  pub sound_none : cells ≡ replicate 32 None → sound cells s.items ≡ true
  unfolding sound
  sound_none e = ap (λ v. sound cells v.items) is ∙ rw e (vacant_none (T × ℕ) 32)

  pub unwound_none : (top : List (Option T)) → top ≡ replicate 32 None → unwound cells s top ≡ new_store T n
  unfolding unwind
  unwound_none top e =
      let limit : 0 + n ≡ n = omega arith in
      ap (λ v. unwound cells v top) is ∙ ap (λ k. record { bindings = []; top = top; limit = k }) limit ∙ ap (λ l. record { bindings = []; top = l; limit = n }) e

module _ {T : Type 0} (cells : List (Option (T × ℕ))) (s : Stacked (Saved T)) (top : List (Option T)) (good : sound cells s.items ≡ true) where
  pub counted : length s.items ≡ length (unwind cells s.items)
  counted = sym (length_unwind cells s.items good)

  -- ---- look
  pub look_cell : (x : ℕ) (p : T × ℕ) → x ≤ 31 → Some p ≡ get_or cells x None → Ok (Some p) ≡ look_of (unwound cells s top) x
  look_cell x p low is =
      calls.look_low (unwound cells s top) x _ low
      (ap (λ o. or_else o (outermost (get_or top x None))) (is ∙ sym (newest_unwind x cells s.items good)))

  pub look_top : (x : ℕ) → x ≤ 31 → None ≡ get_or cells x None → Ok (outermost (get_or top x None)) ≡ look_of (unwound cells s top) x
  look_top x low none =
      calls.look_low (unwound cells s top) x _ low
      (ap (λ p. or_else p (outermost (get_or top x None))) (none ∙ sym (newest_unwind x cells s.items good)))

  -- ---- bind
  module _ (x : ℕ) (t : T) (b : ℕ) (covered : Option (T × ℕ)) (s' : Stacked (Saved T)) (r : Result (Unit {0}) Fault) (low : x ≤ 31) (was : covered ≡ get_or cells x None)
      (is : (r, s') ≡ push_of s (record { variable = x; covered = covered })) where
    pub bind_refused : (e : Fault) → r ≡ Err e → (Err e, unwound cells s' top) ≡ bind_of (unwound cells s top) x t b
    bind_refused e err =
        let p = push_refused s s' (record { variable = x; covered = covered }) r is e err in
        let l = counted in
        ap (λ v. (Err v, unwound cells s' top)) p.0 ∙ ap (λ v. (Err StoreFull, unwound cells v top)) p.2 ∙ calls.bind_full (unwound cells s top) x t b low (omega arith)

    module _ (done : r ≡ Ok tt) (cells' : List (Option (T × ℕ))) (size : length cells ≡ 32) (now-is : cells' ≡ set cells x (Some (t, b))) where
      pushed : s'.items ≡ record { variable = x; covered = get_or cells x None } ∷ s.items
      pushed = (push_done s s' (record { variable = x; covered = covered }) r is done).0 ∙ ap (λ o. record { variable = x; covered = o } ∷ s.items) was

      pub bind_sound : sound cells' s'.items ≡ true
      bind_sound = ap (λ l. sound l s'.items) now-is ∙ ap (sound (set cells x (Some (t, b)))) pushed ∙ sound_new x cells s.items (t, b) low size good

      pub bind_done : (Ok tt, unwound cells' s' top) ≡ bind_of (unwound cells s top) x t b
      bind_done =
          let list : unwind cells' s'.items ≡ record { variable = x; thing = t; birthplace = b } ∷ unwind cells s.items =
          ap (λ l. unwind l s'.items) now-is ∙ ap (unwind (set cells x (Some (t, b)))) pushed ∙ unwind_new x cells s.items (t, b) low size in
          let free : s.free ≡ suc s'.free = (push_done s s' (record { variable = x; covered = covered }) r is done).1 in
          let long : length s'.items ≡ suc (length s.items) = ap length pushed in
          let limit : capacity_of s' ≡ capacity_of s = omega arith in
          let after : unwound cells' s' top ≡ bound (unwound cells s top) x t b = cc in
          calls.bind_room (unwound cells s top) x t b _ low (λ e. let l = counted in omega arith) after

  -- ---- unbind
  module _ (s' : Stacked (Saved T)) (r : Result (Saved T) Fault) (is : (r, s') ≡ pop_of s) where
    pub unbind_refused : (e : Fault) → r ≡ Err e → (Err e, unwound cells s' top) ≡ unbind_of (unwound cells s top)
    unfolding unwind
    unbind_refused e err =
        let p = pop_refused s s' r is e err in
        let none : (Err StoreEmpty, unwound cells s top) ≡ unbind_of (unwound cells s top) = rw p.1 refl in
        ap (λ v. (Err v, unwound cells s' top)) p.0 ∙ ap (λ v. (Err StoreEmpty, unwound cells v top)) p.2 ∙ none

    module _ (d : Saved T) (done : r ≡ Ok d) (cells' : List (Option (T × ℕ))) (now-is : cells' ≡ set cells d.variable d.covered) where
      popped : s.items ≡ d ∷ s'.items
      popped = (pop_done s s' r is d done).0

      parts : Parts cells d s'.items
      parts = sound_parts cells d s'.items (ap (sound cells) (sym popped) ∙ good)

      pub unbind_sound : sound cells' s'.items ≡ true
      unbind_sound = ap (λ l. sound l s'.items) now-is ∙ parts.rest

      off : (o : Option (T × ℕ)) (bs : List (Binding T)) (n : ℕ) → is_some o ≡ true
          → (Ok tt, record { bindings = bs; top = top; limit = n }) ≡ unbind_of (record { bindings = ahead d.variable o bs; top = top; limit = n })
      off None bs n h = absurd (cc)
      off (Some p) bs n h = refl

      pub unbind_done : (Ok tt, unwound cells' s' top) ≡ unbind_of (unwound cells s top)
      unfolding unwind
      unbind_done =
          let free : s'.free ≡ suc s.free = (pop_done s s' r is d done).1 in
          let long : length s.items ≡ suc (length s'.items) = ap length popped in
          let limit : capacity_of s' ≡ capacity_of s = omega arith in
          ap (λ n. (Ok tt, record { bindings = unwind cells' s'.items; top = top; limit = n })) limit
          ∙ ap (λ l. (Ok tt, record { bindings = unwind l s'.items; top = top; limit = capacity_of s })) now-is
          ∙ off (get_or cells d.variable None) (unwind (set cells d.variable d.covered) s'.items) (capacity_of s) parts.there
          ∙ ap (λ l. unbind_of (record { bindings = unwind cells l; top = top; limit = capacity_of s })) (sym popped)

  -- ---- put
  module _ (x : ℕ) (t : T) (low : x ≤ 31) where
    module _ (size : length cells ≡ 32) (p : T × ℕ) (there : get_or cells x None ≡ Some p) (cells' : List (Option (T × ℕ))) (now-is : cells' ≡ set cells x (Some (t, p.1))) where
      pub put_sound : sound cells' s.items ≡ true
      put_sound = ap (λ l. sound l s.items) now-is ∙ sound_put x (t, p.1) p cells s.items (omega arith) there good

      pub put_cell : (Ok tt, unwound cells' s top) ≡ put_of (unwound cells s top) x t
      put_cell =
          calls.put_bound (unwind cells s.items) (unwind cells' s.items) top top (capacity_of s) (capacity_of s) refl x t low p
          (newest_unwind x cells s.items good ∙ there)
          (ap (λ l. unwind l s.items) now-is ∙ unwind_put x t p cells s.items (omega arith) there good)
          refl

    pub put_top : (top' : List (Option T)) → get_or cells x None ≡ None → top' ≡ set top x (Some t) → (Ok tt, unwound cells s top') ≡ put_of (unwound cells s top) x t
    put_top top' none e =
        calls.put_top (unwind cells s.items) (unwind cells s.items) top top' (capacity_of s) (capacity_of s) refl x t low
        (newest_unwind x cells s.items good ∙ none) refl e
