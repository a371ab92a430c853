-- What a store shows to meet the equation of a call, however it keeps its bindings.
use Rattle.std.proofs.Common.{◌≡◌, ℕ, ◌<◌, ◌≤◌, cond, ltb, List, ◌∷◌, set, Some, None, Ok, Err, Option, Result, sym, ap, ◌∙◌, arith}
use Rattle.std.proofs.lemmas.Bool.{lt-ltb, cond-true}
use Rattle.std.proofs.lemmas.Bool.Decides.{nat_tests}
use Rattle.faults.specs.declared.fault.Fault.{Fault}
use Rattle.faults.specs.declared.fault.Fault.TheVariants.{NoSuchVariable, StoreFull}
use Rattle.stores.specs.declared.binding.Binding.{Binding}
use Rattle.stores.specs.Meaning.{Meaning, count_of, bound, bind_of, unbind_of, newest, seen, look_of, replaced, put_of}
use Rattle.stores.proofs.Bindings.{replaced_none}

-- what passes the check is a variable
pub known : (x : ℕ) (r : Result (Unit {0}) Fault) → r ≡ cond (ltb 31 x) (Err NoSuchVariable) (Ok tt) → r ≡ Ok tt → x ≤ 31
known x r is ok = grind (arith, nat_tests)

module _ {T : Type 0} (m : Meaning T) where
  pub bind_high : (x : ℕ) (t : T) (b : ℕ) → 31 < x → (Err NoSuchVariable, m) ≡ bind_of m x t b
  bind_high x t b high = sym (cond-true (ltb 31 x) _ _ (lt-ltb 31 x high))

  pub bind_full : (x : ℕ) (t : T) (b : ℕ) → x ≤ 31 → count_of m ≡ m.limit → (Err StoreFull, m) ≡ bind_of m x t b
  bind_full x t b low full = grind (arith, nat_tests)

  pub bind_room : (x : ℕ) (t : T) (b : ℕ) (m' : Meaning T) → x ≤ 31 → (count_of m ≡ m.limit → ⊥) → m' ≡ bound m x t b → (Ok tt, m') ≡ bind_of m x t b
  bind_room x t b m' low room is = grind (arith, nat_tests)

  pub look_high : (x : ℕ) → 31 < x → Err NoSuchVariable ≡ look_of m x
  look_high x high = sym (cond-true (ltb 31 x) _ _ (lt-ltb 31 x high))

  pub look_low : (x : ℕ) (o : Option (T × ℕ)) → x ≤ 31 → o ≡ seen m x → Ok o ≡ look_of m x
  look_low x o low is = grind (arith, nat_tests)

  pub put_high : (x : ℕ) (t : T) → 31 < x → (Err NoSuchVariable, m) ≡ put_of m x t
  put_high x t high = sym (cond-true (ltb 31 x) _ _ (lt-ltb 31 x high))

module _ {T : Type 0} (bs bs' : List (Binding T)) (top top' : List (Option T)) (n n' : ℕ) (same : n' ≡ n) where
  abbrev m : Meaning T
  m = record { bindings = bs; top = top; limit = n }

  abbrev m' : Meaning T
  m' = record { bindings = bs'; top = top'; limit = n' }

  pub unbind_one : (b : Binding T) → bs ≡ b ∷ bs' → top' ≡ top → (Ok tt, m') ≡ unbind_of m
  unbind_one b list e =
      let is : m' ≡ record { bindings = bs'; top = top; limit = n } = cc in
      ap (λ v. (Ok tt, v)) is ∙ ap (λ l. unbind_of (record { bindings = l; top = top; limit = n })) (sym list)

  module _ (x : ℕ) (t : T) (low : x ≤ 31) where
    -- while a binding of x stands
    pub put_bound : (p : T × ℕ) → newest x bs ≡ Some p → bs' ≡ replaced x t bs → top' ≡ top → (Ok tt, m') ≡ put_of m x t
    put_bound p there list e = grind (arith, nat_tests)

    -- while none stands
    pub put_top : newest x bs ≡ None → bs' ≡ bs → top' ≡ set top x (Some t) → (Ok tt, m') ≡ put_of m x t
    put_top none list e = grind (arith, nat_tests, replaced_none)
