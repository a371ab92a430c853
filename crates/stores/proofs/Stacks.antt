-- What a caller learns from the equation of a push and a pop: r is the answer and s' the stack after.
use Rattle.std.proofs.Common.{◌≡◌, suc, [], ◌∷◌, Ok, Err, Result, arith}
use Rattle.faults.specs.declared.fault.Fault.{Fault}
use Rattle.faults.specs.declared.fault.Fault.TheVariants.{StoreFull, StoreEmpty}
use Rattle.stores.specs.Stack.{Stacked, push_of, pop_of}

module _ {R : Type 0} (s s' : Stacked R) (x : R) (r : Result (Unit {0}) Fault) (is : (r, s') ≡ push_of s x) where
  pub push_done : r ≡ Ok tt → (s'.items ≡ x ∷ s.items) × (s.free ≡ suc s'.free)
  push_done ok = grind arith

  pub push_refused : (e : Fault) → r ≡ Err e → (e ≡ StoreFull) × (s.free ≡ 0) × (s' ≡ s)
  push_refused e err = grind arith

module _ {R : Type 0} (s s' : Stacked R) (r : Result R Fault) (is : (r, s') ≡ pop_of s) where
  pub pop_done : (x : R) → r ≡ Ok x → (s.items ≡ x ∷ s'.items) × (s'.free ≡ suc s.free)
  pop_done x ok = grind arith

  pub pop_refused : (e : Fault) → r ≡ Err e → (e ≡ StoreEmpty) × (s.items ≡ []) × (s' ≡ s)
  pop_refused e err = grind arith
