-- An answer that tells two things, and a store that was cleared.
use Rattle.std.proofs.Common.{◌≡◌, ℕ, Bool, Ok, Result, sym, ap, ◌∙◌}
use Rattle.faults.specs.declared.fault.Fault.{Fault}
use Rattle.stores.specs.Meaning.{Meaning, new_store, clear_of}

-- an answer that is what was noticed tells both parts
pub both : (o : ℕ) (k : Bool) (q : ℕ × Bool) (o' : ℕ) (k' : Bool) (r : Result (ℕ × Bool) Fault) → r ≡ Ok (o, k) → r ≡ Ok q → q ≡ (o', k') → (o ≡ o') × (k ≡ k')
both o k q o' k' r was is noted =
    let e : Ok (o, k) ≡ Ok q = sym was ∙ is in
    let pair : (o, k) ≡ q = cc in
    let all : (o, k) ≡ (o', k') = pair ∙ noted in
    (ap (λ (u : ℕ × Bool). u.0) all, ap (λ (u : ℕ × Bool). u.1) all)

-- a store that was cleared is a new one
pub cleared_new : (m m' : Meaning ℕ) → m' ≡ clear_of m → m' ≡ new_store ℕ m'.limit
cleared_new m m' e = e ∙ ap (new_store ℕ) (sym (ap (λ (u : Meaning ℕ). u.limit) e))
