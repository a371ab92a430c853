-- Whether something binds a variable, as a test and as a fact.
use Rattle.std.proofs.Common.{◌≡◌, ℕ, true, Some, None, Option, refl, ap, ◌∙◌}
use Rattle.std.proofs.lemmas.Bool.{false≢true, eqb-true, eq-eqb}
use Rattle.terms.specs.Script.{binds_variable}

pub is_bound : (o : Option ℕ) (x : ℕ) → binds_variable o x ≡ true → o ≡ Some x
is_bound None x h = absurd (false≢true h)
is_bound (Some y) x h = ap Some (eqb-true y x h)

pub bound_is : (o : Option ℕ) (x : ℕ) → o ≡ Some x → binds_variable o x ≡ true
bound_is o x e = ap (λ u. binds_variable u x) e ∙ eq-eqb x x refl
