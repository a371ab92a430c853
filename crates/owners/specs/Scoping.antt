-- The scopes that stand open at a label, as the walk keeps them.
use Rattle.std.specs.Prelude.{ℕ, zero, suc, Bool, cond, not, ◌&&◌, List, [], ◌∷◌, map, is_some, Some, None, Option, ◌==◌, nat_lt}
use Rattle.std.specs.Option.{unwrap_or}
use Rattle.terms.specs.Script.{Script, first, spans, binds, is_body}
use Rattle.stores.specs.declared.binding.Binding.{Binding}
use Rattle.stores.specs.Meaning.{newest}
use Rattle.owners.specs.declared.scope.Scope.{Scope}
use Rattle.owners.specs.declared.owner.Owner.{Owner}
use Rattle.owners.specs.Owners.{owner, captured}

abbrev pub scope : ℕ → ℕ → Scope
scope b g = record { binder = b; function = g }

-- the innermost of the open scopes; outside all, no binder and no function
abbrev pub innermost : List Scope → Scope
innermost [] = scope 0 0
innermost (s ∷ ss) = s

-- the binding that the store holds for an open scope
abbrev pub binding_of : Script → Scope → Binding ℕ
binding_of p s = record { variable = unwrap_or (binds p s.binder) 0; thing = s.function; birthplace = s.binder }

-- going down to label l, the scopes that begin above it are left
abbrev pub left_at : Script → ℕ → List Scope → List Scope
left_at p l [] = []
left_at p l (s ∷ ss) = cond (nat_lt l (first p s.binder)) (left_at p l ss) (s ∷ ss)

-- and a binder is entered; what it holds is enclosed by it if it is a function body
abbrev pub entered : Script → ℕ → List Scope → List Scope
entered p l ss = cond (is_some (binds p l)) (scope l (cond (is_body p l) l (innermost ss).function) ∷ ss) ss

-- the binders among n numbers from b on whose span holds l, with the function that encloses what each holds
unfoldable pub opened : Script → ℕ → ℕ → ℕ → List Scope
opened p l zero b = []
opened p l (suc n) b =
    cond (is_some (binds p b) && spans p b l)
    (scope b (cond (is_body p b) b (innermost (opened p l n (suc b))).function) ∷ opened p l n (suc b))
    (opened p l n (suc b))

-- the scopes that are open at l, the innermost first
unfoldable pub scopes_at : Script → ℕ → List Scope
scopes_at p l = opened p l 256 0

-- what a look at the open scopes tells of an occurrence: its owner, and whether another function encloses it than the owner's
abbrev pub told : ℕ → Option (ℕ × ℕ) → Option Owner
told g None = None
told g (Some q) = Some (record { binder = q.1; captured = not (q.0 == g) })

abbrev pub noticed : Script → List Scope → Option ℕ → Option Owner
noticed p ss None = None
noticed p ss (Some x) = told (innermost ss).function (newest x (map (binding_of p) ss))

-- the owner b, where there is one, and whether the occurrence is captured
abbrev pub owned_by : ℕ → Bool → Option Owner
owned_by b k = cond (b == 0) None (Some (record { binder = b; captured = k }))

-- what a walk finds at l
abbrev pub owner_at : Script → ℕ → Option Owner
owner_at p l = owned_by (owner p l) (captured p l)
