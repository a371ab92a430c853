-- Open scopes as the end of a longer list.
use Rattle.std.proofs.Common.{◌≡◌, ℕ, ◌+◌, ◌-◌, ◌<◌, ◌≤◌, List, ◌∷◌, length, get_or, drop, set, sym, ap, ◌∙◌, arith}
use Rattle.std.proofs.lemmas.List.{drop_more, drop_all, drop-set}
use Rattle.owners.specs.declared.scope.Scope.{Scope}
use Rattle.owners.specs.Scoping.{scope, innermost}

module _ (ss : List Scope) (n : ℕ) where
  pub innermost_is : (d : Scope) → n < length ss → get_or ss n d ≡ innermost (drop n ss)
  innermost_is d lt = sym (ap innermost (drop_more ss n d lt))

  pub no_innermost : length ss ≤ n → scope 0 0 ≡ innermost (drop n ss)
  no_innermost ge = sym (ap innermost (drop_all n ss ge))

  pub entered_is : (s : Scope) → 0 < n → n ≤ length ss → drop (n - 1) (set ss (n - 1) s) ≡ s ∷ drop n ss
  entered_is s some fits = drop-set ss (n - 1) s (omega arith) ∙ ap (λ k. s ∷ drop k ss) (let e : (n - 1) + 1 ≡ n = omega arith in e)
