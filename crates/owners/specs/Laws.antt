-- What an owner is, in words of spans.
use Rattle.std.specs.Prelude.{◌≡◌, ℕ, ◌≤◌, true, false, ◌⊎◌, Some, None, ◌≢◌}
use Rattle.terms.specs.Script.{Script, term, first, spans, binds, is_body, occurs}
use Rattle.owners.specs.Owners.{owner, captured}

-- b is the innermost binder of x whose span holds l: it is such a binder, and the span of every such binder holds that of b
pub record Innermost (p : Script) (x l b : ℕ) : Type 0 where
  pub binder : binds p b ≡ Some x
  pub holds : spans p b l ≡ true
  pub inside : (c : ℕ) → binds p c ≡ Some x → spans p c l ≡ true → (first p c ≤ first p b) × (b ≤ c)

-- no binder of x has a span that holds l
abbrev pub Unbound : Script → ℕ → ℕ → Type 0
Unbound p x l = (c : ℕ) → binds p c ≡ Some x → spans p c l ≡ false

-- a function body other than b lies inside the span of b and its span holds l
pub record Captured (p : Script) (l b : ℕ) : Type 0 where
  pub body : ℕ
  pub function : is_body p body ≡ true
  pub other : body ≡ b → ⊥
  pub inside : spans p b body ≡ true
  pub holds : spans p body l ≡ true

-- the owner of an occurrence is the innermost binder of its variable whose span holds it, or 0 where there is none, and what no occurrence is has owner 0;
-- an occurrence is captured exactly if it has an owner and a function body lies between
pub record Owned (p : Script) (l : ℕ) : Type 0 where
  pub other_terms : occurs (term p l) ≡ None → owner p l ≡ 0
  pub occurrences : (x : ℕ) → occurs (term p l) ≡ Some x → ((owner p l ≡ 0) × Unbound p x l) ⊎ Innermost p x l (owner p l)
  pub captures : captured p l ≡ true → (owner p l ≢ 0) × Captured p l (owner p l)
  pub captured_since : (owner p l ≢ 0) → Captured p l (owner p l) → captured p l ≡ true
