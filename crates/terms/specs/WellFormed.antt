-- The rules of form as facts about a script.
use Rattle.std.specs.Prelude.{◌≡◌, ℕ, suc, ◌<◌, ◌≤◌, true, List, [], ◌∷◌, ◌++◌, length, Some}
use Rattle.terms.specs.Syntax.{children, symbol_of}
use Rattle.terms.specs.Script.{Script, last, term, first}
use Rattle.terms.specs.Form.{definitions_right, roots}

-- the spans of these labels, in order, cover what runs from a to just below z; f gives first labels
abbrev pub Cover : (ℕ → ℕ) → ℕ → List ℕ → ℕ → Type 0
Cover f a [] z = a ≡ z
Cover f a (c ∷ cs) z = (f c ≡ a) × (a ≤ c) × Cover f (suc c) cs z

pub record WellFormed (p : Script) : Type 0 where
  pub some_term : 1 ≤ last p
  pub few_terms : last p ≤ 255
  pub some_symbols : 2 ≤ p.symbols
  pub few_symbols : p.symbols ≤ 32
  pub few_definitions : length p.definitions ≤ 31
  pub names : (l x : ℕ) → 1 ≤ l → l ≤ last p → symbol_of (term p l) ≡ Some x → x < p.symbols
  pub begins : (l : ℕ) → 1 ≤ l → l ≤ last p → 1 ≤ first p l
  pub covered : (l : ℕ) → 1 ≤ l → l ≤ last p → Cover (first p) (first p l) (children (term p l)) l
  pub defined : definitions_right p.symbols p.definitions ≡ true
  pub rooted : Cover (first p) 1 (roots p.definitions ++ (last p ∷ [])) (suc (last p))
