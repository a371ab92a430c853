-- The terms and definitions of a script as they stand in memory.
use Rattle.std.specs.Prelude.{◌≡◌, ℕ, zero, suc, List, ◌∷◌, map, Option, None, slice_get, slice_index}
use Rattle.terms.specs.declared.term.Term.{Term}
use Rattle.terms.specs.declared.term.Definition.{Definition}
use Rattle.terms.specs.declared.table.Node.{Node}
use Rattle.terms.specs.Script.{Script, first_at}

abbrev pub terms_in : List Node → List Term
terms_in ns = map (λ n. n.term) ns

-- the node with label l, where labels begin at 1
abbrev pub node_at : List Node → ℕ → Option Node
node_at ns zero = None
node_at ns (suc l) = slice_get ns l

-- each node has the first label of its term
abbrev pub Begun : List Node → Type 0
Begun ns = (l : ℕ) → slice_index (0 ∷ map (λ n. n.first) ns) l ≡ first_at (terms_in ns) l

abbrev pub script_in : List Node → ℕ → List Definition → Script
script_in ns v ds = record { terms = terms_in ns; symbols = v; definitions = ds }
