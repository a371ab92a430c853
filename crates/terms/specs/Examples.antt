-- Two scripts that are worked through wherever something is said of scripts.
use Rattle.std.specs.Prelude.{[], ◌∷◌}
use Rattle.terms.specs.declared.term.Term.TheVariants.{Number, Quote, Lambda, Variable, Let, Apply}
use Rattle.terms.specs.declared.term.Definition.TheVariants.{Defvar, Defun}
use Rattle.terms.specs.Script.{Script}

-- (defvar x 1) (defun f (y) x) (let x 2 (f (quote nil))), with x, f and y as symbols 2, 3 and 4
unfoldable pub dynamic : Script
dynamic = record {
  terms = Number 1 ∷ Variable 2 ∷ Number 2 ∷ Variable 3 ∷ Quote 0 ∷ Apply 4 5 ∷ Let 2 3 6 ∷ [];
  symbols = 5;
  definitions = Defvar 2 1 ∷ Defun 3 4 2 ∷ [];
}

-- (let x 1 (lambda (y) x)), with x as symbol 2 and y as symbol 3
unfoldable pub closure : Script
closure = record { terms = Number 1 ∷ Variable 2 ∷ Lambda 3 2 ∷ Let 2 1 3 ∷ []; symbols = 4; definitions = [] }
