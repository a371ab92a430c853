-- Worked scripts: what the definitions say of them.
use Rattle.std.specs.Prelude.{◌≡◌, true, false, List, [], ◌∷◌, Some, Ok, Err}
use Rattle.faults.specs.declared.fault.Fault.TheVariants.{ProgramSizes, WrongTerm, WrongDefinitions}
use Rattle.terms.specs.declared.raw.RawTerm.{RawTerm}
use Rattle.terms.specs.declared.raw.RawDefinition.{RawDefinition}
use Rattle.terms.specs.Syntax.{row, definition_row}
use Rattle.terms.specs.Script.{first, binds, is_body}
use Rattle.terms.specs.Examples.{dynamic, closure}
use Rattle.terms.specs.Form.{program_of}
use Rattle.owners.specs.Owners.{owner, captured}

-- (let x 1 (lambda (y) x)), with x as symbol 2 and y as symbol 3
abbrev pub closure_rows : List RawTerm
closure_rows = row 1 1 0 0 ∷ row 4 2 0 0 ∷ row 3 3 2 0 ∷ row 6 2 1 3 ∷ []

-- (defvar x 1) (defun f (y) x) (let x 2 (f (quote nil))), with x, f and y as symbols 2, 3 and 4
abbrev pub dynamic_rows : List RawTerm
dynamic_rows = row 1 1 0 0 ∷ row 4 2 0 0 ∷ row 1 2 0 0 ∷ row 4 3 0 0 ∷ row 2 0 0 0 ∷ row 8 4 5 0 ∷ row 6 2 3 6 ∷ []

abbrev pub dynamic_definitions : List RawDefinition
dynamic_definitions = definition_row 2 2 0 1 ∷ definition_row 3 3 4 2 ∷ []

pub record Worked : Type 0 where
  pub closure_made : program_of closure_rows 4 [] ≡ Ok closure
  pub closure_owner : owner closure 2 ≡ 3
  pub closure_captured : captured closure 2 ≡ true
  pub dynamic_made : program_of dynamic_rows 5 dynamic_definitions ≡ Ok dynamic
  pub dynamic_first : first dynamic 7 ≡ 3
  pub dynamic_binder : binds dynamic 6 ≡ Some 2
  pub dynamic_body : is_body dynamic 2 ≡ true
  pub dynamic_let : is_body dynamic 6 ≡ false
  -- the x of f is bound by whoever calls f, so no span holds it
  pub dynamic_free : owner dynamic 2 ≡ 0
  pub no_terms : program_of [] 4 [] ≡ Err ProgramSizes
  pub too_few_symbols : program_of dynamic_rows 4 dynamic_definitions ≡ Err WrongDefinitions
  pub first_wrong : program_of (row 1 1 0 0 ∷ row 4 2 0 0 ∷ row 3 3 1 0 ∷ row 6 2 0 3 ∷ []) 4 [] ≡ Err (WrongTerm 3)
