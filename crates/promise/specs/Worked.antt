-- One script and its tables meet all that the promise asks, and what it then says of them is no empty word.
use Rattle.std.specs.Prelude.{◌≡◌, [], ◌∷◌, Ok}
use Rattle.terms.specs.WellFormed.{WellFormed}
use Rattle.stores.specs.Meaning.{new_store}
use Rattle.values.specs.declared.value.Value.{Value}
use Rattle.values.specs.declared.value.Value.TheVariants.{Number, Function}
use Rattle.values.specs.declared.call.Report.TheVariants.{Ended}
use Rattle.values.specs.declared.call.Call.TheVariants.{Start, Run}
use Rattle.values.specs.declared.call.Answer.TheVariants.{Done, Ran}
use Rattle.clauses.specs.Acceptance.{Accepted}
use Rattle.clauses.specs.Marks.{marks_of}
use Rattle.clauses.specs.Worked as verdict
use Rattle.machine.specs.Worked as machine
use Rattle.terms.specs.Examples.{dynamic}
use Rattle.clauses.specs.Worked.{dynamic_tables}
use Rattle.promise.specs.Lies.{Inside}
use Rattle.promise.specs.Promise.{no_marks, run_trace, Promises}

-- (defvar x 1) (defun f (y) x) (let x 2 (f (quote nil))), with the tables of an analyser that sees what f reads
pub record Worked : Type 0 where
  -- what the verdict and the marks are for worked scripts, and how worked rows go
  pub verdicts : verdict.Worked
  pub rows : machine.Worked
  pub formed : WellFormed dynamic
  pub accepted : Accepted dynamic dynamic_tables
  pub promises : Promises dynamic dynamic_tables
  -- a row of it without marks, and with them over another store
  pub plain : (run_trace dynamic no_marks (new_store Value 255) (Start ∷ Run 100 ∷ [])).answers ≡ Ok Done ∷ Ok (Ran 15 (Ended (Number 2))) ∷ []
  pub with_marks : (run_trace dynamic (marks_of dynamic dynamic_tables) (new_store Value 300) (Start ∷ Run 100 ∷ [])).answers ≡ Ok Done ∷ Ok (Ran 15 (Ended (Number 2))) ∷ []
  -- what f read: the binding that the let made, and f itself at the top level
  pub read_x : Inside dynamic dynamic_tables [] 2 6 (Number 2)
  pub read_f : Inside dynamic dynamic_tables [] 4 0 (Function 2)
