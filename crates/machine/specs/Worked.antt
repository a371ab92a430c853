-- Worked rows, by computing: what the machine answers for small scripts.
use Rattle.std.specs.Prelude.{◌≡◌, ℕ, Bool, false, List, [], ◌∷◌, replicate, Ok, Err, Result, nat_eq, slice_set}
use Rattle.faults.specs.declared.fault.Fault.{Fault}
use Rattle.faults.specs.declared.fault.Fault.TheVariants.{WrongMark, StoreLimit, MemoryLength, RowUnderWay, NoRow, NotAnInput, VoidVariable, NotAFunction, NotAPair, NotANumber}
use Rattle.terms.specs.declared.term.Term.TheVariants.{Number, Quote, Variable, Setq, Apply, Car, Add}
use Rattle.terms.specs.declared.term.Definition.TheVariants.{Input, Defvar}
use Rattle.terms.specs.Script.{Script}
use Rattle.terms.specs.Examples.{dynamic, closure}
use Rattle.stores.specs.Meaning.{new_store}
use Rattle.values.specs.declared.value.Value.{Value}
use Rattle.values.specs.declared.value.Value.TheVariants as value
use Rattle.values.specs.declared.call.Report.TheVariants.{Plain, Read, Ended, Stopped}
use Rattle.values.specs.declared.call.Call.{Call}
use Rattle.values.specs.declared.call.Call.TheVariants.{Feed, Start, Step, Run}
use Rattle.values.specs.declared.call.Answer.{Answer}
use Rattle.values.specs.declared.call.Answer.TheVariants.{Done, Stepped, Ran}
use Rattle.machine.specs.Machine.{State}
use Rattle.machine.specs.Calls.{trace}
use Rattle.machine.specs.Open.{opened, open_of}

-- (car (quote nil))
unfoldable pub car_of_nil : Script
car_of_nil = record { terms = Quote 0 ∷ Car 1 ∷ []; symbols = 2; definitions = [] }

-- (input n) (setq n (add n 1)), where n is the symbol 2
unfoldable pub counting_up : Script
counting_up = record { terms = Variable 2 ∷ Number 1 ∷ Add 1 2 ∷ Setq 2 3 ∷ []; symbols = 3; definitions = Input 2 ∷ [] }

-- a variable that has nothing; the number 1 called as a function; nil added to 1
unfoldable pub void : Script
void = record { terms = Variable 2 ∷ []; symbols = 3; definitions = [] }

unfoldable pub call_of_number : Script
call_of_number = record { terms = Number 1 ∷ Number 2 ∷ Apply 1 2 ∷ []; symbols = 2; definitions = [] }

unfoldable pub sum_with_nil : Script
sum_with_nil = record { terms = Number 1 ∷ Quote 0 ∷ Add 1 2 ∷ []; symbols = 2; definitions = [] }

-- (input n) (defvar x (car n)) 7, where n and x are the symbols 2 and 3
unfoldable pub wrong_defvar : Script
wrong_defvar = record { terms = Variable 2 ∷ Car 1 ∷ Number 7 ∷ []; symbols = 4; definitions = Input 2 ∷ Defvar 3 2 ∷ [] }

abbrev pub unmarked : ℕ → Bool
unmarked b = false

abbrev pub fresh : State
fresh = opened (new_store Value 255)

-- a run, or why it is refused
abbrev pub opening : Script → List ℕ → ℕ → Result State Fault
opening p bytes limit = (open_of p bytes (new_store Value limit)).0

abbrev pub answers_of : Script → (ℕ → Bool) → List Call → List (Result Answer Fault)
answers_of p marked cs = (trace p marked fresh cs).answers

abbrev pub two_rows : List Call
two_rows = Start ∷ Run 100 ∷ Start ∷ Run 100 ∷ []

abbrev pub two_rows_answers : List (Result Answer Fault)
two_rows_answers = Ok Done ∷ Ok (Ran 15 (Ended (value.Number 2))) ∷ Ok Done ∷ Ok (Ran 12 (Ended (value.Number 2))) ∷ []

pub record Worked : Type 0 where
  -- the first row ends after 15 steps with 2, the next after 12; so too with binder 2 marked
  pub rows : answers_of dynamic unmarked two_rows ≡ two_rows_answers
  pub rows_marked : answers_of dynamic (λ b. nat_eq b 2) two_rows ≡ two_rows_answers
  -- step 12 reads label 2, whose binding was born at 6
  pub twelfth : answers_of dynamic unmarked (Start ∷ Run 11 ∷ Step ∷ []) ≡ Ok Done ∷ Ok (Ran 11 Plain) ∷ Ok (Stepped (Read 2 6 (value.Number 2))) ∷ []
  -- the reports of a run call are all there
  pub told : (trace dynamic unmarked fresh (Start ∷ Run 100 ∷ [])).reports
      ≡ Plain ∷ Plain ∷ Plain ∷ Plain ∷ Plain ∷ Plain ∷ Plain ∷ Read 4 0 (value.Function 2) ∷ Plain ∷ Plain ∷ Plain ∷ Read 2 6 (value.Number 2) ∷ Plain ∷ Plain ∷ Ended (value.Number 2) ∷ []
  -- the car of nil stops with the label of the car
  pub stopped : answers_of car_of_nil unmarked (Start ∷ Run 100 ∷ []) ≡ Ok Done ∷ Ok (Ran 3 (Stopped (NotAPair 2))) ∷ []
  -- an input is fed, and read at the top level; the row ends with the value that the setq gives; each refusal has its reason
  pub fed : answers_of counting_up unmarked (Feed 3 1 ∷ Step ∷ Feed 2 7 ∷ Start ∷ Start ∷ Feed 3 1 ∷ Run 3 ∷ Step ∷ Run 0 ∷ Run 9 ∷ Run 0 ∷ [])
      ≡ Err NotAnInput ∷ Err NoRow ∷ Ok Done ∷ Ok Done ∷ Err RowUnderWay ∷ Err RowUnderWay ∷ Ok (Ran 3 Plain) ∷ Ok (Stepped (Read 1 0 (value.Number 7))) ∷ Ok (Ran 0 Plain) ∷ Ok (Ran 5 (Ended (value.Number 8))) ∷ Err NoRow ∷ []
  pub voided : answers_of void unmarked (Start ∷ Run 100 ∷ []) ≡ Ok Done ∷ Ok (Ran 1 (Stopped (VoidVariable 1))) ∷ []
  -- found only with the operand's value
  pub no_function : answers_of call_of_number unmarked (Start ∷ Run 100 ∷ []) ≡ Ok Done ∷ Ok (Ran 5 (Stopped (NotAFunction 3))) ∷ []
  pub no_number : answers_of sum_with_nil unmarked (Start ∷ Run 100 ∷ []) ≡ Ok Done ∷ Ok (Ran 5 (Stopped (NotANumber 3))) ∷ []
  -- after a stop among the definitions the next start begins at the first
  pub again : answers_of wrong_defvar unmarked (Feed 2 5 ∷ Start ∷ Run 100 ∷ Start ∷ Step ∷ Run 100 ∷ [])
      ≡ Ok Done ∷ Ok Done ∷ Ok (Ran 4 (Stopped (NotAPair 2))) ∷ Ok Done ∷ Ok (Stepped Plain) ∷ Ok (Ran 3 (Stopped (NotAPair 2))) ∷ []
  -- a captured binder is never marked; other reasons why no run begins
  pub captured : opening closure (slice_set (replicate 256 0) 3 1) 255 ≡ Err (WrongMark 3)
  pub no_byte : opening dynamic (slice_set (replicate 256 0) 0 2) 254 ≡ Err (WrongMark 0)
  pub no_binder : opening dynamic (slice_set (replicate 256 0) 1 1) 255 ≡ Err (WrongMark 1)
  pub short : opening dynamic (replicate 255 2) 254 ≡ Err MemoryLength
  pub small : opening dynamic (replicate 256 0) 254 ≡ Err StoreLimit
  pub begun : opening dynamic (slice_set (replicate 256 0) 2 1) 255 ≡ Ok fresh
