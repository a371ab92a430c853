-- What each call of a run answers and leaves, and the reports that it makes.
use Rattle.std.specs.Prelude.{ℕ, zero, suc, Bool, true, false, cond, List, [], ◌∷◌, ◌++◌, Ok, Err, Result, ◌==◌}
use Rattle.faults.specs.declared.fault.Fault.{Fault}
use Rattle.faults.specs.declared.fault.Fault.TheVariants.{RowUnderWay, NoRow, NotAnInput}
use Rattle.terms.specs.Script.{Script, is_input}
use Rattle.stores.specs.Meaning.{Meaning, put_of}
use Rattle.values.specs.declared.value.Value.{Value}
use Rattle.values.specs.declared.value.Value.TheVariants as value
use Rattle.values.specs.declared.call.Report.{Report}
use Rattle.values.specs.declared.call.Report.TheVariants.{Plain}
use Rattle.values.specs.declared.call.Call.{Call}
use Rattle.values.specs.declared.call.Call.TheVariants.{Feed, Start, Step, Run}
use Rattle.values.specs.declared.call.Answer.{Answer}
use Rattle.values.specs.declared.call.Answer.TheVariants.{Done, Stepped, Ran}
use Rattle.machine.specs.Machine.{Outcome, Phase, idle, ready, defining, running, State, with_store, with_memory, refuses, step_of}

-- a row is under way
abbrev pub under_way : Phase → Bool
under_way idle = false
under_way (ready ds) = true
under_way (defining x ds n) = true
under_way (running n) = true

abbrev pub answers : Answer → State → Outcome State Answer
answers a s = record { answer = Ok a; after = s }

-- Feed gives an input's top level a number.
abbrev pub fed : State → Result (Unit {0}) Fault → Meaning Value → Outcome State Answer
fed s (Err e) m = refuses e (with_memory (with_store m s.memory) s)
fed s (Ok u) m = answers Done (with_memory (with_store m s.memory) s)

abbrev pub feeds : Script → ℕ → ℕ → State → Outcome State Answer
feeds p x n s =
    cond (is_input p x) (fed s (put_of s.memory.store x (value.Number n)).0 (put_of s.memory.store x (value.Number n)).1) (refuses NotAnInput s)

-- Start begins a row: at the first definition until all have been carried out once, then at the entry.
abbrev pub starts : Script → State → Outcome State Answer
starts p s = answers Done (record { defined = s.defined; phase = ready (cond s.defined [] p.definitions); memory = s.memory })

abbrev pub stepped : Result Report Fault → State → Outcome State Answer
stepped (Err e) s = refuses e s
stepped (Ok r) s = answers (Stepped r) s

-- what follows a step of a run that had done k steps, of which r was the last report: s is the state after it
abbrev pub continues : (ℕ → Report → State → Outcome State Answer) → ℕ → Report → Result Report Fault → State → Outcome State Answer
continues more k r (Err e) s = cond (k == 0) (refuses e s) (answers (Ran k r) s)
continues more k r (Ok q) s = cond (under_way s.phase) (more (suc k) q s) (answers (Ran (suc k) q) s)

-- Run repeats the step until the row is over, n are done or a later step is declined, and answers the count and the last report:
-- at most n more steps, after k steps of which r was the last report.
abbrev pub runs : Script → (ℕ → Bool) → ℕ → ℕ → Report → State → Outcome State Answer
runs p marked zero k r s = answers (Ran k r) s
runs p marked (suc n) k r s = continues (runs p marked n) k r (step_of p marked s).answer (step_of p marked s).after

-- feed and start are refused during a row, step and run without one
abbrev pub calls_in : Script → (ℕ → Bool) → Bool → Call → State → Outcome State Answer
calls_in p marked false (Feed x n) s = feeds p x n s
calls_in p marked false Start s = starts p s
calls_in p marked false Step s = refuses NoRow s
calls_in p marked false (Run n) s = refuses NoRow s
calls_in p marked true (Feed x n) s = refuses RowUnderWay s
calls_in p marked true Start s = refuses RowUnderWay s
calls_in p marked true Step s = stepped (step_of p marked s).answer (step_of p marked s).after
calls_in p marked true (Run n) s = runs p marked n 0 Plain s

abbrev pub call_of : Script → (ℕ → Bool) → State → Call → Outcome State Answer
call_of p marked s c = calls_in p marked (under_way s.phase) c s

-- ---- the reports that a call makes
abbrev pub tells : (State → List Report) → Result Report Fault → State → List Report
tells more (Err e) s = []
tells more (Ok r) s = r ∷ cond (under_way s.phase) (more s) []

-- those of at most n steps
abbrev pub told : Script → (ℕ → Bool) → ℕ → State → List Report
told p marked zero s = []
told p marked (suc n) s = tells (told p marked n) (step_of p marked s).answer (step_of p marked s).after

abbrev pub told_once : Result Report Fault → List Report
told_once (Err e) = []
told_once (Ok r) = r ∷ []

abbrev pub told_in : Script → (ℕ → Bool) → Bool → Call → State → List Report
told_in p marked false c s = []
told_in p marked true (Feed x n) s = []
told_in p marked true Start s = []
told_in p marked true Step s = told_once (step_of p marked s).answer
told_in p marked true (Run n) s = told p marked n s

abbrev pub reports_of : Script → (ℕ → Bool) → State → Call → List Report
reports_of p marked s c = told_in p marked (under_way s.phase) c s

-- ---- a list of calls: what they answer, all reports that they make, and the last state
pub record Trace : Type 0 where
  pub answers : List (Result Answer Fault)
  pub reports : List Report
  pub end : State

abbrev pub before : Result Answer Fault → List Report → Trace → Trace
before a rs t = record { answers = a ∷ t.answers; reports = rs ++ t.reports; end = t.end }

abbrev pub trace : Script → (ℕ → Bool) → State → List Call → Trace
trace p marked s [] = record { answers = []; reports = []; end = s }
trace p marked s (c ∷ cs) = before (call_of p marked s c).answer (reports_of p marked s c) (trace p marked (call_of p marked s c).after cs)
