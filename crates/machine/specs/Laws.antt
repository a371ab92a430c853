-- Laws of runs, in words that stand above the steps.
use Rattle.std.specs.Prelude.{◌≡◌, ℕ, ◌<◌, ◌≤◌, Bool, true, false, ◌⊎◌, List, [], ◌∷◌, ◌++◌, length, replicate, Some, None, Ok, Err, Option, Result, ◌≢◌, slice_index, slice_index_or, slice_set}
use Rattle.faults.specs.declared.fault.Fault.{Fault}
use Rattle.faults.specs.declared.fault.Fault.TheVariants.{WrongMark, StoreLimit, RowUnderWay, NoRow, NotAnInput, MemoryLength, VoidVariable}
use Rattle.terms.specs.declared.term.Term.{Term}
use Rattle.terms.specs.declared.term.Term.TheVariants.{Number, Quote, Lambda, Variable, Setq, Let, If, Apply, Cons, Car, Cdr, Add, Same}
use Rattle.terms.specs.declared.term.Definition.TheVariants.{Input, Defvar, Defun}
use Rattle.terms.specs.Script.{Script, last, term, binds}
use Rattle.terms.specs.WellFormed.{WellFormed}
use Rattle.stores.specs.declared.binding.Binding.{Binding}
use Rattle.stores.specs.Meaning.{Meaning, clear_of}
use Rattle.stores.specs.Laws.{Free, Newest}
use Rattle.owners.specs.Owners.{owner, captured}
use Rattle.values.specs.declared.value.Value.{Value}
use Rattle.values.specs.declared.frame.Frame.{Frame}
use Rattle.values.specs.declared.frame.Frame.TheVariants.{Awaiting, Holding, Scope}
use Rattle.values.specs.declared.call.Report.{Report}
use Rattle.values.specs.declared.call.Report.TheVariants.{Plain, Read, Assigned, Stopped}
use Rattle.values.specs.declared.call.Call.{Call}
use Rattle.values.specs.declared.call.Call.TheVariants.{Step, Run}
use Rattle.values.specs.declared.call.Answer.{Answer}
use Rattle.values.specs.declared.call.Answer.TheVariants.{Stepped, Ran}
use Rattle.values.specs.declared.turn.Next.{Next}
use Rattle.values.specs.declared.turn.Next.TheVariants.{Evaluate, Return}
use Rattle.machine.specs.Machine.{Outcome, Phase, idle, ready, defining, running, State, step_of}
use Rattle.machine.specs.Calls.{under_way, call_of, reports_of, trace}
use Rattle.machine.specs.Open.{opened, open_of}

-- A refused call changes nothing.
abbrev pub RefusedSame : Type 0
RefusedSame = (p : Script) (marked : ℕ → Bool) (s : State) (c : Call) (e : Fault) → (call_of p marked s c).answer ≡ Err e → (call_of p marked s c).after ≡ s

-- ---- bindings and scope frames
abbrev pub birthplaces : List (Binding Value) → List ℕ
birthplaces [] = []
birthplaces (b ∷ bs) = b.birthplace ∷ birthplaces bs

-- the binders of the scope frames whose binding is in the store, newest first
abbrev pub in_store : List Frame → List ℕ
in_store [] = []
in_store (Awaiting l ∷ fs) = in_store fs
in_store (Holding l v ∷ fs) = in_store fs
in_store (Scope l b None ∷ fs) = b ∷ in_store fs
in_store (Scope l b (Some v) ∷ fs) = in_store fs

-- a scope frame keeps its binding exactly if its binder is marked
abbrev pub KeptIfMarked : (ℕ → Bool) → List Frame → Type 0
KeptIfMarked marked [] = Unit {0}
KeptIfMarked marked (Awaiting l ∷ fs) = KeptIfMarked marked fs
KeptIfMarked marked (Holding l v ∷ fs) = KeptIfMarked marked fs
KeptIfMarked marked (Scope l b None ∷ fs) = (marked b ≡ false) × KeptIfMarked marked fs
KeptIfMarked marked (Scope l b (Some v) ∷ fs) = (marked b ≡ true) × KeptIfMarked marked fs

-- the terms that wait for a first operand's value, and those that then keep it and wait for a second one's
abbrev pub has_operand : Term → Bool
has_operand (Number n) = false
has_operand (Quote a) = false
has_operand (Lambda x b) = false
has_operand (Variable x) = false
has_operand (Setq x b) = true
has_operand (Let x b c) = true
has_operand (If a b c) = true
has_operand (Apply a b) = true
has_operand (Cons a b) = true
has_operand (Car a) = true
has_operand (Cdr a) = true
has_operand (Add a b) = true
has_operand (Same a b) = true

abbrev pub has_second : Term → Bool
has_second (Number n) = false
has_second (Quote a) = false
has_second (Lambda x b) = false
has_second (Variable x) = false
has_second (Setq x b) = false
has_second (Let x b c) = false
has_second (If a b c) = false
has_second (Apply a b) = true
has_second (Cons a b) = true
has_second (Car a) = false
has_second (Cdr a) = false
has_second (Add a b) = true
has_second (Same a b) = true

-- a frame waits only for what its term has
abbrev pub Waits : Script → List Frame → Type 0
Waits p [] = Unit {0}
Waits p (Awaiting l ∷ fs) = (has_operand (term p l) ≡ true) × Waits p fs
Waits p (Holding l v ∷ fs) = (has_second (term p l) ≡ true) × Waits p fs
Waits p (Scope l b kept ∷ fs) = Waits p fs

-- The bindings in the store are those of the scope frames that are open and do not keep theirs, in the same order; frames wait for
-- operands that their terms have; there are at most 255 frames and 1,023 pairs; the limit is n; and between rows there is no frame.
pub record Orderly (p : Script) (marked : ℕ → Bool) (n : ℕ) (s : State) : Type 0 where
  pub bindings : birthplaces s.memory.store.bindings ≡ in_store s.memory.frames
  pub kept : KeptIfMarked marked s.memory.frames
  pub waits : Waits p s.memory.frames
  pub frames : length s.memory.frames ≤ 255
  pub pairs : length s.memory.pairs ≤ 1023
  pub limit : s.memory.store.limit ≡ n
  pub between : under_way s.phase ≡ false → s.memory.frames ≡ []

-- Every run is so after any calls, whatever the script, the marks and the store.
abbrev pub AlwaysOrderly : Type 0
AlwaysOrderly = (p : Script) (marked : ℕ → Bool) (m : Meaning Value) (cs : List Call) → Orderly p marked m.limit (trace p marked (opened m) cs).end

-- So there are never more bindings than frames,
abbrev pub NeverMore : Type 0
NeverMore = (p : Script) (marked : ℕ → Bool) (m : Meaning Value) (cs : List Call)
    → let s = (trace p marked (opened m) cs).end.memory in length s.store.bindings ≤ length s.frames

-- and of a well-formed script over a store of limit 255 or more, no call is refused by the store: only feed and start during a row,
-- step and run without one, and feed of what is no input.
pub data OfHost : Result Answer Fault → Type 0 where
  answered : (a : Answer) → OfHost (Ok a)
  during_row : OfHost (Err RowUnderWay)
  without_row : OfHost (Err NoRow)
  no_input : OfHost (Err NotAnInput)

abbrev pub AllOfHost : List (Result Answer Fault) → Type 0
AllOfHost [] = Unit {0}
AllOfHost (a ∷ more) = OfHost a × AllOfHost more

abbrev pub NeverDeclined : ℕ → Type 0
NeverDeclined n =
    (p : Script) → WellFormed p → (marked : ℕ → Bool) (m : Meaning Value) → n ≤ m.limit → (cs : List Call) → AllOfHost (trace p marked (opened m) cs).answers

-- ---- what comes next in a row, if that is a term or a value; a row begins with the root of a defvar or with the entry
abbrev pub next_in : Script → Phase → Option Next
next_in p idle = None
next_in p (ready []) = Some (Evaluate (last p))
next_in p (ready (Input x ∷ ds)) = None
next_in p (ready (Defvar x r ∷ ds)) = Some (Evaluate r)
next_in p (ready (Defun x y r ∷ ds)) = None
next_in p (defining x ds n) = Some n
next_in p (running n) = Some n

-- A value that comes to the scope frame of a binder whose binding is in the store: that binding is the newest, the step removes it
-- with the frame, and returns the value on.
pub record ScopeLeft (p : Script) (marked : ℕ → Bool) (s : State) (v : Value) (b : ℕ) (fs : List Frame) : Type 0 where
  pub binding : Binding Value
  pub others : List (Binding Value)
  pub before : s.memory.store.bindings ≡ binding ∷ others
  pub own : binding.birthplace ≡ b
  pub told : (step_of p marked s).answer ≡ Ok Plain
  pub after : (step_of p marked s).after.memory.store.bindings ≡ others
  pub frames : (step_of p marked s).after.memory.frames ≡ fs
  pub returned : next_in p (step_of p marked s).after.phase ≡ Some (Return v)

-- A value that comes to a scope frame that keeps its binding itself: the binding is gone with the frame, the store is as it was, and the value is returned on.
pub record KeptLeft (p : Script) (marked : ℕ → Bool) (s : State) (v : Value) (fs : List Frame) : Type 0 where
  pub told : (step_of p marked s).answer ≡ Ok Plain
  pub store : (step_of p marked s).after.memory.store ≡ s.memory.store
  pub frames : (step_of p marked s).after.memory.frames ≡ fs
  pub returned : next_in p (step_of p marked s).after.phase ≡ Some (Return v)

pub record Closes (p : Script) (marked : ℕ → Bool) (s : State) (v : Value) : Type 0 where
  pub bound : (l b : ℕ) (fs : List Frame) → s.memory.frames ≡ Scope l b None ∷ fs → ScopeLeft p marked s v b fs
  pub kept : (l b : ℕ) (w : Value) (fs : List Frame) → s.memory.frames ≡ Scope l b (Some w) ∷ fs → KeptLeft p marked s v fs

abbrev pub ScopesClose : Type 0
ScopesClose =
    (p : Script) (marked : ℕ → Bool) (m : Meaning Value) (cs : List Call) (v : Value)
    → let s = (trace p marked (opened m) cs).end in next_in p s.phase ≡ Some (Return v) → Closes p marked s v

-- ---- reads
-- A variable without a marked owner reads its newest binding; where there is none, the top level; where that has nothing, the row stops.
pub record Reads (p : Script) (marked : ℕ → Bool) (s : State) (l x : ℕ) : Type 0 where
  pub newest : (front rest : List (Binding Value)) (b : Binding Value) → Newest s.memory.store x front b rest
      → (step_of p marked s).answer ≡ Ok (Read l b.birthplace b.thing)
  pub outermost : (v : Value) → Free x s.memory.store.bindings → slice_index_or s.memory.store.top x None ≡ Some v
      → (step_of p marked s).answer ≡ Ok (Read l 0 v)
  pub void : Free x s.memory.store.bindings → slice_index_or s.memory.store.top x None ≡ None
      → (step_of p marked s).answer ≡ Ok (Stopped (VoidVariable l))

abbrev pub ReadsNewest : Type 0
ReadsNewest =
    (p : Script) (marked : ℕ → Bool) (s : State) (l x : ℕ) → next_in p s.phase ≡ Some (Evaluate l) → term p l ≡ Variable x → x ≤ 31
    → marked (owner p l) ≡ false → Reads p marked s l x

-- A setq without a marked owner, whose value v is returned to it, replaces the thing of the newest binding of its variable and nothing else; where
-- there is none, the top level gets it. The report has that binding's birthplace, or 0.
pub record Assigns (p : Script) (marked : ℕ → Bool) (s : State) (l x : ℕ) (v : Value) : Type 0 where
  pub newest : (front rest : List (Binding Value)) (b : Binding Value) → Newest s.memory.store x front b rest
      → ((step_of p marked s).answer ≡ Ok (Assigned l b.birthplace v))
      × ((step_of p marked s).after.memory.store ≡ record {
        bindings = front ++ (record { variable = b.variable; thing = v; birthplace = b.birthplace } ∷ rest);
        top = s.memory.store.top;
        limit = s.memory.store.limit;
      })
  pub outermost : Free x s.memory.store.bindings
      → ((step_of p marked s).answer ≡ Ok (Assigned l 0 v))
      × ((step_of p marked s).after.memory.store ≡ record { bindings = s.memory.store.bindings; top = slice_set s.memory.store.top x (Some v); limit = s.memory.store.limit })

abbrev pub AssignsNewest : Type 0
AssignsNewest =
    (p : Script) (marked : ℕ → Bool) (s : State) (l x b : ℕ) (v : Value) (fs : List Frame)
    → next_in p s.phase ≡ Some (Return v) → s.memory.frames ≡ Awaiting l ∷ fs → term p l ≡ Setq x b → x ≤ 31
    → marked (owner p l) ≡ false → Assigns p marked s l x v

-- ---- runs and single steps
-- the last report, or r if there is none
abbrev pub latest : Report → List Report → Report
latest r [] = r
latest r (q ∷ qs) = latest q qs

abbrev pub as_steps : List Report → List (Result Answer Fault)
as_steps [] = []
as_steps (r ∷ rs) = Ok (Stepped r) ∷ as_steps rs

-- The first step was declined, and so is the run call.
pub record FirstDeclined (p : Script) (marked : ℕ → Bool) (s : State) (rs : List Report) (run : Outcome State Answer) : Type 0 where
  pub reason : Fault
  pub step : (step_of p marked s).answer ≡ Err reason
  pub none : rs ≡ []
  pub refused : run.answer ≡ Err reason

-- The run call answers how many reports there are and the last, plain if there is none; and there is one, if any step was asked for.
pub record Counted (n : ℕ) (rs : List Report) (run : Outcome State Answer) : Type 0 where
  pub told : run.answer ≡ Ok (Ran (length rs) (latest Plain rs))
  pub some : (n ≡ 0) ⊎ (1 ≤ length rs)

-- A run call of n is as many step calls as it makes reports, rs: they answer those reports and leave the same state. It answers their number
-- and the last, or it is declined as the first step is; it makes no more than n; and it makes fewer only if the row is over or the next step is declined.
pub record RunOfSteps (p : Script) (marked : ℕ → Bool) (s : State) (n : ℕ) (rs : List Report) (run : Outcome State Answer) : Type 0 where
  pub steps : trace p marked s (replicate (length rs) Step) ≡ record { answers = as_steps rs; reports = rs; end = run.after }
  pub answer : Counted n rs run ⊎ FirstDeclined p marked s rs run
  pub few : length rs ≤ n
  pub whole : (length rs ≡ n) ⊎ ((under_way run.after.phase ≡ false) ⊎ ((e : Fault) × ((step_of p marked run.after).answer ≡ Err e)))

abbrev pub RunsAreSteps : Type 0
RunsAreSteps =
    (p : Script) (marked : ℕ → Bool) (s : State) (n : ℕ) → under_way s.phase ≡ true
    → RunOfSteps p marked s n (reports_of p marked s (Run n)) (call_of p marked s (Run n))

-- ---- how a run begins
-- b is a binder none of whose occurrences is captured
pub record Markable (p : Script) (b : ℕ) : Type 0 where
  pub variable : ℕ
  pub binder : binds p b ≡ Some variable
  pub uncaptured : (l : ℕ) → owner p l ≡ b → captured p l ≡ false

-- a mark byte is 0, or 1 at such a binder
abbrev pub RightMark : Script → ℕ → ℕ → Type 0
RightMark p b byte = (byte ≡ 0) ⊎ ((byte ≡ 1) × Markable p b)

-- Open is refused for bytes that are not 256, then for the first byte that is not right, then for a store of limit below 255, and leaves the store
-- as it was; else the run begins over the cleared store.
pub data Begins (p : Script) (bytes : List ℕ) (m : Meaning Value) : Result State Fault × Meaning Value → Type 0 where
  wrong_length : (length bytes ≢ 256) → Begins p bytes m (Err MemoryLength, m)
  wrong_byte : (b : ℕ) → length bytes ≡ 256 → b < 256 → ((i : ℕ) → i < b → RightMark p i (slice_index bytes i)) → (RightMark p b (slice_index bytes b) → ⊥)
      → Begins p bytes m (Err (WrongMark b), m)
  small_store : length bytes ≡ 256 → ((i : ℕ) → i < 256 → RightMark p i (slice_index bytes i)) → m.limit < 255 → Begins p bytes m (Err StoreLimit, m)
  begun : length bytes ≡ 256 → ((i : ℕ) → i < 256 → RightMark p i (slice_index bytes i)) → 255 ≤ m.limit → Begins p bytes m (Ok (opened m), clear_of m)

abbrev pub BeginsByRule : Type 0
BeginsByRule = (p : Script) → WellFormed p → (bytes : List ℕ) (m : Meaning Value) → Begins p bytes m (open_of p bytes m)
