-- What one step does: it evaluates a term, or returns a value to the newest frame.
use Rattle.std.specs.Prelude.{ℕ, Bool, true, false, cond, List, [], ◌∷◌, ◌++◌, length, Some, None, Ok, Err, Option, Result, ◌==◌, nat_lt}
use Rattle.faults.specs.declared.fault.Fault.{Fault}
use Rattle.faults.specs.declared.fault.Fault.TheVariants.{NoRow, VoidVariable, NotAFunction, NotAPair, NotANumber, NoFrameLeft, NoPairLeft}
use Rattle.terms.specs.declared.term.Term.{Term}
use Rattle.terms.specs.declared.term.Term.TheVariants.{Number, Quote, Lambda, Variable, Setq, Let, If, Apply, Cons, Car, Cdr, Add, Same}
use Rattle.terms.specs.declared.term.Definition.{Definition}
use Rattle.terms.specs.declared.term.Definition.TheVariants.{Input, Defvar, Defun}
use Rattle.terms.specs.Script.{Script, last, term, parameter}
use Rattle.stores.specs.Meaning.{Meaning, bind_of, unbind_of, look_of, put_of}
use Rattle.stores.specs.Laws.{birthplace_in}
use Rattle.owners.specs.Owners.{owner}
use Rattle.values.specs.declared.value.Value.{Value}
use Rattle.values.specs.declared.value.Value.TheVariants as value
use Rattle.values.specs.declared.value.ConsCell.{ConsCell}
use Rattle.values.specs.declared.frame.Frame.{Frame}
use Rattle.values.specs.declared.frame.Frame.TheVariants.{Awaiting, Holding, Scope}
use Rattle.values.specs.declared.call.Report.{Report}
use Rattle.values.specs.declared.call.Report.TheVariants.{Plain, Read, Assigned, Ended, Stopped}
use Rattle.values.specs.declared.turn.Next.{Next}
use Rattle.values.specs.declared.turn.Next.TheVariants.{Evaluate, Return}
use Rattle.values.specs.declared.turn.Turn.{Turn}
use Rattle.values.specs.declared.turn.Turn.TheVariants.{Goes, Stops, Gives}
use Rattle.machine.specs.Operations.{branch, truth, plus, same, cell_of, first_half, second_half, cell}

-- what is answered, and what holds after it
pub record Outcome (S A : Type 0) : Type 0 where
  pub answer : Result A Fault
  pub after : S

-- frames, newest first; pairs in the order of their numbers, from 0; what the store means
pub record Memory : Type 0 where
  pub frames : List Frame
  pub pairs : List ConsCell
  pub store : Meaning Value

abbrev pub with_frames : List Frame → Memory → Memory
with_frames fs s = record { frames = fs; pairs = s.pairs; store = s.store }

abbrev pub with_store : Meaning Value → Memory → Memory
with_store m s = record { frames = s.frames; pairs = s.pairs; store = m }

-- the row goes on with a report; it stops; the store declines
abbrev pub goes : Report → Next → Memory → Outcome Memory Turn
goes r n s = record { answer = Ok (Goes r n); after = s }

abbrev pub stops : Fault → Memory → Outcome Memory Turn
stops f s = record { answer = Ok (Stops f); after = s }

abbrev pub declines : Fault → Memory → Outcome Memory Turn
declines e s = record { answer = Err e; after = s }

-- a value is returned next, fs being the frames left; where there is none, the row stops
abbrev pub yields : Fault → List Frame → Memory → Option Value → Outcome Memory Turn
yields f fs s None = stops f s
yields f fs s (Some v) = goes Plain (Return v) (with_frames fs s)

-- ---- occurrences
abbrev pub is_application : Term → Bool
is_application (Number n) = false
is_application (Quote s) = false
is_application (Lambda x b) = false
is_application (Variable x) = false
is_application (Setq x b) = false
is_application (Let x b c) = false
is_application (If a b c) = false
is_application (Apply a b) = true
is_application (Cons a b) = false
is_application (Car a) = false
is_application (Cdr a) = false
is_application (Add a b) = false
is_application (Same a b) = false

-- what the scope frame of binder o keeps: frames newest first, not past the newest scope frame of an application
abbrev pub kept_at : Script → ℕ → List Frame → Option Value
kept_at p o [] = None
kept_at p o (Awaiting l ∷ fs) = kept_at p o fs
kept_at p o (Holding l v ∷ fs) = kept_at p o fs
kept_at p o (Scope l b kept ∷ fs) = cond (b == o) kept (cond (is_application (term p l)) None (kept_at p o fs))

-- the frames with another value in that one
abbrev pub keep_at : Script → ℕ → Value → List Frame → List Frame
keep_at p o v [] = []
keep_at p o v (Awaiting l ∷ fs) = Awaiting l ∷ keep_at p o v fs
keep_at p o v (Holding l w ∷ fs) = Holding l w ∷ keep_at p o v fs
keep_at p o v (Scope l b kept ∷ fs) =
    cond (b == o) (Scope l b (Some v) ∷ fs) (Scope l b kept ∷ cond (is_application (term p l)) fs (keep_at p o v fs))

abbrev pub born_at : ℕ → Option Value → Option (Value × ℕ)
born_at o None = None
born_at o (Some v) = Some (v, o)

-- what the occurrence l of x sees: an occurrence with a marked owner looks in the scope frames, all others in the store
abbrev pub sight : Script → (ℕ → Bool) → ℕ → ℕ → Memory → Result (Option (Value × ℕ)) Fault
sight p marked l x s = cond (marked (owner p l)) (Ok (born_at (owner p l) (kept_at p (owner p l) s.frames))) (look_of s.store x)

-- a variable is read
abbrev pub reads : ℕ → Memory → Result (Option (Value × ℕ)) Fault → Outcome Memory Turn
reads l s (Err e) = declines e s
reads l s (Ok None) = stops (VoidVariable l) s
reads l s (Ok (Some f)) = goes (Read l f.1 f.0) (Return f.0) s

-- a value was put: the report has the birthplace b
abbrev pub put_done : ℕ → ℕ → Value → List Frame → Memory → Result (Unit {0}) Fault → Meaning Value → Outcome Memory Turn
put_done l b v fs s (Err e) m = declines e (with_store m s)
put_done l b v fs s (Ok u) m = goes (Assigned l b v) (Return v) (with_frames fs (with_store m s))

abbrev pub puts : ℕ → ℕ → Value → List Frame → Memory → Result (Option (Value × ℕ)) Fault → Outcome Memory Turn
puts l x v fs s (Err e) = declines e s
puts l x v fs s (Ok o) = put_done l (birthplace_in o) v fs s (put_of s.store x v).0 (put_of s.store x v).1

-- setq assigns and returns the value; fs are the frames without its own
abbrev pub assigns : Script → (ℕ → Bool) → ℕ → ℕ → Value → List Frame → Memory → Outcome Memory Turn
assigns p marked l x v fs s =
    cond (marked (owner p l)) (goes (Assigned l (owner p l) v) (Return v) (with_frames (keep_at p (owner p l) v fs) s)) (puts l x v fs s (look_of s.store x))

-- ---- evaluation
-- a term with operands adds a frame, and its first operand comes next; there are up to 255 frames
abbrev pub enters : ℕ → ℕ → Memory → Outcome Memory Turn
enters l o s =
    cond (nat_lt (length s.frames) 255) (goes Plain (Evaluate o) (with_frames (Awaiting l ∷ s.frames) s)) (stops (NoFrameLeft l) s)

-- number, quote and lambda become values
abbrev pub becomes : Value → Memory → Outcome Memory Turn
becomes v s = goes Plain (Return v) s

abbrev pub evaluates : Script → (ℕ → Bool) → ℕ → Term → Memory → Outcome Memory Turn
evaluates p marked l (Number n) s = becomes (value.Number n) s
evaluates p marked l (Quote a) s = becomes (value.Symbol a) s
evaluates p marked l (Lambda x b) s = becomes (value.Function b) s
evaluates p marked l (Variable x) s = reads l s (sight p marked l x s)
evaluates p marked l (Setq x b) s = enters l b s
evaluates p marked l (Let x b c) s = enters l b s
evaluates p marked l (If a b c) s = enters l a s
evaluates p marked l (Apply a b) s = enters l a s
evaluates p marked l (Cons a b) s = enters l a s
evaluates p marked l (Car a) s = enters l a s
evaluates p marked l (Cdr a) s = enters l a s
evaluates p marked l (Add a b) s = enters l a s
evaluates p marked l (Same a b) s = enters l a s

-- ---- scopes
abbrev pub bind_done : ℕ → ℕ → List Frame → Memory → Result (Unit {0}) Fault → Meaning Value → Outcome Memory Turn
bind_done l b fs s (Err e) m = declines e (with_store m s)
bind_done l b fs s (Ok u) m = goes Plain (Evaluate b) (with_frames (Scope l b None ∷ fs) (with_store m s))

-- the frame of l becomes the scope frame of binder b, x is bound, and the body b comes next; a marked binder's scope frame keeps the binding itself
abbrev pub opens : (ℕ → Bool) → ℕ → ℕ → ℕ → Value → List Frame → Memory → Outcome Memory Turn
opens marked l x b v fs s =
    cond (marked b) (goes Plain (Evaluate b) (with_frames (Scope l b (Some v) ∷ fs) s))
    (bind_done l b fs s (bind_of s.store x v b).0 (bind_of s.store x v b).1)

abbrev pub unbind_done : Value → List Frame → Memory → Result (Unit {0}) Fault → Meaning Value → Outcome Memory Turn
unbind_done v fs s (Err e) m = declines e (with_store m s)
unbind_done v fs s (Ok u) m = goes Plain (Return v) (with_frames fs (with_store m s))

-- a value returned to a scope frame removes the binding and the frame and is returned
abbrev pub closes : Value → Option Value → List Frame → Memory → Outcome Memory Turn
closes v (Some kept) fs s = goes Plain (Return v) (with_frames fs s)
closes v None fs s = unbind_done v fs s (unbind_of s.store).0 (unbind_of s.store).1

-- ---- the value v comes to the frame of l, fs being the frames behind it
-- two-operand terms keep the first value, then evaluate the second
abbrev pub holds_first : ℕ → Value → ℕ → List Frame → Memory → Outcome Memory Turn
holds_first l v b fs s = goes Plain (Evaluate b) (with_frames (Holding l v ∷ fs) s)

-- v is the first operand's. A frame waits only for operands that its term has; for the kinds that have none, the value is returned on
abbrev pub takes_first : Script → (ℕ → Bool) → ℕ → Value → Term → List Frame → Memory → Outcome Memory Turn
takes_first p marked l v (Number n) fs s = goes Plain (Return v) (with_frames fs s)
takes_first p marked l v (Quote a) fs s = goes Plain (Return v) (with_frames fs s)
takes_first p marked l v (Lambda x b) fs s = goes Plain (Return v) (with_frames fs s)
takes_first p marked l v (Variable x) fs s = goes Plain (Return v) (with_frames fs s)
takes_first p marked l v (Setq x b) fs s = assigns p marked l x v fs s
takes_first p marked l v (Let x b c) fs s = opens marked l x c v fs s
takes_first p marked l v (If a b c) fs s = goes Plain (Evaluate (branch v b c)) (with_frames fs s)
takes_first p marked l v (Apply a b) fs s = holds_first l v b fs s
takes_first p marked l v (Cons a b) fs s = holds_first l v b fs s
takes_first p marked l v (Car a) fs s = yields (NotAPair l) fs s (first_half (cell_of s.pairs v))
takes_first p marked l v (Cdr a) fs s = yields (NotAPair l) fs s (second_half (cell_of s.pairs v))
takes_first p marked l v (Add a b) fs s = holds_first l v b fs s
takes_first p marked l v (Same a b) fs s = holds_first l v b fs s

-- the function with body g is called with w
abbrev pub calls : (ℕ → Bool) → ℕ → ℕ → Value → List Frame → Memory → Option ℕ → Outcome Memory Turn
calls marked l g w fs s None = stops (NotAFunction l) s
calls marked l g w fs s (Some y) = opens marked l y g w fs s

-- an operator that is no function is found with the operand's value
abbrev pub applies : Script → (ℕ → Bool) → ℕ → Value → Value → List Frame → Memory → Outcome Memory Turn
applies p marked l (value.Number n) w fs s = stops (NotAFunction l) s
applies p marked l (value.Symbol a) w fs s = stops (NotAFunction l) s
applies p marked l (value.Function g) w fs s = calls marked l g w fs s (parameter p g)
applies p marked l (value.Pair i) w fs s = stops (NotAFunction l) s

-- a new pair gets the next number; there are up to 1,023
abbrev pub makes_pair : ℕ → Value → Value → List Frame → Memory → Outcome Memory Turn
makes_pair l v w fs s =
    cond (nat_lt (length s.pairs) 1023)
    (goes Plain (Return (value.Pair (length s.pairs))) (record { frames = fs; pairs = s.pairs ++ (cell l v w ∷ []); store = s.store }))
    (stops (NoPairLeft l) s)

-- w is the second operand's, and the frame keeps the first one's, v
abbrev pub takes_second : Script → (ℕ → Bool) → ℕ → Value → Value → Term → List Frame → Memory → Outcome Memory Turn
takes_second p marked l v w (Number n) fs s = goes Plain (Return w) (with_frames fs s)
takes_second p marked l v w (Quote a) fs s = goes Plain (Return w) (with_frames fs s)
takes_second p marked l v w (Lambda x b) fs s = goes Plain (Return w) (with_frames fs s)
takes_second p marked l v w (Variable x) fs s = goes Plain (Return w) (with_frames fs s)
takes_second p marked l v w (Setq x b) fs s = goes Plain (Return w) (with_frames fs s)
takes_second p marked l v w (Let x b c) fs s = goes Plain (Return w) (with_frames fs s)
takes_second p marked l v w (If a b c) fs s = goes Plain (Return w) (with_frames fs s)
takes_second p marked l v w (Apply a b) fs s = applies p marked l v w fs s
takes_second p marked l v w (Cons a b) fs s = makes_pair l v w fs s
takes_second p marked l v w (Car a) fs s = goes Plain (Return w) (with_frames fs s)
takes_second p marked l v w (Cdr a) fs s = goes Plain (Return w) (with_frames fs s)
takes_second p marked l v w (Add a b) fs s = yields (NotANumber l) fs s (plus v w)
takes_second p marked l v w (Same a b) fs s = goes Plain (Return (truth (same v w))) (with_frames fs s)

abbrev pub newest : List Frame → Option Frame
newest [] = None
newest (f ∷ fs) = Some f

abbrev pub rest : List Frame → List Frame
rest [] = []
rest (f ∷ fs) = fs

-- v is returned to the newest frame, if there is one
abbrev pub returns : Script → (ℕ → Bool) → Value → Option Frame → List Frame → Memory → Outcome Memory Turn
returns p marked v None fs s = record { answer = Ok (Gives v); after = s }
returns p marked v (Some (Awaiting l)) fs s = takes_first p marked l v (term p l) fs s
returns p marked v (Some (Holding l w)) fs s = takes_second p marked l w v (term p l) fs s
returns p marked v (Some (Scope l b kept)) fs s = closes v kept fs s

abbrev pub turns : Script → (ℕ → Bool) → Next → Memory → Outcome Memory Turn
turns p marked (Evaluate l) s = evaluates p marked l (term p l) s
turns p marked (Return v) s = returns p marked v (newest s.frames) (rest s.frames) s

-- ---- rows
pub data Phase : Type 0 where
  -- no row
  idle : Phase
  -- these definitions are left to carry out, then the entry
  ready : List Definition → Phase
  -- the root of a defvar of this variable is under way, and these definitions are left after it
  defining : ℕ → List Definition → Next → Phase
  -- the entry is under way
  running : Next → Phase

-- whether all definitions were carried out once; the phase; the memory
pub record State : Type 0 where
  pub defined : Bool
  pub phase : Phase
  pub memory : Memory

abbrev pub none_left : List Definition → Bool
none_left [] = true
none_left (d ∷ ds) = false

-- bindings gone; top level and limit remain
abbrev pub unwound : Meaning Value → Meaning Value
unwound m = record { bindings = []; top = m.top; limit = m.limit }

-- when a row ends or stops, frames and bindings are gone; top level and pairs remain
abbrev pub over : Bool → Memory → State
over d s = record { defined = d; phase = idle; memory = record { frames = []; pairs = s.pairs; store = unwound s.store } }

abbrev pub reports : Report → State → Outcome State Report
reports r s = record { answer = Ok r; after = s }

abbrev pub refuses : {A : Type 0} → Fault → State → Outcome State A
refuses e s = record { answer = Err e; after = s }

abbrev pub with_memory : Memory → State → State
with_memory k s = record { defined = s.defined; phase = s.phase; memory = k }

-- a definition was carried out, ds are left
abbrev pub carried_out : List Definition → Memory → State
carried_out ds k = record { defined = none_left ds; phase = ready ds; memory = k }

-- a definition puts its value or its function
abbrev pub define_done : List Definition → Memory → State → Result (Unit {0}) Fault → Meaning Value → Outcome State Report
define_done ds k s (Err e) m = refuses e (with_memory (with_store m k) s)
define_done ds k s (Ok u) m = reports Plain (carried_out ds (with_store m k))

abbrev pub defines : ℕ → Value → List Definition → Memory → State → Outcome State Report
defines x v ds k s = define_done ds k s (put_of k.store x v).0 (put_of k.store x v).1

-- the term of a defvar of x is under way
abbrev pub in_definition : ℕ → List Definition → State → Result Turn Fault → Memory → Outcome State Report
in_definition x ds s (Err e) k = refuses e (with_memory k s)
in_definition x ds s (Ok (Goes r n)) k = reports r (record { defined = s.defined; phase = defining x ds n; memory = k })
in_definition x ds s (Ok (Stops f)) k = reports (Stopped f) (over s.defined k)
in_definition x ds s (Ok (Gives v)) k = defines x v ds k s

-- the entry is under way
abbrev pub in_entry : State → Result Turn Fault → Memory → Outcome State Report
in_entry s (Err e) k = refuses e (with_memory k s)
in_entry s (Ok (Goes r n)) k = reports r (record { defined = s.defined; phase = running n; memory = k })
in_entry s (Ok (Stops f)) k = reports (Stopped f) (over s.defined k)
in_entry s (Ok (Gives v)) k = reports (Ended v) (over s.defined k)

abbrev pub goes_defining : Script → (ℕ → Bool) → ℕ → List Definition → Next → State → Outcome State Report
goes_defining p marked x ds n s = in_definition x ds s (turns p marked n s.memory).answer (turns p marked n s.memory).after

abbrev pub goes_running : Script → (ℕ → Bool) → Next → State → Outcome State Report
goes_running p marked n s = in_entry s (turns p marked n s.memory).answer (turns p marked n s.memory).after

-- an input changes nothing and a defun puts its function, each in one plain step
abbrev pub begins : Script → (ℕ → Bool) → List Definition → State → Outcome State Report
begins p marked [] s = goes_running p marked (Evaluate (last p)) s
begins p marked (Input x ∷ ds) s = reports Plain (carried_out ds s.memory)
begins p marked (Defvar x r ∷ ds) s = goes_defining p marked x ds (Evaluate r) s
begins p marked (Defun x y r ∷ ds) s = defines x (value.Function r) ds s.memory s

abbrev pub steps_in : Script → (ℕ → Bool) → Phase → State → Outcome State Report
steps_in p marked idle s = refuses NoRow s
steps_in p marked (ready ds) s = begins p marked ds s
steps_in p marked (defining x ds n) s = goes_defining p marked x ds n s
steps_in p marked (running n) s = goes_running p marked n s

abbrev pub step_of : Script → (ℕ → Bool) → State → Outcome State Report
step_of p marked s = steps_in p marked s.phase s
