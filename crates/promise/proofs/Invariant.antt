-- What holds of a run without marks between two turns.
use Rattle.std.proofs.Common.{◌≡◌, ℕ, ◌≤◌, Bool, true, false, ◌⊎◌, List, [], ◌∷◌, ◌++◌, get_or, is_some, Some, None, Ok, Err, Option, Result}
use Rattle.faults.specs.declared.fault.Fault.{Fault}
use Rattle.terms.specs.Script.{Script, term, binds, is_body, spans}
use Rattle.stores.specs.declared.binding.Binding.{Binding}
use Rattle.facts.specs.Numbering.{flow_set, top_set, bound_set}
use Rattle.proposals.specs.Tables.{Tables}
use Rattle.values.specs.declared.value.Value.{Value}
use Rattle.values.specs.declared.value.ConsCell.{ConsCell}
use Rattle.values.specs.declared.frame.Frame.{Frame}
use Rattle.values.specs.declared.frame.Frame.TheVariants.{Awaiting, Holding, Scope}
use Rattle.values.specs.declared.turn.Next.{Next}
use Rattle.values.specs.declared.turn.Next.TheVariants.{Evaluate, Return}
use Rattle.values.specs.declared.turn.Turn.{Turn}
use Rattle.values.specs.declared.turn.Turn.TheVariants.{Goes, Stops, Gives}
use Rattle.machine.specs.Machine.{Outcome, Memory, is_application}
use Rattle.clauses.specs.Acceptance.{Listed, Subset, Extends}
use Rattle.promise.specs.Lies.{Lies, ReportInside}
use Rattle.promise.proofs.Spans.{Up, Member, operands}
use Rattle.promise.proofs.Basics.{operand_one, operand_two, TwoOperands}

-- marks that mark nothing
abbrev pub unmarked : ℕ → Bool
unmarked b = false

-- the variable and the birthplace of each binding
abbrev pub shape : List (Binding Value) → List (ℕ × ℕ)
shape [] = []
shape (b ∷ bs) = (b.variable, b.birthplace) ∷ shape bs

-- label l in context k is what the frame of m awaits as its first operand, or as its second
pub record Awaits (p : Script) (t : Tables) (l k m : ℕ) : Type 0 where
  pub operand : l ≡ operand_one (term p m)
  pub member : Member l (operands (term p m))
  pub in_list : Listed t m k
  pub up : Up p l m

pub record Holds (p : Script) (t : Tables) (h : List ConsCell) (l k m : ℕ) (v : Value) : Type 0 where
  pub operand : l ≡ operand_two (term p m)
  pub two : TwoOperands (term p m)
  pub in_list : Listed t m k
  pub up : Up p l m
  pub before : Lies p t h (flow_set (operand_one (term p m)) k) v

-- a value of m at k is one for n: m is n or, through ifs, in its place
pub record Tail (p : Script) (t : Tables) (m n k : ℕ) : Type 0 where
  pub flows : Subset t (flow_set m k) (flow_set n k)
  pub up : Up p m n

-- why the body b is evaluated for m: m calls it, or it is the body of the let m
pub data Lexical (p : Script) (b m : ℕ) : Type 0 where
  by_call : is_application (term p m) ≡ true → is_body p b ≡ true → Lexical p b m
  by_let : is_application (term p m) ≡ false → ((o : ℕ) → spans p o b ≡ true → (o ≡ b) ⊎ (spans p o m ≡ true))
      → ((o : ℕ) → is_some (binds p o) ≡ true → spans p o m ≡ true → spans p o b ≡ true) → Lexical p b m

pub record Scopes (p : Script) (t : Tables) (l k m b : ℕ) (o : Option Value) (j x birth : ℕ) : Type 0 where
  pub label : l ≡ b
  pub kept : o ≡ None
  pub born : birth ≡ b
  pub low : 1 ≤ b
  pub binder : binds p b ≡ Some x
  pub extends : Extends t j x b k
  pub back : Subset t (flow_set b k) (flow_set m j)
  pub lexical : Lexical p b m

-- the frames await a value for label l in context k, over bindings of this shape
abbrev pub Stack : Script → Tables → List ConsCell → ℕ → List Frame → ℕ → ℕ → List (ℕ × ℕ) → Type 0
Stack p t h root [] l k [] = (l ≡ root) × (k ≡ 0)
Stack p t h root [] l k (y ∷ sh) = ⊥
Stack p t h root (Awaiting m ∷ fs) l k sh = (n : ℕ) × Awaits p t l k m × Tail p t m n k × Stack p t h root fs n k sh
Stack p t h root (Holding m v ∷ fs) l k sh = (n : ℕ) × Holds p t h l k m v × Tail p t m n k × Stack p t h root fs n k sh
Stack p t h root (Scope m b o ∷ fs) l k [] = ⊥
Stack p t h root (Scope m b o ∷ fs) l k (y ∷ sh) = (j n : ℕ) × Scopes p t l k m b o j y.0 y.1 × Tail p t m n j × Stack p t h root fs n j sh

-- each binding's value lies in its set, and so does each top-level value
abbrev pub Typed : Script → Tables → List ConsCell → List (Binding Value) → Type 0
Typed p t h [] = Unit {0}
Typed p t h (b ∷ bs) = (1 ≤ b.birthplace) × Lies p t h (bound_set b.birthplace) b.thing × Typed p t h bs

abbrev pub TopTyped : Script → Tables → List ConsCell → List (Option Value) → Type 0
TopTyped p t h top = (x : ℕ) (v : Value) → get_or top x None ≡ Some v → Lies p t h (top_set x) v

pub record Held (p : Script) (t : Tables) (s : Memory) : Type 0 where
  pub bound : Typed p t s.pairs s.store.bindings
  pub topped : TopTyped p t s.pairs s.store.top

-- the term l is evaluated next, or the value v is returned next
pub record Evaluates (p : Script) (t : Tables) (root l : ℕ) (s : Memory) : Type 0 where
  pub label : ℕ
  pub context : ℕ
  pub stack : Stack p t s.pairs root s.frames label context (shape s.store.bindings)
  pub in_list : Listed t l context
  pub tail : Tail p t l label context

pub record Returns (p : Script) (t : Tables) (root : ℕ) (v : Value) (s : Memory) : Type 0 where
  pub label : ℕ
  pub context : ℕ
  pub stack : Stack p t s.pairs root s.frames label context (shape s.store.bindings)
  pub lies : Lies p t s.pairs (flow_set label context) v

abbrev pub Ready : Script → Tables → ℕ → Next → Memory → Type 0
Ready p t root (Evaluate l) s = Evaluates p t root l s
Ready p t root (Return v) s = Returns p t root v s

pub record Went (p : Script) (t : Tables) (root : ℕ) (s : Memory) (x : Next) (s' : Memory) : Type 0 where
  pub ready : Ready p t root x s'
  pub held : Held p t s'
  pub more : List ConsCell
  pub grown : s'.pairs ≡ s.pairs ++ more

-- a value is left with no frame to take it
pub record Gave (p : Script) (t : Tables) (root : ℕ) (s : Memory) (v : Value) : Type 0 where
  pub lies : Lies p t s.pairs (flow_set root 0) v
  pub frames : s.frames ≡ []
  pub bindings : s.store.bindings ≡ []

abbrev pub ComesTo : Script → Tables → ℕ → Memory → Result Turn Fault → Memory → Type 0
ComesTo p t root s (Err e) s' = Unit {0}
ComesTo p t root s (Ok (Goes r x)) s' = Went p t root s x s' × ReportInside p t s'.pairs r
ComesTo p t root s (Ok (Stops f)) s' = Unit {0}
ComesTo p t root s (Ok (Gives v)) s' = Gave p t root s v

abbrev pub Good : Script → Tables → ℕ → Memory → Outcome Memory Turn → Type 0
Good p t root s o = ComesTo p t root s o.answer o.after
