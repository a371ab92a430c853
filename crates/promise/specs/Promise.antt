-- What accepted tables and their marks promise of every run.
use Rattle.std.specs.Prelude.{◌≡◌, ℕ, ◌≤◌, true, false, List, [], ◌∷◌, replicate, Some, Ok}
use Rattle.terms.specs.declared.term.Term.TheVariants.{Variable, Setq}
use Rattle.terms.specs.Script.{Script, term}
use Rattle.terms.specs.WellFormed.{WellFormed}
use Rattle.stores.specs.declared.binding.Binding.{Binding}
use Rattle.stores.specs.Meaning.{Meaning, clear_of}
use Rattle.owners.specs.Owners.{owner}
use Rattle.proposals.specs.Tables.{Tables}
use Rattle.values.specs.declared.value.Value.{Value}
use Rattle.values.specs.declared.frame.Frame.{Frame}
use Rattle.values.specs.declared.frame.Frame.TheVariants.{Awaiting}
use Rattle.values.specs.declared.call.Call.{Call}
use Rattle.values.specs.declared.turn.Next.TheVariants.{Evaluate, Return}
use Rattle.machine.specs.Machine.{State, kept_at}
use Rattle.machine.specs.Calls.{Trace, trace}
use Rattle.machine.specs.Open.{marked, opened, open_of}
use Rattle.machine.specs.Laws.{next_in}
use Rattle.clauses.specs.Verdict.{check_of}
use Rattle.clauses.specs.Acceptance.{Accepted}
use Rattle.clauses.specs.Marks.{marks_of}
use Rattle.promise.specs.Lies.{AllInside}

-- mark bytes that mark nothing
unfoldable pub no_marks : List ℕ
no_marks = replicate 256 0

-- the calls on a run that was opened with these mark bytes over this store
abbrev pub run_trace : Script → List ℕ → Meaning Value → List Call → Trace
run_trace p bytes m cs = trace p (marked bytes) (opened m) cs

-- no binding of a marked binder among these
abbrev pub NoneMarked : List ℕ → List (Binding Value) → Type 0
NoneMarked bytes [] = Unit {0}
NoneMarked bytes (b ∷ bs) = (marked bytes b.birthplace ≡ false) × NoneMarked bytes bs

-- Both runs open over cleared stores: without marks over m, with the marks of the rule over n.
pub record Opens (p : Script) (t : Tables) (m n : Meaning Value) : Type 0 where
  pub plain : open_of p no_marks m ≡ (Ok (opened m), clear_of m)
  pub with_marks : open_of p (marks_of p t) n ≡ (Ok (opened n), clear_of n)

-- Pairs only grow, so those at the end are also those that each value of a report had. Since the calls are any, and a run call is as many steps,
-- what is said of the end holds at any time.
-- Without marks each read and assignment lies inside the tables. With them the run gives the same answers, counts, refusals and places, and the
-- same reports in the same order, those inside run calls too; it has the same pairs and the same top level; and its store holds no binding of a
-- marked binder.
pub record Promised (p : Script) (t : Tables) (m n : Meaning Value) (cs : List Call) : Type 0 where
  pub inside : let plain = run_trace p no_marks m cs in AllInside p t plain.end.memory.pairs plain.reports
  pub answers : (run_trace p (marks_of p t) n cs).answers ≡ (run_trace p no_marks m cs).answers
  pub reports : (run_trace p (marks_of p t) n cs).reports ≡ (run_trace p no_marks m cs).reports
  pub pairs : (run_trace p (marks_of p t) n cs).end.memory.pairs ≡ (run_trace p no_marks m cs).end.memory.pairs
  pub top : (run_trace p (marks_of p t) n cs).end.memory.store.top ≡ (run_trace p no_marks m cs).end.memory.store.top
  pub clean : NoneMarked (marks_of p t) (run_trace p (marks_of p t) n cs).end.memory.store.bindings

-- over any two stores of limit 255 or more, and for every list of calls
abbrev pub Promises : Script → Tables → Type 0
Promises p t = (m n : Meaning Value) → 255 ≤ m.limit → 255 ≤ n.limit → Opens p t m n × ((cs : List Call) → Promised p t m n cs)

-- For every well-formed script and all accepted tables;
abbrev pub Promise : Type 0
Promise = (p : Script) → WellFormed p → (t : Tables) → Accepted p t → Promises p t

-- that is, for all tables that a check accepts.
abbrev pub PassedPromise : Type 0
PassedPromise = (p : Script) → WellFormed p → (t : Tables) → check_of p t ≡ Ok tt → Promises p t

-- What the occurrence l looks up in the scope frames fs it finds there.
pub record Found (p : Script) (l : ℕ) (fs : List Frame) : Type 0 where
  pub value : Value
  pub kept : kept_at p (owner p l) fs ≡ Some value

-- An occurrence with a marked owner always finds its owner's scope frame: a variable that comes next, and a setq whose value is returned.
pub record Finds (p : Script) (t : Tables) (s : State) : Type 0 where
  pub reading : (l x : ℕ) → next_in p s.phase ≡ Some (Evaluate l) → term p l ≡ Variable x → marked (marks_of p t) (owner p l) ≡ true → Found p l s.memory.frames
  pub assigning : (l x b : ℕ) (v : Value) (fs : List Frame) → next_in p s.phase ≡ Some (Return v) → s.memory.frames ≡ Awaiting l ∷ fs → term p l ≡ Setq x b
      → marked (marks_of p t) (owner p l) ≡ true → Found p l fs

abbrev pub AlwaysFinds : Type 0
AlwaysFinds =
    (p : Script) → WellFormed p → (t : Tables) → Accepted p t → (n : Meaning Value) → 255 ≤ n.limit → (cs : List Call) → Finds p t (run_trace p (marks_of p t) n cs).end
