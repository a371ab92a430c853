-- Calls with marks: the same answers and the same reports, over every list of calls.
use Rattle.std.proofs.Common.{◌≡◌, ℕ, zero, suc, ◌≤◌, Bool, true, false, cond, eqb, ltb, List, [], ◌∷◌, Ok, Err, Result, sym, refl, ap, ◌∙◌, subst, subst₂}
use Rattle.faults.specs.declared.fault.Fault.{Fault}
use Rattle.faults.specs.declared.fault.Fault.TheVariants.{NoSuchVariable, NotAnInput}
use Rattle.terms.specs.declared.term.Definition.{Definition}
use Rattle.terms.specs.declared.term.Definition.TheVariants.{Input, Defvar, Defun}
use Rattle.terms.specs.Script.{Script, last, is_input}
use Rattle.terms.specs.WellFormed.{WellFormed}
use Rattle.stores.specs.declared.binding.Binding.{Binding}
use Rattle.stores.specs.Meaning.{Meaning, assigned, put_of}
use Rattle.proposals.specs.Tables.{Tables}
use Rattle.values.specs.declared.value.Value.{Value}
use Rattle.values.specs.declared.value.Value.TheVariants as value
use Rattle.values.specs.declared.frame.Frame.{Frame}
use Rattle.values.specs.declared.call.Report.{Report}
use Rattle.values.specs.declared.call.Report.TheVariants.{Plain}
use Rattle.values.specs.declared.call.Call.{Call}
use Rattle.values.specs.declared.call.Call.TheVariants.{Feed, Start, Step, Run}
use Rattle.values.specs.declared.call.Answer.TheVariants.{Done, Ran}
use Rattle.values.specs.declared.turn.Next.{Next}
use Rattle.values.specs.declared.turn.Next.TheVariants.{Evaluate}
use Rattle.values.specs.declared.turn.Turn.{Turn}
use Rattle.values.specs.declared.turn.Turn.TheVariants.{Goes, Stops, Gives}
use Rattle.machine.specs.Machine.{Outcome, Memory, with_store, turns, Phase, idle, ready, defining, running, State, reports, refuses, carried_out, define_done, defines, in_definition, in_entry, goes_defining, goes_running, begins, steps_in, step_of}
use Rattle.machine.specs.Calls.{under_way, answers, fed, feeds, stepped, continues, runs, calls_in, call_of, tells, told, told_once, told_in, reports_of, Trace, before, trace}
use Rattle.machine.proofs.Steady.{Quiet, turns_steady}
use Rattle.machine.proofs.Rows.{Sane, step_fares, call_called}
use Rattle.clauses.specs.Acceptance.{Accepted}
use Rattle.promise.proofs.Spans.{Free, entry_free}
use Rattle.promise.proofs.Invariant.{unmarked, Ready, ComesTo}
use Rattle.promise.proofs.Turns.{turns_good}
use Rattle.promise.proofs.Rows as rows
use Rattle.promise.proofs.Rows.{Blank, Phased, Fine, fresh}
use Rattle.promise.proofs.Veil.{veiled, Rightly}
use Rattle.promise.proofs.Equal.{turns_same}

abbrev pub veil_state : (ℕ → Bool) → ℕ → State → State
veil_state m n s = record { defined = s.defined; phase = s.phase; memory = veiled m n s.memory }

abbrev veil : {A : Type 0} → (ℕ → Bool) → ℕ → Outcome State A → Outcome State A
veil m n o = record { answer = o.answer; after = veil_state m n o.after }

abbrev pub veil_trace : (ℕ → Bool) → ℕ → Trace → Trace
veil_trace m n t = record { answers = t.answers; reports = t.reports; end = veil_state m n t.end }

choice : {A : Type 0} (m : ℕ → Bool) (n : ℕ) (d : Bool) (a b a' b' : Outcome State A) → a' ≡ veil m n a → b' ≡ veil m n b → cond d a' b' ≡ veil m n (cond d a b)
choice m n true a b a' b' e f = e
choice m n false a b a' b' e f = f

-- a put while there is neither frame nor binding
put_same : (m : ℕ → Bool) (n x : ℕ) (v : Value) (k : Memory) → Blank k → with_store (assigned (veiled m n k).store x v) (veiled m n k) ≡ veiled m n (with_store (assigned k.store x v) k)
put_same m n x v k b = subst₂ Same (sym b.frames) (sym b.bindings) refl
  where
    at : List Frame → List (Binding Value) → Memory
    at fs bs = record { frames = fs; pairs = k.pairs; store = record { bindings = bs; top = k.store.top; limit = k.store.limit } }

    Same : List Frame → List (Binding Value) → Type 0
    Same fs bs = with_store (assigned (veiled m n (at fs bs)).store x v) (veiled m n (at fs bs)) ≡ veiled m n (with_store (assigned (at fs bs).store x v) (at fs bs))

defines_same : (m : ℕ → Bool) (n x : ℕ) (v : Value) (ds : List Definition) (k : Memory) (s : State) → Blank k → defines x v ds (veiled m n k) (veil_state m n s) ≡ veil m n (defines x v ds k s)
defines_same m n x v ds k s b = go (ltb 31 x)
  where
    go : (c : Bool) → let q : Result (Unit {0}) Fault × Meaning Value = cond c (Err NoSuchVariable, (veiled m n k).store) (Ok tt, assigned (veiled m n k).store x v) in
        let r : Result (Unit {0}) Fault × Meaning Value = cond c (Err NoSuchVariable, k.store) (Ok tt, assigned k.store x v) in
        define_done ds (veiled m n k) (veil_state m n s) q.0 q.1 ≡ veil m n (define_done ds k s r.0 r.1)
    go true = refl
    go false = ap (λ z. reports Plain (carried_out ds z)) (put_same m n x v k b)

in_definition_same : (p : Script) (t : Tables) (root : ℕ) (m : ℕ → Bool) (n x : ℕ) (ds : List Definition) (s : State) (a : Result Turn Fault) (k : Memory) → (Quiet a → k ≡ s.memory) → ComesTo p t root s.memory a k
    → in_definition x ds (veil_state m n s) a (veiled m n k) ≡ veil m n (in_definition x ds s a k)
in_definition_same p t root m n x ds s (Err e) k same g = refl
in_definition_same p t root m n x ds s (Ok (Goes r y)) k same g = refl
in_definition_same p t root m n x ds s (Ok (Stops f)) k same g = refl
in_definition_same p t root m n x ds s (Ok (Gives v)) k same g = defines_same m n x v ds k s (subst Blank (sym (same tt)) (record { frames = g.frames; bindings = g.bindings }))

in_entry_same : (m : ℕ → Bool) (n : ℕ) (s : State) (a : Result Turn Fault) (k : Memory) → in_entry (veil_state m n s) a (veiled m n k) ≡ veil m n (in_entry s a k)
in_entry_same m n s (Err e) k = refl
in_entry_same m n s (Ok (Goes r y)) k = refl
in_entry_same m n s (Ok (Stops f)) k = refl
in_entry_same m n s (Ok (Gives v)) k = refl

module _ (p : Script) (W : WellFormed p) (t : Tables) (A : Accepted p t) (m : ℕ → Bool) (M : Rightly p t m) (k n : ℕ) (many : 255 ≤ k) (many' : 255 ≤ n) where
  -- what holds of the run without marks, whose store has limit k
  pub record Good (s : State) : Type 0 where
    pub fine : Fine p t s
    pub sane : Sane p unmarked k s

  defining_same : (x : ℕ) (ds : List Definition) (y : Next) (root : ℕ) (s : State) → Good s → Free p root → Ready p t root y s.memory
      → goes_defining p m x ds y (veil_state m n s) ≡ veil m n (goes_defining p unmarked x ds y s)
  defining_same x ds y root s f fr r =
      ap (λ o. in_definition x ds (veil_state m n s) o.answer o.after) (turns_same p W t A m M n many' root fr k y s.memory many f.sane.room r)
      ∙ in_definition_same p t root m n x ds s (turns p unmarked y s.memory).answer (turns p unmarked y s.memory).after
      (turns_steady p unmarked 0 y s.memory).unchanged (turns_good p t A W root y s.memory f.fine.held r)

  running_same : (y : Next) (s : State) → Good s → Ready p t (last p) y s.memory → goes_running p m y (veil_state m n s) ≡ veil m n (goes_running p unmarked y s)
  running_same y s f r =
      ap (λ o. in_entry (veil_state m n s) o.answer o.after) (turns_same p W t A m M n many' (last p) (entry_free p W) k y s.memory many f.sane.room r)
      ∙ in_entry_same m n s (turns p unmarked y s.memory).answer (turns p unmarked y s.memory).after

  begins_same : (ds : List Definition) (s : State) → Good s → rows.Plans p t ds → Blank s.memory → begins p m ds (veil_state m n s) ≡ veil m n (begins p unmarked ds s)
  begins_same [] s f a b = running_same (Evaluate (last p)) s f (fresh p t A W (last p) s.memory b A.entry_listed)
  begins_same (Input x ∷ ds) s f a b = refl
  begins_same (Defvar x r ∷ ds) s f a b = defining_same x ds (Evaluate r) r s f a.0.1 (fresh p t A W r s.memory b a.0.0.root)
  begins_same (Defun x y r ∷ ds) s f a b = defines_same m n x (value.Function r) ds s.memory s b

  steps_same : (ph : Phase) (s : State) → Good s → Phased p t ph s.memory → steps_in p m ph (veil_state m n s) ≡ veil m n (steps_in p unmarked ph s)
  steps_same idle s f g = refl
  steps_same (ready ds) s f g = begins_same ds s f g.0 g.1
  steps_same (defining x ds y) s f g = defining_same x ds y g.root s f g.free g.ready
  steps_same (running y) s f g = running_same y s f g

  step_same : (s : State) → Good s → step_of p m (veil_state m n s) ≡ veil m n (step_of p unmarked s)
  step_same s f = steps_same s.phase s f f.fine.phased

  step_good : (s : State) → Good s → Good (step_of p unmarked s).after
  step_good s f = record { fine = (rows.step_fares p t A W s f.fine).fine; sane = (step_fares p unmarked k s).sane f.sane }

  runs_same : (i c : ℕ) (r : Report) (s : State) → Good s → runs p m i c r (veil_state m n s) ≡ veil m n (runs p unmarked i c r s)
  runs_same zero c r s f = refl
  runs_same (suc i) c r s f =
      ap (λ o. continues (runs p m i) c r o.answer o.after) (step_same s f)
      ∙ go (λ q. runs_same i (suc c) q (step_of p unmarked s).after (step_good s f)) (step_of p unmarked s).answer
    where
      go : ((q : Report) → runs p m i (suc c) q (veil_state m n (step_of p unmarked s).after) ≡ veil m n (runs p unmarked i (suc c) q (step_of p unmarked s).after)) → (a : Result Report Fault)
          → continues (runs p m i) c r a (veil_state m n (step_of p unmarked s).after) ≡ veil m n (continues (runs p unmarked i) c r a (step_of p unmarked s).after)
      go ih (Err e) = choice m n (eqb c 0) (refuses e (step_of p unmarked s).after) (answers (Ran c r) (step_of p unmarked s).after) _ _ refl refl
      go ih (Ok q) = choice m n (under_way (step_of p unmarked s).after.phase) (runs p unmarked i (suc c) q (step_of p unmarked s).after) (answers (Ran (suc c) q) (step_of p unmarked s).after) _ _ (ih q) refl

  told_same : (i : ℕ) (s : State) → Good s → told p m i (veil_state m n s) ≡ told p unmarked i s
  told_same zero s f = refl
  told_same (suc i) s f =
      ap (λ o. tells (told p m i) o.answer o.after) (step_same s f)
      ∙ go (told_same i (step_of p unmarked s).after (step_good s f)) (step_of p unmarked s).answer
    where
      go : told p m i (veil_state m n (step_of p unmarked s).after) ≡ told p unmarked i (step_of p unmarked s).after → (a : Result Report Fault)
          → tells (told p m i) a (veil_state m n (step_of p unmarked s).after) ≡ tells (told p unmarked i) a (step_of p unmarked s).after
      go ih (Err e) = refl
      go ih (Ok q) = ap (λ z. q ∷ cond (under_way (step_of p unmarked s).after.phase) z []) ih

  feeds_same : (x i : ℕ) (s : State) → Good s → under_way s.phase ≡ false → feeds p x i (veil_state m n s) ≡ veil m n (feeds p x i s)
  feeds_same x i s f u =
      choice m n (is_input p x) (fed s (put_of s.memory.store x (value.Number i)).0 (put_of s.memory.store x (value.Number i)).1) (refuses NotAnInput s) _ _ (go (ltb 31 x)) refl
    where
      go : (c : Bool) → let q : Result (Unit {0}) Fault × Meaning Value = cond c (Err NoSuchVariable, (veiled m n s.memory).store) (Ok tt, assigned (veiled m n s.memory).store x (value.Number i)) in
          let r : Result (Unit {0}) Fault × Meaning Value = cond c (Err NoSuchVariable, s.memory.store) (Ok tt, assigned s.memory.store x (value.Number i)) in
          fed (veil_state m n s) q.0 q.1 ≡ veil m n (fed s r.0 r.1)
      go true = refl
      go false = ap (λ z. record { answer = Ok Done; after = record { defined = s.defined; phase = s.phase; memory = z } }) (put_same m n x (value.Number i) s.memory (rows.blank_of p t A W s.phase s.memory u f.fine.phased))

  stepped_same : (a : Result Report Fault) (e : State) → stepped a (veil_state m n e) ≡ veil m n (stepped a e)
  stepped_same (Err x) e = refl
  stepped_same (Ok r) e = refl

  calls_same : (d : Bool) (c : Call) (s : State) → Good s → under_way s.phase ≡ d → calls_in p m d c (veil_state m n s) ≡ veil m n (calls_in p unmarked d c s)
  calls_same false (Feed x i) s f u = feeds_same x i s f u
  calls_same false Start s f u = refl
  calls_same false Step s f u = refl
  calls_same false (Run i) s f u = refl
  calls_same true (Feed x i) s f u = refl
  calls_same true Start s f u = refl
  calls_same true Step s f u = ap (λ o. stepped o.answer o.after) (step_same s f) ∙ stepped_same (step_of p unmarked s).answer (step_of p unmarked s).after
  calls_same true (Run i) s f u = runs_same i 0 Plain s f

  reports_same : (d : Bool) (c : Call) (s : State) → Good s → told_in p m d c (veil_state m n s) ≡ told_in p unmarked d c s
  reports_same false (Feed x i) s f = refl
  reports_same false Start s f = refl
  reports_same false Step s f = refl
  reports_same false (Run i) s f = refl
  reports_same true (Feed x i) s f = refl
  reports_same true Start s f = refl
  reports_same true Step s f = ap (λ o. told_once o.answer) (step_same s f)
  reports_same true (Run i) s f = told_same i s f

  call_good : (c : Call) (s : State) → Good s → Good (call_of p unmarked s c).after
  call_good c s f = record { fine = (rows.call_fares p t A W c s f.fine).fine; sane = (call_called p unmarked k s c).sane f.sane }

  pub trace_good : (cs : List Call) (s : State) → Good s → Good (trace p unmarked s cs).end
  trace_good [] s f = f
  trace_good (c ∷ cs) s f = trace_good cs (call_of p unmarked s c).after (call_good c s f)

  pub trace_same : (cs : List Call) (s : State) → Good s → trace p m (veil_state m n s) cs ≡ veil_trace m n (trace p unmarked s cs)
  trace_same [] s f = refl
  trace_same (c ∷ cs) s f =
      ap (λ o. before o.answer (reports_of p m (veil_state m n s) c) (trace p m o.after cs)) (calls_same (under_way s.phase) c s f refl)
      ∙ ap (λ rs. before (call_of p unmarked s c).answer rs (trace p m (veil_state m n (call_of p unmarked s c).after) cs)) (reports_same (under_way s.phase) c s f)
      ∙ ap (before (call_of p unmarked s c).answer (reports_of p unmarked s c)) (trace_same cs (call_of p unmarked s c).after (call_good c s f))
