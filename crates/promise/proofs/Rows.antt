-- Rows and calls of a run without marks: everything that it reports lies inside the tables.
use Rattle.std.proofs.Common.{◌≡◌, ℕ, zero, suc, Bool, true, false, cond, eqb, ltb, List, [], ◌∷◌, ◌++◌, get_or, replicate, None, Ok, Err, Option, Result, sym, refl, ap, ◌∙◌, subst, subst₂, inl, inr, append_assoc}
use Rattle.std.proofs.lemmas.Bool.{eqb-true, false≢true, true≢false, or_cases}
use Rattle.faults.specs.declared.fault.Fault.{Fault}
use Rattle.faults.specs.declared.fault.Fault.TheVariants.{NoSuchVariable, NotAnInput}
use Rattle.terms.specs.declared.term.Definition.{Definition}
use Rattle.terms.specs.declared.term.Definition.TheVariants.{Input, Defvar, Defun}
use Rattle.terms.specs.Script.{Script, last, input_among, is_input}
use Rattle.terms.specs.WellFormed.{WellFormed}
use Rattle.stores.specs.Meaning.{Meaning, replaced, assigned, put_of}
use Rattle.facts.specs.Numbering.{number_fact, flow_set, top_set}
use Rattle.proposals.specs.Tables.{Tables, in_set}
use Rattle.values.specs.declared.value.Value.{Value}
use Rattle.values.specs.declared.value.Value.TheVariants as value
use Rattle.values.specs.declared.value.ConsCell.{ConsCell}
use Rattle.values.specs.declared.call.Report.{Report}
use Rattle.values.specs.declared.call.Report.TheVariants.{Plain, Ended, Stopped}
use Rattle.values.specs.declared.call.Call.{Call}
use Rattle.values.specs.declared.call.Call.TheVariants.{Feed, Start, Step, Run}
use Rattle.values.specs.declared.call.Answer.TheVariants.{Ran}
use Rattle.values.specs.declared.turn.Next.{Next}
use Rattle.values.specs.declared.turn.Next.TheVariants.{Evaluate}
use Rattle.values.specs.declared.turn.Turn.{Turn}
use Rattle.values.specs.declared.turn.Turn.TheVariants.{Goes, Stops, Gives}
use Rattle.machine.specs.Machine.{Memory, with_store, turns, Phase, idle, ready, defining, running, State, over, refuses, with_memory, define_done, defines, in_definition, in_entry, goes_defining, goes_running, begins, steps_in, step_of}
use Rattle.machine.specs.Calls.{under_way, answers, fed, feeds, starts, stepped, continues, runs, calls_in, call_of, tells, told, told_once, told_in, reports_of, trace}
use Rattle.machine.specs.Open.{opened}
use Rattle.machine.proofs.Variables.{none_some}
use Rattle.machine.proofs.Steady.{Quiet, turns_steady}
use Rattle.clauses.specs.Clauses.{binding_set}
use Rattle.clauses.specs.Acceptance.{Listed, Subset, DefinitionMet, DefinitionsMet, Accepted}
use Rattle.promise.specs.Lies.{Lies, number, function, ReportInside, AllInside}
use Rattle.promise.proofs.Spans.{Free, Among, defvar_free}
use Rattle.promise.proofs.Basics.{append_nil, lies_within, all_grow, all_append}
use Rattle.promise.proofs.Invariant.{unmarked, shape, Stack, Held, Evaluates, Ready, ComesTo}
use Rattle.promise.proofs.Bindings.{birth, set_top, put_typed, put_top_typed}
use Rattle.promise.proofs.Turns.{tail_self, turns_good}

-- what is known of a definition that is left
abbrev pub Plan : Script → Tables → Definition → Type 0
Plan p t (Input x) = DefinitionMet t (Input x)
Plan p t (Defvar x r) = DefinitionMet t (Defvar x r) × Free p r
Plan p t (Defun x y r) = DefinitionMet t (Defun x y r)

abbrev pub Plans : Script → Tables → List Definition → Type 0
Plans p t [] = Unit {0}
Plans p t (d ∷ ds) = Plan p t d × Plans p t ds

pub record Blank (s : Memory) : Type 0 where
  pub frames : s.frames ≡ []
  pub bindings : s.store.bindings ≡ []

-- the root of a defvar of x is under way, with ds left after it
pub record Defining (p : Script) (t : Tables) (x : ℕ) (ds : List Definition) (n : Next) (s : Memory) : Type 0 where
  pub plans : Plans p t ds
  pub root : ℕ
  pub free : Free p root
  pub into : Subset t (flow_set root 0) (top_set x)
  pub ready : Ready p t root n s

abbrev pub Phased : Script → Tables → Phase → Memory → Type 0
Phased p t idle s = Blank s
Phased p t (ready ds) s = Plans p t ds × Blank s
Phased p t (defining x ds n) s = Defining p t x ds n s
Phased p t (running n) s = Ready p t (last p) n s

pub record Fine (p : Script) (t : Tables) (s : State) : Type 0 where
  pub held : Held p t s.memory
  pub phased : Phased p t s.phase s.memory

-- from s to the state e, making the reports rs
pub record Fares (p : Script) (t : Tables) (s : State) (rs : List Report) (e : State) : Type 0 where
  pub fine : Fine p t e
  pub inside : AllInside p t e.memory.pairs rs
  pub more : List ConsCell
  pub grown : e.memory.pairs ≡ s.memory.pairs ++ more

plans_of : (p : Script) (t : Tables) (ds : List Definition) → ((d : Definition) → Among d ds → Plan p t d) → Plans p t ds
plans_of p t [] f = tt
plans_of p t (d ∷ ds) f = (f d (inl refl), plans_of p t ds (λ e m. f e (inr m)))

met_of : (t : Tables) (ds : List Definition) (d : Definition) → DefinitionsMet t ds → Among d ds → DefinitionMet t d
met_of t [] d a m = absurd m
met_of t (e ∷ ds) d a (inl q) = subst (DefinitionMet t) (sym q) a.0
met_of t (e ∷ ds) d a (inr m) = met_of t ds d a.1 m

input_plan : (p : Script) (t : Tables) (ds : List Definition) (x : ℕ) → Plans p t ds → input_among ds x ≡ true → in_set t (top_set x) number_fact ≡ true
input_plan p t [] x a e = absurd (false≢true e)
input_plan p t (Input y ∷ ds) x a e = elim (or_cases (eqb y x) (input_among ds x) e) [
  | inl q ↦ subst (λ z. in_set t (top_set z) number_fact ≡ true) (eqb-true y x q) a.0
  | inr q ↦ input_plan p t ds x a.1 q
]
input_plan p t (Defvar y r ∷ ds) x a e = input_plan p t ds x a.1 e
input_plan p t (Defun y z r ∷ ds) x a e = input_plan p t ds x a.1 e

-- a value is put while there is no binding
put_held : (p : Script) (t : Tables) (x : ℕ) (v : Value) (s : Memory) → s.store.bindings ≡ [] → Held p t s → Lies p t s.pairs (top_set x) v → Held p t (with_store (assigned s.store x v) s)
put_held p t x v s b h i =
    let none : birth x s.store.bindings ≡ 0 = ap (birth x) b in
    let j : Lies p t s.pairs (binding_set x (birth x s.store.bindings)) v = subst (λ z. Lies p t s.pairs z v) (sym (set_top x (birth x s.store.bindings) none)) i in
    record { bound = put_typed p t s.pairs x v s.store.bindings h.bound j; topped = put_top_typed p t s.pairs x v s.store h.topped j }

put_blank : (x : ℕ) (v : Value) (s : Memory) → Blank s → Blank (with_store (assigned s.store x v) s)
put_blank x v s b = record { frames = b.frames; bindings = ap (replaced x v) b.bindings }

module _ (p : Script) (t : Tables) (A : Accepted p t) (W : WellFormed p) where
  plan_of : (d : Definition) → Among d p.definitions → Plan p t d
  plan_of (Input x) m = met_of t p.definitions (Input x) A.definitions m
  plan_of (Defvar x r) m = (met_of t p.definitions (Defvar x r) A.definitions m, defvar_free p W x r m)
  plan_of (Defun x y r) m = met_of t p.definitions (Defun x y r) A.definitions m

  all_plans : Plans p t p.definitions
  all_plans = plans_of p t p.definitions plan_of

  -- nothing on the stack, and the root comes next
  pub fresh : (r : ℕ) (s : Memory) → Blank s → Listed t r 0 → Evaluates p t r r s
  fresh r s b e = record {
    label = r;
    context = 0;
    stack = subst₂ (λ fs bs. Stack p t s.pairs r fs r 0 (shape bs)) (sym b.frames) (sym b.bindings) (refl, refl);
    in_list = e;
    tail = tail_self p t r 0;
  }

  stays : (s : State) → Fine p t s → Fares p t s [] s
  stays s f = record { fine = f; inside = tt; more = []; grown = sym (append_nil s.memory.pairs) }

  -- the same pairs after it
  same_pairs : (s : State) (r : Report) (e : State) → e.memory.pairs ≡ s.memory.pairs → ReportInside p t e.memory.pairs r → Fine p t e → Fares p t s (r ∷ []) e
  same_pairs s r e q i f = record { fine = f; inside = (i, tt); more = []; grown = q ∙ sym (append_nil s.memory.pairs) }

  over_fine : (d : Bool) (k : Memory) → Held p t k → Fine p t (over d k)
  over_fine d k h = record { held = record { bound = tt; topped = h.topped }; phased = record { frames = refl; bindings = refl } }

  defines_fares : (x : ℕ) (v : Value) (ds : List Definition) (s : State) → Fine p t s → Plans p t ds → Blank s.memory → Lies p t s.memory.pairs (top_set x) v
      → Fares p t s (told_once (defines x v ds s.memory s).answer) (defines x v ds s.memory s).after
  defines_fares x v ds s f a b i = go (ltb 31 x)
    where
      go : (c : Bool) → let r : Result (Unit {0}) Fault × Meaning Value = cond c (Err NoSuchVariable, s.memory.store) (Ok tt, assigned s.memory.store x v) in
          Fares p t s (told_once (define_done ds s.memory s r.0 r.1).answer) (define_done ds s.memory s r.0 r.1).after
      go true = stays s f
      go false = same_pairs s Plain _ refl tt (record { held = put_held p t x v s.memory b.bindings f.held i; phased = (a, put_blank x v s.memory b) })

  in_definition_fares : (x : ℕ) (ds : List Definition) (s : State) (a : Result Turn Fault) (k : Memory) (root : ℕ) → Fine p t s → Plans p t ds → Free p root → Subset t (flow_set root 0) (top_set x)
      → (Quiet a → k ≡ s.memory) → ComesTo p t root s.memory a k → Fares p t s (told_once (in_definition x ds s a k).answer) (in_definition x ds s a k).after
  in_definition_fares x ds s (Err e) k root f a fr w same g = subst (λ z. Fares p t s [] (with_memory z s)) (sym (same tt)) (stays s f)
  in_definition_fares x ds s (Ok (Goes r n)) k root f a fr w same g =
      record { fine = record { held = g.0.held; phased = record { plans = a; root = root; free = fr; into = w; ready = g.0.ready } }; inside = (g.1, tt); more = g.0.more; grown = g.0.grown }
  in_definition_fares x ds s (Ok (Stops e)) k root f a fr w same g = subst (λ z. Fares p t s (Stopped e ∷ []) (over s.defined z)) (sym (same tt)) (same_pairs s (Stopped e) _ refl tt (over_fine s.defined s.memory f.held))
  in_definition_fares x ds s (Ok (Gives v)) k root f a fr w same g =
      subst (λ z. Fares p t s (told_once (defines x v ds z s).answer) (defines x v ds z s).after) (sym (same tt))
      (defines_fares x v ds s f a (record { frames = g.frames; bindings = g.bindings }) (lies_within w g.lies))

  in_entry_fares : (s : State) (a : Result Turn Fault) (k : Memory) → Fine p t s → (Quiet a → k ≡ s.memory) → ComesTo p t (last p) s.memory a k → Fares p t s (told_once (in_entry s a k).answer) (in_entry s a k).after
  in_entry_fares s (Err e) k f same g = subst (λ z. Fares p t s [] (with_memory z s)) (sym (same tt)) (stays s f)
  in_entry_fares s (Ok (Goes r n)) k f same g =
      record { fine = record { held = g.0.held; phased = g.0.ready }; inside = (g.1, tt); more = g.0.more; grown = g.0.grown }
  in_entry_fares s (Ok (Stops e)) k f same g = subst (λ z. Fares p t s (Stopped e ∷ []) (over s.defined z)) (sym (same tt)) (same_pairs s (Stopped e) _ refl tt (over_fine s.defined s.memory f.held))
  in_entry_fares s (Ok (Gives v)) k f same g = subst (λ z. Fares p t s (Ended v ∷ []) (over s.defined z)) (sym (same tt)) (same_pairs s (Ended v) _ refl tt (over_fine s.defined s.memory f.held))

  defining_fares : (x : ℕ) (ds : List Definition) (n : Next) (root : ℕ) (s : State) → Fine p t s → Plans p t ds → Free p root → Subset t (flow_set root 0) (top_set x) → Ready p t root n s.memory
      → Fares p t s (told_once (goes_defining p unmarked x ds n s).answer) (goes_defining p unmarked x ds n s).after
  defining_fares x ds n root s f a fr w r =
      in_definition_fares x ds s (turns p unmarked n s.memory).answer (turns p unmarked n s.memory).after root f a fr w (turns_steady p unmarked 0 n s.memory).unchanged (turns_good p t A W root n s.memory f.held r)

  running_fares : (n : Next) (s : State) → Fine p t s → Ready p t (last p) n s.memory → Fares p t s (told_once (goes_running p unmarked n s).answer) (goes_running p unmarked n s).after
  running_fares n s f r = in_entry_fares s (turns p unmarked n s.memory).answer (turns p unmarked n s.memory).after f (turns_steady p unmarked 0 n s.memory).unchanged (turns_good p t A W (last p) n s.memory f.held r)

  begins_fares : (ds : List Definition) (s : State) → Fine p t s → Plans p t ds → Blank s.memory → Fares p t s (told_once (begins p unmarked ds s).answer) (begins p unmarked ds s).after
  begins_fares [] s f a b = running_fares (Evaluate (last p)) s f (fresh (last p) s.memory b A.entry_listed)
  begins_fares (Input x ∷ ds) s f a b = same_pairs s Plain _ refl tt (record { held = f.held; phased = (a.1, b) })
  begins_fares (Defvar x r ∷ ds) s f a b = defining_fares x ds (Evaluate r) r s f a.1 a.0.1 a.0.0.defined (fresh r s.memory b a.0.0.root)
  begins_fares (Defun x y r ∷ ds) s f a b = defines_fares x (value.Function r) ds s f a.1 b (function a.0)

  steps_fares : (ph : Phase) (s : State) → s.phase ≡ ph → Fine p t s → Fares p t s (told_once (steps_in p unmarked ph s).answer) (steps_in p unmarked ph s).after
  steps_fares idle s e f = stays s f
  steps_fares (ready ds) s e f = let g = subst (λ z. Phased p t z s.memory) e f.phased in begins_fares ds s f g.0 g.1
  steps_fares (defining x ds n) s e f = let g = subst (λ z. Phased p t z s.memory) e f.phased in defining_fares x ds n g.root s f g.plans g.free g.into g.ready
  steps_fares (running n) s e f = running_fares n s f (subst (λ z. Phased p t z s.memory) e f.phased)

  pub step_fares : (s : State) → Fine p t s → Fares p t s (told_once (step_of p unmarked s).answer) (step_of p unmarked s).after
  step_fares s f = steps_fares s.phase s refl f

  -- ---- calls
  then : (a b c : State) (rs qs : List Report) → Fares p t a rs b → Fares p t b qs c → Fares p t a (rs ++ qs) c
  then a b c rs qs f g = record {
    fine = g.fine;
    inside = all_append p t c.memory.pairs rs qs (subst (λ h. AllInside p t h rs) (sym g.grown) (all_grow p t b.memory.pairs g.more rs f.inside)) g.inside;
    more = f.more ++ g.more;
    grown = g.grown ∙ ap (λ h. h ++ g.more) f.grown ∙ append_assoc a.memory.pairs f.more g.more;
  }

  runs_fares : (n k : ℕ) (r : Report) (s : State) → Fine p t s → Fares p t s (told p unmarked n s) (runs p unmarked n k r s).after
  runs_fares zero k r s f = stays s f
  runs_fares (suc n) k r s f = go (λ q e h. runs_fares n (suc k) q e h) (step_of p unmarked s).answer (step_of p unmarked s).after (step_fares s f)
    where
      go : ((q : Report) (e : State) → Fine p t e → Fares p t e (told p unmarked n e) (runs p unmarked n (suc k) q e).after) → (a : Result Report Fault) (e : State) → Fares p t s (told_once a) e
          → Fares p t s (tells (told p unmarked n) a e) (continues (runs p unmarked n) k r a e).after
      go ih (Err x) e g = elim (eqb k 0) as (λ d. Fares p t s [] (cond d (refuses x e) (answers (Ran k r) e)).after) [ true ↦ g | false ↦ g ]
      go ih (Ok q) e g = elim (under_way e.phase) as (λ d. Fares p t s (q ∷ cond d (told p unmarked n e) []) (cond d (runs p unmarked n (suc k) q e) (answers (Ran (suc k) q) e)).after)
          [ true ↦ then s e _ (q ∷ []) _ g (ih q e g.fine) | false ↦ g ]

  pub blank_of : (ph : Phase) (s : Memory) → under_way ph ≡ false → Phased p t ph s → Blank s
  blank_of idle s e f = f
  blank_of (ready ds) s e f = absurd (true≢false e)
  blank_of (defining x ds n) s e f = absurd (true≢false e)
  blank_of (running n) s e f = absurd (true≢false e)

  blank_phased : (ph : Phase) (s : Memory) → under_way ph ≡ false → Blank s → Phased p t ph s
  blank_phased idle s e b = b
  blank_phased (ready ds) s e b = absurd (true≢false e)
  blank_phased (defining x ds n) s e b = absurd (true≢false e)
  blank_phased (running n) s e b = absurd (true≢false e)

  feeds_fares : (x n : ℕ) (s : State) → under_way s.phase ≡ false → Fine p t s → Fares p t s [] (feeds p x n s).after
  unfolding is_input
  feeds_fares x n s u f = go (input_among p.definitions x) refl
    where
      put : input_among p.definitions x ≡ true → (c : Bool) → let r : Result (Unit {0}) Fault × Meaning Value = cond c (Err NoSuchVariable, s.memory.store) (Ok tt, assigned s.memory.store x (value.Number n)) in
          Fares p t s [] (fed s r.0 r.1).after
      put i true = stays s f
      put i false = let b = blank_of s.phase s.memory u f.phased in record {
        fine = record {
          held = put_held p t x (value.Number n) s.memory b.bindings f.held (number (input_plan p t p.definitions x all_plans i));
          phased = blank_phased s.phase _ u (put_blank x (value.Number n) s.memory b);
        };
        inside = tt;
        more = [];
        grown = sym (append_nil s.memory.pairs);
      }

      go : (d : Bool) → input_among p.definitions x ≡ d
          → Fares p t s [] (cond d (fed s (put_of s.memory.store x (value.Number n)).0 (put_of s.memory.store x (value.Number n)).1) (refuses NotAnInput s)).after
      go true i = put i (ltb 31 x)
      go false i = stays s f

  starts_fares : (s : State) → under_way s.phase ≡ false → Fine p t s → Fares p t s [] (starts p s).after
  starts_fares s u f = record {
    fine = record { held = f.held; phased = (todo s.defined, blank_of s.phase s.memory u f.phased) };
    inside = tt;
    more = [];
    grown = sym (append_nil s.memory.pairs);
  }
    where
      todo : (d : Bool) → Plans p t (cond d [] p.definitions)
      todo true = tt
      todo false = all_plans

  calls_fares : (d : Bool) (c : Call) (s : State) → under_way s.phase ≡ d → Fine p t s → Fares p t s (told_in p unmarked d c s) (calls_in p unmarked d c s).after
  calls_fares false (Feed x n) s u f = feeds_fares x n s u f
  calls_fares false Start s u f = starts_fares s u f
  calls_fares false Step s u f = stays s f
  calls_fares false (Run n) s u f = stays s f
  calls_fares true (Feed x n) s u f = stays s f
  calls_fares true Start s u f = stays s f
  calls_fares true Step s u f = go (step_of p unmarked s).answer (step_of p unmarked s).after (step_fares s f)
    where
      go : (a : Result Report Fault) (e : State) → Fares p t s (told_once a) e → Fares p t s (told_once a) (stepped a e).after
      go (Err x) e g = g
      go (Ok r) e g = g
  calls_fares true (Run n) s u f = runs_fares n 0 Plain s f

  pub call_fares : (c : Call) (s : State) → Fine p t s → Fares p t s (reports_of p unmarked s c) (call_of p unmarked s c).after
  call_fares c s f = calls_fares (under_way s.phase) c s refl f

  pub trace_fares : (cs : List Call) (s : State) → Fine p t s → Fares p t s (trace p unmarked s cs).reports (trace p unmarked s cs).end
  trace_fares [] s f = stays s f
  trace_fares (c ∷ cs) s f =
      let a = call_fares c s f in
      then s (call_of p unmarked s c).after (trace p unmarked (call_of p unmarked s c).after cs).end (reports_of p unmarked s c) (trace p unmarked (call_of p unmarked s c).after cs).reports a
      (trace_fares cs (call_of p unmarked s c).after a.fine)

  empty_top : (n x : ℕ) → ◌≡◌ {A = Option Value} (get_or (replicate n None) x None) None
  empty_top zero x = refl
  empty_top (suc n) zero = refl
  empty_top (suc n) (suc x) = empty_top n x

  pub opened_fine : (m : Meaning Value) → Fine p t (opened m)
  opened_fine m = record { held = record { bound = tt; topped = λ x v e. absurd (none_some (sym (empty_top 32 x) ∙ e)) }; phased = record { frames = refl; bindings = refl } }
