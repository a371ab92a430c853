-- Steps and calls: what a turn keeps, a row keeps, over every list of calls.
use Rattle.std.proofs.Common.{◌≡◌, ℕ, zero, suc, ◌<◌, ◌≤◌, Bool, true, false, cond, eqb, ltb, List, [], ◌∷◌, Ok, Err, Result, sym, refl, ap, ◌∙◌, subst, arith}
use Rattle.std.proofs.lemmas.Bool.{ltb-true, ne_eqb, true≢false, false≢true}
use Rattle.faults.specs.declared.fault.Fault.{Fault}
use Rattle.faults.specs.declared.fault.Fault.TheVariants.{NoSuchVariable, RowUnderWay, NoRow, NotAnInput}
use Rattle.terms.specs.declared.term.Definition.{Definition}
use Rattle.terms.specs.declared.term.Definition.TheVariants.{Input, Defvar, Defun}
use Rattle.terms.specs.Script.{Script, last, is_input}
use Rattle.terms.specs.WellFormed.{WellFormed}
use Rattle.stores.specs.Meaning.{Meaning, assigned, put_of}
use Rattle.values.specs.declared.value.Value.{Value}
use Rattle.values.specs.declared.value.Value.TheVariants as value
use Rattle.values.specs.declared.call.Report.{Report}
use Rattle.values.specs.declared.call.Report.TheVariants.{Plain, Ended, Stopped}
use Rattle.values.specs.declared.call.Call.{Call}
use Rattle.values.specs.declared.call.Call.TheVariants.{Feed, Start, Step, Run}
use Rattle.values.specs.declared.call.Answer.{Answer}
use Rattle.values.specs.declared.call.Answer.TheVariants.{Done, Stepped, Ran}
use Rattle.values.specs.declared.turn.Next.TheVariants.{Evaluate}
use Rattle.values.specs.declared.turn.Turn.{Turn}
use Rattle.values.specs.declared.turn.Turn.TheVariants.{Goes, Stops, Gives}
use Rattle.machine.specs.Machine.{Outcome, Memory, Phase, idle, ready, defining, running, State, over, reports, refuses, with_memory, define_done, defines, in_definition, in_entry, begins, steps_in, step_of}
use Rattle.machine.specs.Calls.{under_way, answers, fed, feeds, starts, stepped, continues, runs, calls_in, call_of, trace}
use Rattle.machine.specs.Open.{opened}
use Rattle.machine.specs.Laws.{RefusedSame, AlwaysOrderly, NeverMore, OfHost, answered, during_row, without_row, no_input, AllOfHost, NeverDeclined}
use Rattle.machine.proofs.Variables.{AllLow, definitions_low, input_below}
use Rattle.machine.proofs.Steady.{ok_err, births_replaced, no_more, Room, Steady, turns_steady}

-- the variables that the definitions left put
abbrev pub Lowly : Phase → Type 0
Lowly idle = Unit {0}
Lowly (ready ds) = AllLow 32 ds
Lowly (defining x ds n) = (x < 32) × AllLow 32 ds
Lowly (running n) = Unit {0}

err_same : {A : Type 0} {a : A} {e : Fault} → Err e ≡ Ok a → ⊥
err_same q = ok_err (sym q)

module _ (p : Script) (marked : ℕ → Bool) (n : ℕ) where
  pub record Sane (s : State) : Type 0 where
    pub room : Room p marked n s.memory
    pub between : under_way s.phase ≡ false → s.memory.frames ≡ []
    pub lows : WellFormed p → Lowly s.phase

  pub record Fares (s : State) (o : Outcome State Report) : Type 0 where
    pub sane : Sane s → Sane o.after
    pub unchanged : (e : Fault) → o.answer ≡ Err e → o.after ≡ s
    pub taken : WellFormed p → 255 ≤ n → Sane s → under_way s.phase ≡ true → (e : Fault) → o.answer ≡ Err e → ⊥

  over_sane : (d : Bool) (k : Memory) → Room p marked n k → Sane (over d k)
  over_sane d k r = record { room = record { bindings = refl; kept = tt; waits = tt; depth = omega arith; pairs = r.pairs; limit = r.limit }; between = λ e. refl; lows = λ w. tt }

  -- a definition puts v, the memory being k
  defines_fares : (x : ℕ) (v : Value) (ds : List Definition) (k : Memory) (s : State) → k ≡ s.memory → (WellFormed p → Sane s → (x < 32) × AllLow 32 ds) → Fares s (defines x v ds k s)
  defines_fares x v ds k s same low = go (ltb 31 x) refl
    where
      go : (c : Bool) → ltb 31 x ≡ c → let q : Result (Unit {0}) Fault × Meaning Value = cond c (Err NoSuchVariable, k.store) (Ok tt, assigned k.store x v) in Fares s (define_done ds k s q.0 q.1)
      go true e = record {
        sane = λ h. subst (λ m. Sane (with_memory m s)) (sym same) h;
        unchanged = λ f q. ap (λ m. with_memory m s) same;
        taken = λ w l h u f q. let i = (low w h).0 in let j = ltb-true 31 x e in omega arith;
      }
      go false e = record {
        sane = λ h.
            let r : Room p marked n k = subst (Room p marked n) (sym same) h.room in
            record {
              room = record { bindings = births_replaced x v k.store.bindings ∙ r.bindings; kept = r.kept; waits = r.waits; depth = r.depth; pairs = r.pairs; limit = r.limit };
              between = λ q. absurd (true≢false q);
              lows = λ w. (low w h).1;
            };
        unchanged = λ f q. absurd (ok_err q);
        taken = λ w l h u f q. ok_err q;
      }

  goes_on : (s : State) (r : Report) (t : State) → (Sane s → Sane t) → Fares s (reports r t)
  goes_on s r t f = record { sane = f; unchanged = λ e q. absurd (ok_err q); taken = λ w l h u e q. ok_err q }

  in_definition_fares : (x : ℕ) (ds : List Definition) (s : State) (a : Result Turn Fault) (k : Memory) → Steady p marked n s.memory (record { answer = a; after = k })
      → (WellFormed p → Sane s → (x < 32) × AllLow 32 ds) → Fares s (in_definition x ds s a k)
  in_definition_fares x ds s (Err e) k t low = record {
    sane = λ h. subst (λ m. Sane (with_memory m s)) (sym (t.unchanged tt)) h;
    unchanged = λ f q. ap (λ m. with_memory m s) (t.unchanged tt);
    taken = λ w l h u f q. t.taken w l h.room e refl;
  }
  in_definition_fares x ds s (Ok (Goes r m)) k t low = goes_on s r _ (λ h. record { room = t.room h.room; between = λ q. absurd (true≢false q); lows = λ w. low w h })
  in_definition_fares x ds s (Ok (Stops f)) k t low = goes_on s (Stopped f) _ (λ h. over_sane s.defined k (t.room h.room))
  in_definition_fares x ds s (Ok (Gives v)) k t low = defines_fares x v ds k s (t.unchanged tt) low

  in_entry_fares : (s : State) (a : Result Turn Fault) (k : Memory) → Steady p marked n s.memory (record { answer = a; after = k }) → Fares s (in_entry s a k)
  in_entry_fares s (Err e) k t = record {
    sane = λ h. subst (λ m. Sane (with_memory m s)) (sym (t.unchanged tt)) h;
    unchanged = λ f q. ap (λ m. with_memory m s) (t.unchanged tt);
    taken = λ w l h u f q. t.taken w l h.room e refl;
  }
  in_entry_fares s (Ok (Goes r m)) k t = goes_on s r _ (λ h. record { room = t.room h.room; between = λ q. absurd (true≢false q); lows = λ w. tt })
  in_entry_fares s (Ok (Stops f)) k t = goes_on s (Stopped f) _ (λ h. over_sane s.defined k (t.room h.room))
  in_entry_fares s (Ok (Gives v)) k t = goes_on s (Ended v) _ (λ h. over_sane s.defined k (t.room h.room))

  begins_fares : (ds : List Definition) (s : State) → (WellFormed p → Sane s → AllLow 32 ds) → Fares s (begins p marked ds s)
  begins_fares [] s low = in_entry_fares s _ _ (turns_steady p marked n (Evaluate (last p)) s.memory)
  begins_fares (Input x ∷ ds) s low = goes_on s Plain _ (λ h. record { room = h.room; between = λ q. absurd (true≢false q); lows = λ w. (low w h).1 })
  begins_fares (Defvar x r ∷ ds) s low = in_definition_fares x ds s _ _ (turns_steady p marked n (Evaluate r) s.memory) low
  begins_fares (Defun x y r ∷ ds) s low = defines_fares x (value.Function r) ds s.memory s refl (λ w h. let q = low w h in (q.0.0, q.1))

  steps_fares : (ph : Phase) (s : State) → s.phase ≡ ph → Fares s (steps_in p marked ph s)
  steps_fares idle s e = record { sane = λ h. h; unchanged = λ f q. refl; taken = λ w l h u f q. false≢true (sym (ap under_way e) ∙ u) }
  steps_fares (ready ds) s e = begins_fares ds s (λ w h. subst Lowly e (h.lows w))
  steps_fares (defining x ds m) s e = in_definition_fares x ds s _ _ (turns_steady p marked n m s.memory) (λ w h. subst Lowly e (h.lows w))
  steps_fares (running m) s e = in_entry_fares s _ _ (turns_steady p marked n m s.memory)

  pub step_fares : (s : State) → Fares s (step_of p marked s)
  step_fares s = steps_fares s.phase s refl

  -- ---- calls
  pub record Called (s : State) (o : Outcome State Answer) : Type 0 where
    pub sane : Sane s → Sane o.after
    pub unchanged : (e : Fault) → o.answer ≡ Err e → o.after ≡ s
    pub host : WellFormed p → 255 ≤ n → Sane s → OfHost o.answer

  refused : (s : State) (f : Fault) → OfHost (Err f) → Called s (refuses f s)
  refused s f h = record { sane = λ k. k; unchanged = λ e q. refl; host = λ w l k. h }

  taken_up : (s : State) (a : Answer) (t : State) → (Sane s → Sane t) → Called s (answers a t)
  taken_up s a t f = record { sane = f; unchanged = λ e q. absurd (ok_err q); host = λ w l k. answered a }

  feeds_called : (x m : ℕ) (s : State) → Called s (feeds p x m s)
  feeds_called x m s = go (is_input p x) refl
    where
      put : is_input p x ≡ true → (c : Bool) → ltb 31 x ≡ c
          → let q : Result (Unit {0}) Fault × Meaning Value = cond c (Err NoSuchVariable, s.memory.store) (Ok tt, assigned s.memory.store x (value.Number m)) in Called s (fed s q.0 q.1)
      put i true e = record { sane = λ k. k; unchanged = λ f q. refl; host = λ w l k. absurd (let a = input_below p w x i in let b = ltb-true 31 x e in omega arith) }
      put i false e = taken_up s Done _ (λ k. let r = k.room in record {
        room = record { bindings = births_replaced x (value.Number m) s.memory.store.bindings ∙ r.bindings; kept = r.kept; waits = r.waits; depth = r.depth; pairs = r.pairs; limit = r.limit };
        between = k.between;
        lows = k.lows;
      })

      go : (d : Bool) → is_input p x ≡ d → Called s (cond d (fed s (put_of s.memory.store x (value.Number m)).0 (put_of s.memory.store x (value.Number m)).1) (refuses NotAnInput s))
      go true i = put i (ltb 31 x) refl
      go false i = refused s NotAnInput no_input

  starts_called : (s : State) → Called s (starts p s)
  starts_called s = taken_up s Done _ (λ k. record { room = k.room; between = λ q. absurd (true≢false q); lows = λ w. todo w s.defined })
    where
      todo : WellFormed p → (d : Bool) → AllLow 32 (cond d [] p.definitions)
      todo w true = tt
      todo w false = definitions_low p w

  stepped_called : (s : State) (a : Result Report Fault) (t : State) → under_way s.phase ≡ true → Fares s (record { answer = a; after = t }) → Called s (stepped a t)
  stepped_called s (Err e) t u f = record { sane = f.sane; unchanged = λ g q. f.unchanged e refl; host = λ w l k. absurd (f.taken w l k u e refl) }
  stepped_called s (Ok r) t u f = taken_up s (Stepped r) t f.sane

  -- after a first step a run is never refused
  later : (m k : ℕ) (r : Report) (s : State) (e : Fault) → (runs p marked m (suc k) r s).answer ≡ Err e → ⊥
  later zero k r s e q = ok_err q
  later (suc m) k r s e q = go (λ o t. later m (suc k) o t e) (step_of p marked s).answer (step_of p marked s).after q
    where
      go : ((o : Report) (t : State) → (runs p marked m (suc (suc k)) o t).answer ≡ Err e → ⊥) → (a : Result Report Fault) (t : State) → (continues (runs p marked m) (suc k) r a t).answer ≡ Err e → ⊥
      go ih (Err f) t i = ok_err (subst (λ d. (cond d (refuses f t) (answers (Ran (suc k) r) t)).answer ≡ Err e) (ne_eqb (suc k) 0 (λ z. omega arith)) i)
      go ih (Ok o) t i = elim (under_way t.phase) as (λ d. (cond d (runs p marked m (suc (suc k)) o t) (answers (Ran (suc (suc k)) o) t)).answer ≡ Err e → ⊥)
          [ true ↦ (λ j. ih o t j) | false ↦ (λ j. ok_err j) ] i

  runs_called : (m k : ℕ) (r : Report) (s : State) → under_way s.phase ≡ true → Called s (runs p marked m k r s)
  runs_called zero k r s u = taken_up s (Ran k r) s (λ h. h)
  runs_called (suc m) k r s u = go (λ o t. runs_called m (suc k) o t) (step_of p marked s).answer (step_of p marked s).after (step_fares s)
    where
      more : ((o : Report) (t : State) → under_way t.phase ≡ true → Called t (runs p marked m (suc k) o t)) → (o : Report) (t : State) → (Sane s → Sane t) → (d : Bool) → under_way t.phase ≡ d → Called s (cond d (runs p marked m (suc k) o t) (answers (Ran (suc k) o) t))
      more ih o t f true v = let c = ih o t v in
          record { sane = λ h. c.sane (f h); unchanged = λ e q. absurd (later m k o t e q); host = λ w l h. c.host w l (f h) }
      more ih o t f false v = taken_up s (Ran (suc k) o) t f

      go : ((o : Report) (t : State) → under_way t.phase ≡ true → Called t (runs p marked m (suc k) o t)) → (a : Result Report Fault) (t : State) → Fares s (record { answer = a; after = t }) → Called s (continues (runs p marked m) k r a t)
      go ih (Err e) t f = elim (eqb k 0) as (λ d. Called s (cond d (refuses e t) (answers (Ran k r) t))) [
        | true ↦ record { sane = f.sane; unchanged = λ g q. f.unchanged e refl; host = λ w l h. absurd (f.taken w l h u e refl) }
        | false ↦ taken_up s (Ran k r) t f.sane
      ]
      go ih (Ok o) t f = more ih o t f.sane (under_way t.phase) refl

  calls_called : (d : Bool) (c : Call) (s : State) → under_way s.phase ≡ d → Called s (calls_in p marked d c s)
  calls_called false (Feed x m) s u = feeds_called x m s
  calls_called false Start s u = starts_called s
  calls_called false Step s u = refused s NoRow without_row
  calls_called false (Run m) s u = refused s NoRow without_row
  calls_called true (Feed x m) s u = refused s RowUnderWay during_row
  calls_called true Start s u = refused s RowUnderWay during_row
  calls_called true Step s u = stepped_called s _ _ u (step_fares s)
  calls_called true (Run m) s u = runs_called m 0 Plain s u

  pub call_called : (s : State) (c : Call) → Called s (call_of p marked s c)
  call_called s c = calls_called (under_way s.phase) c s refl

  -- ---- lists of calls
  pub trace_sane : (cs : List Call) (s : State) → Sane s → Sane (trace p marked s cs).end
  trace_sane [] s h = h
  trace_sane (c ∷ cs) s h = trace_sane cs (call_of p marked s c).after ((call_called s c).sane h)

  pub trace_host : WellFormed p → 255 ≤ n → (cs : List Call) (s : State) → Sane s → AllOfHost (trace p marked s cs).answers
  trace_host w l [] s h = tt
  trace_host w l (c ∷ cs) s h = ((call_called s c).host w l h, trace_host w l cs (call_of p marked s c).after ((call_called s c).sane h))

pub opened_sane : (p : Script) (marked : ℕ → Bool) (m : Meaning Value) → Sane p marked m.limit (opened m)
opened_sane p marked m = record { room = record { bindings = refl; kept = tt; waits = tt; depth = omega arith; pairs = omega arith; limit = refl }; between = λ e. refl; lows = λ w. tt }

pub refused_same : RefusedSame
refused_same p marked s c e q = (call_called p marked 0 s c).unchanged e q

pub always_orderly : AlwaysOrderly
always_orderly p marked m cs =
    let h = trace_sane p marked m.limit cs (opened m) (opened_sane p marked m) in
    let r = h.room in
    record { bindings = r.bindings; kept = r.kept; waits = r.waits; frames = r.depth; pairs = r.pairs; limit = r.limit; between = h.between }

pub never_more : NeverMore
never_more p marked m cs =
    let h = trace_sane p marked m.limit cs (opened m) (opened_sane p marked m) in
    let s = (trace p marked (opened m) cs).end.memory in
    no_more p marked m.limit 255 s.frames s h.room

pub never_declined : NeverDeclined 255
never_declined p w marked m l cs = trace_host p marked m.limit w l cs (opened m) (opened_sane p marked m)
