-- A run call is as many steps; a variable reads its newest binding; a scope takes its binding with it.
use Rattle.std.proofs.Common.{◌≡◌, ℕ, zero, suc, ◌+◌, ◌≤◌, Bool, true, false, cond, eqb, ltb, ◌⊎◌, List, [], ◌∷◌, length, get_or, replicate, Some, None, Ok, Err, Option, Result, sym, refl, ap, ◌∙◌, subst, inl, inr, arith}
use Rattle.std.proofs.lemmas.Bool.{cond-false, le-ltb, ne_eqb}
use Rattle.faults.specs.declared.fault.Fault.{Fault}
use Rattle.terms.specs.declared.term.Definition.{Definition}
use Rattle.terms.specs.declared.term.Definition.TheVariants.{Input, Defvar, Defun}
use Rattle.terms.specs.Script.{Script, last}
use Rattle.stores.specs.declared.binding.Binding.{Binding}
use Rattle.stores.specs.Meaning.{Meaning, unbound, unbind_of, seen, outermost, or_else, look_of, assigned, put_of}
use Rattle.stores.specs.Meaning as bindings
use Rattle.stores.specs.Laws.{Free, birthplace_in}
use Rattle.stores.proofs.Bindings.{newest_past}
use Rattle.stores.proofs.Laws.{lawful, look_low}
use Rattle.owners.specs.Owners.{owner}
use Rattle.values.specs.declared.value.Value.{Value}
use Rattle.values.specs.declared.frame.Frame.{Frame}
use Rattle.values.specs.declared.frame.Frame.TheVariants.{Scope}
use Rattle.values.specs.declared.call.Report.{Report}
use Rattle.values.specs.declared.call.Report.TheVariants.{Plain, Assigned, Stopped}
use Rattle.values.specs.declared.call.Call.{Call}
use Rattle.values.specs.declared.call.Call.TheVariants.{Step, Run}
use Rattle.values.specs.declared.call.Answer.TheVariants.{Stepped, Ran}
use Rattle.values.specs.declared.turn.Next.{Next}
use Rattle.values.specs.declared.turn.Next.TheVariants.{Evaluate, Return}
use Rattle.values.specs.declared.turn.Turn.{Turn}
use Rattle.machine.specs.Machine.{Outcome, Memory, with_frames, with_store, goes, stops, born_at, kept_at, keep_at, reads, put_done, puts, evaluates, takes_first, unbind_done, newest, rest, returns, turns, Phase, idle, ready, defining, running, State, refuses, in_definition, in_entry, steps_in, step_of}
use Rattle.machine.specs.Calls.{under_way, answers, stepped, continues, runs, calls_in, tells, told, told_once, told_in, before, trace}
use Rattle.machine.specs.Open.{opened}
use Rattle.machine.specs.Laws.{birthplaces, in_store, next_in, ScopeLeft, KeptLeft, ScopesClose, ReadsNewest, AssignsNewest, latest, as_steps, FirstDeclined, Counted, RunOfSteps, RunsAreSteps}
use Rattle.machine.proofs.Variables.{none_some}
use Rattle.machine.proofs.Rows.{step_fares, trace_sane, opened_sane}

-- ---- a term is under way
some_inj : {A : Type 0} {a b : A} → Some a ≡ Some b → a ≡ b
some_inj e = cc

module _ (p : Script) (marked : ℕ → Bool) (s : State) (n : Next) where
  record Went (ph : Phase) (r : Report) (x : Next) (k : Memory) : Type 0 where
    pub answer : (steps_in p marked ph s).answer ≡ Ok r
    pub memory : (steps_in p marked ph s).after.memory ≡ k
    pub next : next_in p (steps_in p marked ph s).after.phase ≡ Some x

  went_defining : (y : ℕ) (ds : List Definition) (m : Next) → Some m ≡ Some n → (r : Report) (x : Next) (k : Memory) → turns p marked n s.memory ≡ goes r x k → Went (defining y ds m) r x k
  went_defining y ds m e r x k q =
      let o : turns p marked m s.memory ≡ goes r x k = ap (λ i. turns p marked i s.memory) (some_inj e) ∙ q in
      let f : Outcome Memory Turn → Outcome State Report = λ u. in_definition y ds s u.answer u.after in
      record { answer = ap (λ u. (f u).answer) o; memory = ap (λ u. (f u).after.memory) o; next = ap (λ u. next_in p (f u).after.phase) o }

  went_running : (m : Next) → Some m ≡ Some n → (r : Report) (x : Next) (k : Memory) → turns p marked n s.memory ≡ goes r x k → Went (running m) r x k
  went_running m e r x k q =
      let o : turns p marked m s.memory ≡ goes r x k = ap (λ i. turns p marked i s.memory) (some_inj e) ∙ q in
      let f : Outcome Memory Turn → Outcome State Report = λ u. in_entry s u.answer u.after in
      record { answer = ap (λ u. (f u).answer) o; memory = ap (λ u. (f u).after.memory) o; next = ap (λ u. next_in p (f u).after.phase) o }

  went : (ph : Phase) → next_in p ph ≡ Some n → (r : Report) (x : Next) (k : Memory) → turns p marked n s.memory ≡ goes r x k → Went ph r x k
  went idle e r x k q = absurd (none_some e)
  went (ready []) e r x k q = let w = went_running (Evaluate (last p)) e r x k q in record { answer = w.answer; memory = w.memory; next = w.next }
  went (ready (Input y ∷ ds)) e r x k q = absurd (none_some e)
  went (ready (Defvar y i ∷ ds)) e r x k q = let w = went_defining y ds (Evaluate i) e r x k q in record { answer = w.answer; memory = w.memory; next = w.next }
  went (ready (Defun y z i ∷ ds)) e r x k q = absurd (none_some e)
  went (defining y ds m) e r x k q = went_defining y ds m e r x k q
  went (running m) e r x k q = went_running m e r x k q

  stopped : (ph : Phase) → next_in p ph ≡ Some n → (f : Fault) (k : Memory) → turns p marked n s.memory ≡ stops f k → (steps_in p marked ph s).answer ≡ Ok (Stopped f)
  stopped idle e f k q = absurd (none_some e)
  stopped (ready []) e f k q = ap (λ u. (in_entry s u.answer u.after).answer) (ap (λ i. turns p marked i s.memory) (some_inj e) ∙ q)
  stopped (ready (Input y ∷ ds)) e f k q = absurd (none_some e)
  stopped (ready (Defvar y i ∷ ds)) e f k q = ap (λ u. (in_definition y ds s u.answer u.after).answer) (ap (λ i. turns p marked i s.memory) (some_inj e) ∙ q)
  stopped (ready (Defun y z i ∷ ds)) e f k q = absurd (none_some e)
  stopped (defining y ds m) e f k q = ap (λ u. (in_definition y ds s u.answer u.after).answer) (ap (λ i. turns p marked i s.memory) (some_inj e) ∙ q)
  stopped (running m) e f k q = ap (λ u. (in_entry s u.answer u.after).answer) (ap (λ i. turns p marked i s.memory) (some_inj e) ∙ q)

-- ---- reads
free_newest : (x : ℕ) (bs : List (Binding Value)) → Free x bs → bindings.newest x bs ≡ None
free_newest x [] h = refl
free_newest x (b ∷ bs) h = newest_past x b bs h.0 ∙ free_newest x bs h.1

pub reads_newest : ReadsNewest
reads_newest p marked s l x ev t low un = record {
  newest = λ front rest b h. (went p marked s (Evaluate l) s.phase ev _ _ _ (turn _ ((lawful Value).look_newest s.memory.store x front rest b low h))).answer;
  outermost = λ v h e. (went p marked s (Evaluate l) s.phase ev _ _ _ (turn (Some (v, 0)) (look h (Some v) e))).answer;
  void = λ h e. stopped p marked s (Evaluate l) s.phase ev _ _ (turn None (look h None e));
}
  where
    turn : (o : Option (Value × ℕ)) → look_of s.memory.store x ≡ Ok o → turns p marked (Evaluate l) s.memory ≡ reads l s.memory (Ok o)
    turn o e =
        ap (λ u. evaluates p marked l u s.memory) t
        ∙ ap (λ d. reads l s.memory (cond d (Ok (born_at (owner p l) (kept_at p (owner p l) s.memory.frames))) (look_of s.memory.store x))) un
        ∙ ap (reads l s.memory) e

    look : Free x s.memory.store.bindings → (o : Option Value) → get_or s.memory.store.top x None ≡ o → look_of s.memory.store x ≡ Ok (outermost o)
    look h o e =
        look_low s.memory.store x low
        ∙ ap (λ u. Ok (or_else u (outermost (get_or s.memory.store.top x None)))) (free_newest x s.memory.store.bindings h)
        ∙ ap (λ u. Ok (outermost u)) e

-- ---- assignments
put_ok : (m : Meaning Value) (x : ℕ) (v : Value) → x ≤ 31 → put_of m x v ≡ (Ok tt, assigned m x v)
put_ok m x v low = cond-false (ltb 31 x) _ _ (le-ltb 31 x low)

pub assigns_newest : AssignsNewest
assigns_newest p marked s l x b v fs n f t low un = record {
  newest = λ front rest β h. done (Some (β.thing, β.birthplace)) ((lawful Value).look_newest store x front rest β low h) _ ((lawful Value).put_replaces store (assigned store x v) x v front rest β h (sym (put_ok store x v low)));
  outermost = λ h.
      let o = bindings.outermost (get_or store.top x None) in
      let d = done o (look h) _ ((lawful Value).put_tops store (assigned store x v) x v h (sym (put_ok store x v low))) in
      (d.0 ∙ ap (λ k. Ok (Assigned l k v)) (outside (get_or store.top x None)), d.1);
}
  where
    store : Meaning Value
    store = s.memory.store

    outside : (o : Option Value) → birthplace_in (bindings.outermost o) ≡ 0
    outside None = refl
    outside (Some w) = refl

    look : Free x store.bindings → look_of store x ≡ Ok (bindings.outermost (get_or store.top x None))
    look h = look_low store x low ∙ ap (λ u. Ok (or_else u (bindings.outermost (get_or store.top x None)))) (free_newest x store.bindings h)

    turn : (o : Option (Value × ℕ)) → look_of store x ≡ Ok o → turns p marked (Return v) s.memory ≡ goes (Assigned l (birthplace_in o) v) (Return v) (with_frames fs (with_store (assigned store x v) s.memory))
    turn o e =
        ap (λ u. returns p marked v (newest u) (rest u) s.memory) f
        ∙ ap (λ u. takes_first p marked l v u fs s.memory) t
        ∙ ap (λ d. cond d (goes (Assigned l (owner p l) v) (Return v) (with_frames (keep_at p (owner p l) v fs) s.memory)) (puts l x v fs s.memory (look_of store x))) un
        ∙ ap (puts l x v fs s.memory) e
        ∙ ap (λ q. put_done l (birthplace_in o) v fs s.memory q.0 q.1) (put_ok store x v low)

    done : (o : Option (Value × ℕ)) → look_of store x ≡ Ok o → (after : Meaning Value) → assigned store x v ≡ after
        → ((step_of p marked s).answer ≡ Ok (Assigned l (birthplace_in o) v)) × ((step_of p marked s).after.memory.store ≡ after)
    done o e after is = let w = went p marked s (Return v) s.phase n _ _ _ (turn o e) in (w.answer, ap (λ u. u.store) w.memory ∙ is)

-- ---- scopes
module _ (p : Script) (marked : ℕ → Bool) (s : State) (v : Value) (l b : ℕ) (fs : List Frame) where
  left_at : (bs : List (Binding Value)) → s.memory.store.bindings ≡ bs → birthplaces bs ≡ b ∷ in_store fs → next_in p s.phase ≡ Some (Return v)
      → s.memory.frames ≡ Scope l b None ∷ fs → ScopeLeft p marked s v b fs
  left_at [] e q n f = absurd (let z : ◌≡◌ {A = ℕ} 0 1 = cc in omega arith)
  left_at (β ∷ bs) e q n f =
      let m = s.memory.store in
      let k : Memory = with_frames fs (with_store (record { bindings = bs; top = m.top; limit = m.limit }) s.memory) in
      let turn : turns p marked (Return v) s.memory ≡ goes Plain (Return v) k =
      ap (λ u. returns p marked v (newest u) (rest u) s.memory) f
      ∙ ap (λ u. unbind_done v fs s.memory (unbound u m.top m.limit).0 (unbound u m.top m.limit).1) e in
      let w = went p marked s (Return v) s.phase n Plain (Return v) k turn in
      record {
        binding = β;
        others = bs;
        before = e;
        own = let z : β.birthplace ∷ birthplaces bs ≡ b ∷ in_store fs = q in cc;
        told = w.answer;
        after = ap (λ u. u.store.bindings) w.memory;
        frames = ap (λ u. u.frames) w.memory;
        returned = w.next;
      }

-- a frame that keeps its binding
kept_at_end : (p : Script) (marked : ℕ → Bool) (s : State) (v : Value) (l b : ℕ) (w : Value) (fs : List Frame) → next_in p s.phase ≡ Some (Return v)
    → s.memory.frames ≡ Scope l b (Some w) ∷ fs → KeptLeft p marked s v fs
kept_at_end p marked s v l b w fs n f =
    let turn : turns p marked (Return v) s.memory ≡ goes Plain (Return v) (with_frames fs s.memory) = ap (λ u. returns p marked v (newest u) (rest u) s.memory) f in
    let e = went p marked s (Return v) s.phase n Plain (Return v) (with_frames fs s.memory) turn in
    record { told = e.answer; store = ap (λ u. u.store) e.memory; frames = ap (λ u. u.frames) e.memory; returned = e.next }

pub scopes_close : ScopesClose
scopes_close p marked m cs v n =
    let s = (trace p marked (opened m) cs).end in
    let h = trace_sane p marked m.limit cs (opened m) (opened_sane p marked m) in
    record {
      bound = λ l b fs f. left_at p marked s v l b fs s.memory.store.bindings refl (h.room.bindings ∙ ap in_store f) n f;
      kept = λ l b w fs f. kept_at_end p marked s v l b w fs n f;
    }

-- ---- runs
module _ (p : Script) (marked : ℕ → Bool) where
  -- what is left to do gives rs and ends in `end`
  record Rest (n k : ℕ) (r : Report) (s : State) (rs : List Report) (end : State) : Type 0 where
    pub steps : trace p marked s (replicate (length rs) Step) ≡ record { answers = as_steps rs; reports = rs; end = end }
    pub few : length rs ≤ n
    pub whole : (length rs ≡ n) ⊎ ((under_way end.phase ≡ false) ⊎ ((e : Fault) × ((step_of p marked end).answer ≡ Err e)))

  one_step : (s t : State) (r : Report) (cs : List Call) → under_way s.phase ≡ true → (step_of p marked s).answer ≡ Ok r → (step_of p marked s).after ≡ t
      → trace p marked s (Step ∷ cs) ≡ before (Ok (Stepped r)) (r ∷ []) (trace p marked t cs)
  one_step s t r cs u a e =
      ap (λ d. before (calls_in p marked d Step s).answer (told_in p marked d Step s) (trace p marked (calls_in p marked d Step s).after cs)) u
      ∙ ap (λ q. before (stepped q (step_of p marked s).after).answer (told_once q) (trace p marked (stepped q (step_of p marked s).after).after cs)) a
      ∙ ap (λ z. before (Ok (Stepped r)) (r ∷ []) (trace p marked z cs)) e

  ended : (k : ℕ) (r : Report) (e : Fault) (t : State) → (cond (eqb k 0) (refuses e t) (answers (Ran k r) t)).after ≡ t
  ended k r e t = elim (eqb k 0) as (λ d. (cond d (refuses e t) (answers (Ran k r) t)).after ≡ t) [ true ↦ refl | false ↦ refl ]

  first_step : (n k : ℕ) (r : Report) (s : State) → under_way s.phase ≡ true → (a : Result Report Fault) (t : State) → (step_of p marked s).answer ≡ a → (step_of p marked s).after ≡ t
      → ((q : Report) → under_way t.phase ≡ true → Rest n (suc k) q t (told p marked n t) (runs p marked n (suc k) q t).after)
      → Rest (suc n) k r s (tells (told p marked n) a t) (continues (runs p marked n) k r a t).after
  first_step n k r s u (Err e) t a b ih =
      let same : t ≡ s = sym b ∙ (step_fares p marked 0 s).unchanged e a in
      let end : (continues (runs p marked n) k r (Err e) t).after ≡ s = ended k r e t ∙ same in
      record {
        steps = ap (λ z. record { answers = []; reports = []; end = z }) (sym end);
        few = omega arith;
        whole = inr (inr (e, ap (λ z. (step_of p marked z).answer) end ∙ a));
      }
  first_step n k r s u (Ok q) t a b ih = go (under_way t.phase) refl
    where
      go : (d : Bool) → under_way t.phase ≡ d → Rest (suc n) k r s (q ∷ cond d (told p marked n t) []) (cond d (runs p marked n (suc k) q t) (answers (Ran (suc k) q) t)).after
      go true v = let c = ih q v in record {
        steps = one_step s t q _ u a b ∙ ap (before (Ok (Stepped q)) (q ∷ [])) c.steps;
        few = omega (arith, c.few);
        whole = elim c.whole [ inl z ↦ inl (ap suc z) | inr z ↦ inr z ];
      }
      go false v = record { steps = one_step s t q [] u a b; few = omega arith; whole = inr (inl v) }

  rest_of : (n k : ℕ) (r : Report) (s : State) → under_way s.phase ≡ true → Rest n k r s (told p marked n s) (runs p marked n k r s).after
  rest_of zero k r s u = record { steps = refl; few = omega arith; whole = inl refl }
  rest_of (suc n) k r s u = first_step n k r s u (step_of p marked s).answer (step_of p marked s).after refl refl (λ q v. rest_of n (suc k) q (step_of p marked s).after v)

  -- the count and the last report
  later : (n k : ℕ) (r : Report) (s : State) → (runs p marked n (suc k) r s).answer ≡ Ok (Ran (suc k + length (told p marked n s)) (latest r (told p marked n s)))
  later zero k r s = let z : suc k ≡ suc k + 0 = omega arith in ap (λ i. Ok (Ran i r)) z
  later (suc n) k r s = go (λ q t. later n (suc k) q t) (step_of p marked s).answer (step_of p marked s).after
    where
      go : ((q : Report) (t : State) → (runs p marked n (suc (suc k)) q t).answer ≡ Ok (Ran (suc (suc k) + length (told p marked n t)) (latest q (told p marked n t))))
          → (a : Result Report Fault) (t : State) → (continues (runs p marked n) (suc k) r a t).answer ≡ Ok (Ran (suc k + length (tells (told p marked n) a t)) (latest r (tells (told p marked n) a t)))
      go ih (Err e) t =
          let z : suc k ≡ suc k + 0 = omega arith in
          ap (λ d. (cond d (refuses e t) (answers (Ran (suc k) r) t)).answer) (ne_eqb (suc k) 0 (λ i. omega arith)) ∙ ap (λ i. Ok (Ran i r)) z
      go ih (Ok q) t = elim (under_way t.phase) as (λ d. (cond d (runs p marked n (suc (suc k)) q t) (answers (Ran (suc (suc k)) q) t)).answer
          ≡ Ok (Ran (suc k + length (q ∷ cond d (told p marked n t) [])) (latest q (cond d (told p marked n t) [])))) [
            | true ↦ (let z : suc (suc k) + length (told p marked n t) ≡ suc k + suc (length (told p marked n t)) = omega arith in ih q t ∙ ap (λ i. Ok (Ran i (latest q (told p marked n t)))) z)
            | false ↦ (let z : suc (suc k) ≡ suc k + 1 = omega arith in ap (λ i. Ok (Ran i q)) z)
          ]

  counted : (n : ℕ) (s : State) → Counted n (told p marked n s) (runs p marked n 0 Plain s) ⊎ FirstDeclined p marked s (told p marked n s) (runs p marked n 0 Plain s)
  counted zero s = inl (record { told = refl; some = inl refl })
  counted (suc n) s = go (step_of p marked s).answer refl (step_of p marked s).after refl
    where
      go : (a : Result Report Fault) → (step_of p marked s).answer ≡ a → (t : State) → (step_of p marked s).after ≡ t
          → Counted (suc n) (told p marked (suc n) s) (runs p marked (suc n) 0 Plain s) ⊎ FirstDeclined p marked s (told p marked (suc n) s) (runs p marked (suc n) 0 Plain s)
      go (Err e) a t b = inr (record {
        reason = e;
        step = a;
        none = ap (λ z. tells (told p marked n) z (step_of p marked s).after) a;
        refused = ap (λ z. (continues (runs p marked n) 0 Plain z (step_of p marked s).after).answer) a;
      })
      go (Ok q) a t b = inl (record {
        some = inr (let z : 1 ≤ length (tells (told p marked n) (Ok q) (step_of p marked s).after) = omega arith in rw a z);
        told = ap (λ z. (continues (runs p marked n) 0 Plain z (step_of p marked s).after).answer) a
            ∙ ap (λ z. (continues (runs p marked n) 0 Plain (Ok q) z).answer) b
            ∙ at (under_way t.phase)
            ∙ sym (ap (λ z. Ok (Ran (length (tells (told p marked n) z (step_of p marked s).after)) (latest Plain (tells (told p marked n) z (step_of p marked s).after)))) a
            ∙ ap (λ z. Ok (Ran (length (tells (told p marked n) (Ok q) z)) (latest Plain (tells (told p marked n) (Ok q) z)))) b);
      })
        where
          at : (d : Bool) → (cond d (runs p marked n 1 q t) (answers (Ran 1 q) t)).answer ≡ Ok (Ran (length (q ∷ cond d (told p marked n t) [])) (latest q (cond d (told p marked n t) [])))
          at true = let z : 1 + length (told p marked n t) ≡ suc (length (told p marked n t)) = omega arith in later n 0 q t ∙ ap (λ i. Ok (Ran i (latest q (told p marked n t)))) z
          at false = refl

pub runs_are_steps : RunsAreSteps
runs_are_steps p marked s n u =
    let c = rest_of p marked n 0 Plain s u in
    let here : RunOfSteps p marked s n (told p marked n s) (runs p marked n 0 Plain s) =
    record { steps = c.steps; answer = counted p marked n s; few = c.few; whole = c.whole } in
    subst (λ d. RunOfSteps p marked s n (told_in p marked d (Run n) s) (calls_in p marked d (Run n) s)) (sym u) here
