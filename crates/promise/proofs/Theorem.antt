-- The promise.
use Rattle.std.proofs.Common.{◌≡◌, ℕ, ◌≤◌, Bool, true, false, cond, eqb, List, [], ◌∷◌, length, get_or, replicate, Some, sym, refl, ap, ◌∙◌, subst, inl, inr, arith}
use mathlib.Core.Path.{fun_ext}
use lib.ListN.{length-replicate, get_or-replicate}
use Rattle.std.proofs.lemmas.List.{get_or_past}
use Rattle.std.proofs.lemmas.Bool.{cases_lt, false≢true}
use Rattle.terms.specs.declared.term.Definition.TheVariants.{Input, Defvar, Defun}
use Rattle.terms.specs.Script.{Script, last, occurs}
use Rattle.terms.specs.WellFormed.{WellFormed}
use Rattle.stores.specs.declared.binding.Binding.{Binding}
use Rattle.stores.specs.Meaning.{Meaning}
use Rattle.owners.specs.Owners.{owner}
use Rattle.proposals.specs.Tables.{Tables}
use Rattle.values.specs.declared.value.Value.{Value}
use Rattle.values.specs.declared.frame.Frame.{Frame}
use Rattle.values.specs.declared.frame.Frame.TheVariants.{Awaiting, Holding, Scope}
use Rattle.values.specs.declared.call.Call.{Call}
use Rattle.values.specs.declared.turn.Next.{Next}
use Rattle.values.specs.declared.turn.Next.TheVariants.{Evaluate, Return}
use Rattle.machine.specs.Machine.{Phase, idle, ready, defining, running, State, kept_at}
use Rattle.machine.specs.Calls.{trace}
use Rattle.machine.specs.Open.{marked, opened}
use Rattle.machine.specs.Laws.{next_in, RightMark}
use Rattle.machine.proofs.Opening.{opens_right}
use Rattle.machine.proofs.Variables.{none_some}
use Rattle.machine.proofs.Rows.{opened_sane}
use Rattle.clauses.specs.Acceptance.{Accepted}
use Rattle.clauses.specs.Marks.{Marked, marks_of, mark_byte}
use Rattle.clauses.specs.Marks as rule
use Rattle.clauses.proofs.Verdicts.{check_accepts}
use Rattle.clauses.proofs.Marking.{marks_exact, marks_bytes}
use Rattle.promise.specs.Lies.{AllInside}
use Rattle.promise.specs.Promise.{no_marks, run_trace, NoneMarked, Opens, Promise, PassedPromise, Finds, AlwaysFinds}
use Rattle.promise.proofs.Spans.{Free, entry_free}
use Rattle.promise.proofs.Basics.{some_inj}
use Rattle.promise.proofs.Invariant.{unmarked, shape, Stack, Ready}
use Rattle.promise.proofs.Rows.{Phased, Fine, fresh, trace_fares, opened_fine}
use Rattle.promise.proofs.Veil.{mark_frames, left_over, Rightly}
use Rattle.promise.proofs.Equal.{owner_walk}
use Rattle.promise.proofs.Same.{veil_state, veil_trace, Good, trace_same}

-- ---- mark bytes
zeros : (n i : ℕ) → ◌≡◌ {A = ℕ} (get_or (replicate n 0) i 0) 0
zeros n i = elim (cases_lt i n) [
  | inl h ↦ get_or-replicate {A = ℕ} n i 0 0 h
  | inr h ↦ get_or_past (replicate n 0) i 0 (omega (arith, length-replicate {A = ℕ} n 0))
]

no_marks_zero : (b : ℕ) → get_or no_marks b 0 ≡ 0
unfolding no_marks
no_marks_zero b = zeros 256 b

no_marks_size : length no_marks ≡ 256
unfolding no_marks
no_marks_size = length-replicate {A = ℕ} 256 0

-- without marks nothing is marked
nothing_marked : marked no_marks ≡ unmarked
nothing_marked = fun_ext (λ b. ap (λ k. eqb k 1) (no_marks_zero b))

module _ (p : Script) (W : WellFormed p) (t : Tables) (A : Accepted p t) where
  -- a byte of the rule is right
  byte_right : (b : ℕ) → RightMark p b (get_or (marks_of p t) b 0)
  byte_right b = subst (RightMark p b) (sym ((marks_bytes p W t).bytes b)) (go (rule.marked p t b) refl)
    where
      go : (d : Bool) → rule.marked p t b ≡ d → RightMark p b (cond d 1 0)
      go true e = let M = (marks_exact p W t A.form b).0 e in inr (refl, record { variable = M.variable; binder = M.binder; uncaptured = M.uncaptured })
      go false e = inl refl

  pub rightly : Rightly p t (marked (marks_of p t))
  rightly b e = (marks_exact p W t A.form b).0 (go (rule.marked p t b) (sym (ap (λ k. eqb k 1) ((marks_bytes p W t).bytes b)) ∙ e))
    where
      go : (d : Bool) → eqb (cond d 1 0) 1 ≡ true → d ≡ true
      go true e = refl
      go false e = absurd (false≢true e)

  pub opens : (m n : Meaning Value) → 255 ≤ m.limit → 255 ≤ n.limit → Opens p t m n
  opens m n a b = record {
    plain = opens_right p W no_marks m no_marks_size (λ i h. inl (no_marks_zero i)) a;
    with_marks = opens_right p W (marks_of p t) n (marks_bytes p W t).size (λ i h. byte_right i) b;
  }

  opened_good : (m n : Meaning Value) (a : 255 ≤ m.limit) (b : 255 ≤ n.limit) → Good p W t A (marked (marks_of p t)) rightly m.limit n.limit a b (opened m)
  opened_good m n a b = record { fine = opened_fine p t A W m; sane = opened_sane p unmarked m }

  -- the trace with marks is that without, veiled
  pub veiled_trace : (m n : Meaning Value) → 255 ≤ m.limit → 255 ≤ n.limit → (cs : List Call)
      → run_trace p (marks_of p t) n cs ≡ veil_trace (marked (marks_of p t)) n.limit (trace p unmarked (opened m) cs)
  veiled_trace m n a b cs = trace_same p W t A (marked (marks_of p t)) rightly m.limit n.limit a b cs (opened m) (opened_good m n a b)

clean : (bytes : List ℕ) (bs : List (Binding Value)) → NoneMarked bytes (left_over (marked bytes) bs)
clean bytes [] = tt
clean bytes (b ∷ bs) = go (marked bytes b.birthplace) refl (clean bytes bs)
  where
    go : (d : Bool) → marked bytes b.birthplace ≡ d → NoneMarked bytes (left_over (marked bytes) bs) → NoneMarked bytes (cond d (left_over (marked bytes) bs) (b ∷ left_over (marked bytes) bs))
    go true e c = c
    go false e c = (e, c)

pub promise : Promise
promise p W t A m n a b = (
  opens p W t A m n a b,
  λ cs.
      let e = veiled_trace p W t A m n a b cs in
      let plain : run_trace p no_marks m cs ≡ trace p unmarked (opened m) cs = ap (λ f. trace p f (opened m) cs) nothing_marked in
      record {
        inside = subst (λ u. AllInside p t u.end.memory.pairs u.reports) (sym plain) (trace_fares p t A W cs (opened m) (opened_fine p t A W m)).inside;
        answers = ap (λ u. u.answers) e ∙ sym (ap (λ u. u.answers) plain);
        reports = ap (λ u. u.reports) e ∙ sym (ap (λ u. u.reports) plain);
        pairs = ap (λ u. u.end.memory.pairs) e ∙ sym (ap (λ u. u.end.memory.pairs) plain);
        top = ap (λ u. u.end.memory.store.top) e ∙ sym (ap (λ u. u.end.memory.store.top) plain);
        clean = subst (λ u. NoneMarked (marks_of p t) u.end.memory.store.bindings) (sym e) (clean (marks_of p t) (trace p unmarked (opened m) cs).end.memory.store.bindings);
      },
)

pub passed_promise : PassedPromise
passed_promise p W t e = promise p W t ((check_accepts p W t).0 e)

-- ---- the look-up of a marked owner
module _ (p : Script) (W : WellFormed p) (t : Tables) (A : Accepted p t) (n : Meaning Value) (many : 255 ≤ n.limit) where
  -- the root of what is under way
  record Under (s : State) (x : Next) : Type 0 where
    pub root : ℕ
    pub free : Free p root
    pub ready : Ready p t root x s.memory

  same_next : {x y : Next} → Some x ≡ Some y → x ≡ y
  same_next e = some_inj e

  under : (ph : Phase) (s : State) (x : Next) → Phased p t ph s.memory → next_in p ph ≡ Some x → Under s x
  under idle s x f e = absurd (none_some e)
  under (ready []) s x f e =
      record { root = last p; free = entry_free p W; ready = subst (λ y. Ready p t (last p) y s.memory) (same_next e) (fresh p t A W (last p) s.memory f.1 A.entry_listed) }
  under (ready (Input y ∷ ds)) s x f e = absurd (none_some e)
  under (ready (Defvar y r ∷ ds)) s x f e =
      record { root = r; free = f.0.0.1; ready = subst (λ z. Ready p t r z s.memory) (same_next e) (fresh p t A W r s.memory f.1 f.0.0.0.root) }
  under (ready (Defun y z r ∷ ds)) s x f e = absurd (none_some e)
  under (defining y ds z) s x f e = record { root = f.root; free = f.free; ready = subst (λ u. Ready p t f.root u s.memory) (same_next e) f.ready }
  under (running z) s x f e = record { root = last p; free = entry_free p W; ready = subst (λ u. Ready p t (last p) u s.memory) (same_next e) f }

  -- the frames of a setq whose value is returned
  awaiting : (l : ℕ) (fs : List Frame) (gs : List Frame) (bs : List (Binding Value)) → mark_frames (marked (marks_of p t)) gs bs ≡ Awaiting l ∷ fs → (hs : List Frame) × (gs ≡ Awaiting l ∷ hs) × (mark_frames (marked (marks_of p t)) hs bs ≡ fs)
  awaiting l fs [] bs e = absurd (let z : ◌≡◌ {A = ℕ} 0 1 = cc in omega arith)
  awaiting l fs (Awaiting j ∷ hs) bs e = (hs, (let z : j ≡ l = cc in ap (λ i. Awaiting i ∷ hs) z), (cc))
  awaiting l fs (Holding j v ∷ hs) bs e = absurd (let z : ◌≡◌ {A = ℕ} 0 1 = cc in omega arith)
  awaiting l fs (Scope j b o ∷ hs) [] e = absurd (let z : ◌≡◌ {A = ℕ} 0 1 = cc in omega arith)
  awaiting l fs (Scope j b o ∷ hs) (β ∷ bs) e = absurd (let z : ◌≡◌ {A = ℕ} 0 1 = cc in omega arith)

  finds_in : (s : State) → Fine p t s → Finds p t (veil_state (marked (marks_of p t)) n.limit s)
  finds_in s f = record {
    reading = λ l x e q mo.
        let u = under s.phase s (Evaluate l) f.phased e in
        let r = u.ready in
        let w = owner_walk p W t A (marked (marks_of p t)) (rightly p W t A) n.limit many u.root u.free l x r.label r.context s.memory.frames s.memory (ap occurs q) mo r.tail.up r.stack in
        record { value = w.thing; kept = w.found };
    assigning = λ l x b v fs e g q mo.
        let u = under s.phase s (Return v) f.phased e in
        let r = u.ready in
        let a = awaiting l fs s.memory.frames s.memory.store.bindings g in
        let st = subst (λ gs. Stack p t s.memory.pairs u.root gs r.label r.context (shape s.memory.store.bindings)) a.1 r.stack in
        let w = owner_walk p W t A (marked (marks_of p t)) (rightly p W t A) n.limit many u.root u.free l x st.0 r.context a.0 s.memory (ap occurs q) mo st.2.up st.3 in
        record { value = w.thing; kept = subst (λ gs. kept_at p (owner p l) gs ≡ Some w.thing) a.2 w.found };
  }

pub always_finds : AlwaysFinds
always_finds p W t A n many cs =
    let e = veiled_trace p W t A n n many many cs in
    subst (λ u. Finds p t u.end) (sym e) (finds_in p W t A n many (trace p unmarked (opened n) cs).end (trace_fares p t A W cs (opened n) (opened_fine p t A W n)).fine)
