-- A turn with marks does what the turn without them does.
use Rattle.std.proofs.Common.{◌≡◌, ℕ, ◌<◌, ◌≤◌, Bool, true, false, cond, eqb, ltb, List, [], ◌∷◌, ◌++◌, length, get_or, set, is_some, Some, None, Ok, Err, Option, Result, sym, refl, ap, ◌∙◌, inl, inr, arith}
use Rattle.std.proofs.lemmas.Bool.{cases_Bool, cond-true, cond-false, le-ltb, ne_eqb}
use Rattle.faults.specs.declared.fault.Fault.{Fault}
use Rattle.faults.specs.declared.fault.Fault.TheVariants.{NoSuchVariable, NotAPair, NotANumber, NoFrameLeft, NoPairLeft}
use Rattle.terms.specs.declared.term.Term.{Term}
use Rattle.terms.specs.declared.term.Term.TheVariants.{Number, Quote, Lambda, Variable, Setq, Let, If, Apply, Cons, Car, Cdr, Add, Same}
use Rattle.terms.specs.Syntax.{symbol_of}
use Rattle.terms.specs.Script.{Script, term, parameter, occurs}
use Rattle.terms.specs.WellFormed.{WellFormed}
use Rattle.stores.specs.declared.binding.Binding.{Binding}
use Rattle.stores.specs.Meaning.{Meaning, count_of, bound, bind_of, unbound, unbind_of, outermost, or_else, seen, look_of, replaced, assigned, put_of}
use Rattle.stores.specs.Meaning as bindings
use Rattle.stores.specs.Laws.{birthplace_in}
use Rattle.stores.proofs.Laws.{look_low}
use Rattle.owners.specs.Owners.{owner}
use Rattle.proposals.specs.Tables.{Tables}
use Rattle.values.specs.declared.value.Value.{Value}
use Rattle.values.specs.declared.value.Value.TheVariants as value
use Rattle.values.specs.declared.value.ConsCell.{ConsCell}
use Rattle.values.specs.declared.frame.Frame.{Frame}
use Rattle.values.specs.declared.frame.Frame.TheVariants.{Awaiting, Holding, Scope}
use Rattle.values.specs.declared.call.Report.TheVariants.{Plain, Assigned}
use Rattle.values.specs.declared.turn.Next.{Next}
use Rattle.values.specs.declared.turn.Next.TheVariants.{Evaluate, Return}
use Rattle.values.specs.declared.turn.Turn.{Turn}
use Rattle.machine.specs.Operations.{plus, cell_of, first_half, second_half, cell}
use Rattle.machine.specs.Machine.{Outcome, Memory, with_frames, with_store, goes, stops, yields, keep_at, born_at, sight, reads, put_done, puts, assigns, enters, evaluates, bind_done, opens, closes, takes_first, calls, applies, makes_pair, takes_second, newest, rest, returns, turns}
use Rattle.machine.proofs.Variables.{none_some, named_low, parameter_below}
use Rattle.machine.proofs.Steady.{Roomy, no_more, Room}
use Rattle.clauses.specs.Acceptance.{Listed, Accepted}
use Rattle.promise.proofs.Spans.{Up, Free}
use Rattle.promise.proofs.Invariant.{unmarked, shape, Stack, Ready}
use Rattle.promise.proofs.Bindings.{seen_birth}
use Rattle.promise.proofs.Veil.{kept_of, mark_frames, left_over, veiled, veil_out, left_few, mark_length, alike, frames_put, Walk, about_up, walk, Rightly, owner_about, meets_unmarked}

-- ---- the store takes what is asked of it
bind_ok : (m : Meaning Value) (x : ℕ) (v : Value) (b : ℕ) → x < 32 → count_of m < m.limit → bind_of m x v b ≡ (Ok tt, bound m x v b)
bind_ok m x v b low room =
    cond-false (ltb 31 x) _ _ (le-ltb 31 x (omega arith)) ∙ cond-false (eqb (count_of m) m.limit) _ _ (ne_eqb (count_of m) m.limit (λ e. omega arith))

put_ok : (m : Meaning Value) (x : ℕ) (v : Value) → x < 32 → put_of m x v ≡ (Ok tt, assigned m x v)
put_ok m x v low = cond-false (ltb 31 x) _ _ (le-ltb 31 x (omega arith))

puts_ok : (l x : ℕ) (v : Value) (fs : List Frame) (s : Memory) → x < 32
    → puts l x v fs s (look_of s.store x) ≡ goes (Assigned l (birthplace_in (seen s.store x)) v) (Return v) (with_frames fs (with_store (assigned s.store x v) s))
puts_ok l x v fs s low =
    ap (puts l x v fs s) (look_low s.store x (omega arith))
    ∙ ap (λ q. put_done l (birthplace_in (seen s.store x)) v fs s q.0 q.1) (put_ok s.store x v low)

module _ (p : Script) (m : ℕ → Bool) (n : ℕ) where
  -- ---- what looks at no marks
  choice : (b : Bool) (o q o' q' : Outcome Memory Turn) → o' ≡ veil_out m n o → q' ≡ veil_out m n q → cond b o' q' ≡ veil_out m n (cond b o q)
  choice true o q o' q' e f = e
  choice false o q o' q' e f = f

  enters_same : (l o : ℕ) (s : Memory) → enters l o (veiled m n s) ≡ veil_out m n (enters l o s)
  enters_same l o s =
      ap (λ k. cond (ltb k 255) (goes Plain (Evaluate o) (with_frames (Awaiting l ∷ mark_frames m s.frames s.store.bindings) (veiled m n s))) (stops (NoFrameLeft l) (veiled m n s))) (mark_length m s.frames s.store.bindings)
      ∙ choice (ltb (length s.frames) 255) (goes Plain (Evaluate o) (with_frames (Awaiting l ∷ s.frames) s)) (stops (NoFrameLeft l) s) _ _ refl refl

  reads_same : (l : ℕ) (s : Memory) (r : Result (Option (Value × ℕ)) Fault) → reads l (veiled m n s) r ≡ veil_out m n (reads l s r)
  reads_same l s (Err e) = refl
  reads_same l s (Ok None) = refl
  reads_same l s (Ok (Some f)) = refl

  yields_same : (f : Fault) (fs : List Frame) (s : Memory) (o : Option Value) → yields f (mark_frames m fs s.store.bindings) (veiled m n s) o ≡ veil_out m n (yields f fs s o)
  yields_same f fs s None = refl
  yields_same f fs s (Some v) = refl

  -- a scope is opened alike
  opens_same : (l x b : ℕ) (v : Value) (fs : List Frame) (s : Memory) → x < 32 → count_of s.store < s.store.limit → count_of s.store < n
      → opens m l x b v (mark_frames m fs s.store.bindings) (veiled m n s) ≡ veil_out m n (opens unmarked l x b v fs s)
  opens_same l x b v fs s low room room' =
      let z : Memory = veiled m n s in
      let fs' : List Frame = mark_frames m fs s.store.bindings in
      ap (λ q. cond (m b) (goes Plain (Evaluate b) (with_frames (Scope l b (Some v) ∷ fs') z)) (bind_done l b fs' z q.0 q.1)) (bind_ok z.store x v b low (omega (arith, left_few m s.store.bindings)))
      ∙ both (m b)
      ∙ sym (ap (λ q. veil_out m n (bind_done l b fs s q.0 q.1)) (bind_ok s.store x v b low room))
    where
      both : (d : Bool)
          → cond d (goes Plain (Evaluate b) (with_frames (Scope l b (Some v) ∷ mark_frames m fs s.store.bindings) (veiled m n s)))
          (bind_done l b (mark_frames m fs s.store.bindings) (veiled m n s) (Ok tt) (bound (veiled m n s).store x v b))
          ≡ goes Plain (Evaluate b) (record {
            frames = Scope l b (kept_of d v) ∷ mark_frames m fs s.store.bindings;
            pairs = s.pairs;
            store = record {
              bindings = cond d (left_over m s.store.bindings) (record { variable = x; thing = v; birthplace = b } ∷ left_over m s.store.bindings);
              top = s.store.top;
              limit = n;
            };
          })
      both true = refl
      both false = refl

  calls_same : (l g : ℕ) (w : Value) (fs : List Frame) (s : Memory) → WellFormed p → count_of s.store < s.store.limit → count_of s.store < n → (o : Option ℕ) → parameter p g ≡ o
      → calls m l g w (mark_frames m fs s.store.bindings) (veiled m n s) o ≡ veil_out m n (calls unmarked l g w fs s o)
  calls_same l g w fs s W room room' None e = refl
  calls_same l g w fs s W room room' (Some y) e = opens_same l y g w fs s (parameter_below p W g y e) room room'

  applies_same : (l : ℕ) (v w : Value) (fs : List Frame) (s : Memory) → WellFormed p → count_of s.store < s.store.limit → count_of s.store < n
      → applies p m l v w (mark_frames m fs s.store.bindings) (veiled m n s) ≡ veil_out m n (applies p unmarked l v w fs s)
  applies_same l (value.Number i) w fs s W room room' = refl
  applies_same l (value.Symbol i) w fs s W room room' = refl
  applies_same l (value.Function g) w fs s W room room' = calls_same l g w fs s W room room' (parameter p g) refl
  applies_same l (value.Pair i) w fs s W room room' = refl

  pair_same : (l : ℕ) (v w : Value) (fs : List Frame) (s : Memory) → makes_pair l v w (mark_frames m fs s.store.bindings) (veiled m n s) ≡ veil_out m n (makes_pair l v w fs s)
  pair_same l v w fs s = choice (ltb (length s.pairs) 1023)
      (goes Plain (Return (value.Pair (length s.pairs))) (record { frames = fs; pairs = s.pairs ++ (cell l v w ∷ []); store = s.store })) (stops (NoPairLeft l) s) _ _ refl refl

  second_same : (l : ℕ) (v w : Value) (tm : Term) (fs : List Frame) (s : Memory) → WellFormed p → count_of s.store < s.store.limit → count_of s.store < n
      → takes_second p m l v w tm (mark_frames m fs s.store.bindings) (veiled m n s) ≡ veil_out m n (takes_second p unmarked l v w tm fs s)
  second_same l v w (Number z) fs s W room room' = refl
  second_same l v w (Quote z) fs s W room room' = refl
  second_same l v w (Lambda x b) fs s W room room' = refl
  second_same l v w (Variable x) fs s W room room' = refl
  second_same l v w (Setq x b) fs s W room room' = refl
  second_same l v w (Let x b c) fs s W room room' = refl
  second_same l v w (If a b c) fs s W room room' = refl
  second_same l v w (Apply a b) fs s W room room' = applies_same l v w fs s W room room'
  second_same l v w (Cons a b) fs s W room room' = pair_same l v w fs s
  second_same l v w (Car a) fs s W room room' = refl
  second_same l v w (Cdr a) fs s W room room' = refl
  second_same l v w (Add a b) fs s W room room' = yields_same (NotANumber l) fs s (plus v w)
  second_same l v w (Same a b) fs s W room room' = refl

  closes_same : (t : Tables) (h : List ConsCell) (root j b l k : ℕ) (o : Option Value) (v : Value) (fs fs' : List Frame) (ps : List ConsCell) (bs : List (Binding Value)) (top : List (Option Value)) (lim : ℕ) → Stack p t h root (Scope j b o ∷ fs) l k (shape bs)
      → let s : Memory = record { frames = fs'; pairs = ps; store = record { bindings = bs; top = top; limit = lim } } in
      returns p m v (newest (mark_frames m (Scope j b o ∷ fs) bs)) (rest (mark_frames m (Scope j b o ∷ fs) bs)) (veiled m n s) ≡ veil_out m n (closes v o fs s)
  closes_same t h root j b l k o v fs fs' ps [] top lim st = absurd st
  closes_same t h root j b l k (Some z) v fs fs' ps (β ∷ bs) top lim st = absurd (none_some (sym st.2.kept))
  closes_same t h root j b l k None v fs fs' ps (β ∷ bs) top lim st = elim (cases_Bool (m b)) [
    | inl e ↦ (let f : m β.birthplace ≡ true = ap m st.2.born ∙ e in simp (e, f))
    | inr e ↦ (let f : m β.birthplace ≡ false = ap m st.2.born ∙ e in simp (e, f))
  ]

module _ (p : Script) (W : WellFormed p) (t : Tables) (A : Accepted p t) (m : ℕ → Bool) (M : Rightly p t m) (n : ℕ) (many : 255 ≤ n) (root : ℕ) (free : Free p root) where
  -- the walk from an occurrence whose owner is marked
  pub owner_walk : (l x i k : ℕ) (fs : List Frame) (s : Memory) → occurs (term p l) ≡ Some x → m (owner p l) ≡ true → Up p l i → Stack p t s.pairs root fs i k (shape s.store.bindings) → Walk p m x (owner p l) fs s.store.bindings
  owner_walk l x i k fs s e mo u st =
      let a = owner_about p W t A m M l x e mo in
      walk p W t s.pairs root free m x (owner p l) a.0 mo fs i k s.store.bindings st (about_up p W t s.pairs root free m x (owner p l) a.0 mo l i u a.1)

  sight_same : (l x i k : ℕ) (s : Memory) → term p l ≡ Variable x → Listed t l k → Up p l i → Stack p t s.pairs root s.frames i k (shape s.store.bindings) → sight p m l x (veiled m n s) ≡ look_of s.store x
  sight_same l x i k s e li u st = elim (cases_Bool (m (owner p l))) [
    | inl mo ↦ (
        let w = owner_walk l x i k s.frames s (ap occurs e) mo u st in
        cond-true (m (owner p l)) _ _ mo
        ∙ ap (λ o. Ok (born_at (owner p l) o)) w.found
        ∙ sym (look_low s.store x (let q = named_low p W l x (ap symbol_of e) in omega arith) ∙ ap (λ o. Ok (or_else o (outermost (get_or s.store.top x None)))) w.shown))
    | inr mo ↦ (
        let a = alike m x s.store.bindings (meets_unmarked p W t A m M s.pairs root l x i k s.frames s.store.bindings (ap occurs e) li st mo) in
        cond-false (m (owner p l)) _ _ mo
        ∙ ap (λ o. cond (ltb 31 x) (Err NoSuchVariable) (Ok (or_else o (outermost (get_or s.store.top x None))))) a.shown)
  ]

  assigns_same : (l x b i k : ℕ) (v : Value) (fs : List Frame) (s : Memory) → term p l ≡ Setq x b → Listed t l k → Up p l i → Stack p t s.pairs root fs i k (shape s.store.bindings)
      → assigns p m l x v (mark_frames m fs s.store.bindings) (veiled m n s) ≡ veil_out m n (assigns p unmarked l x v fs s)
  assigns_same l x b i k v fs s q li u st =
      let low : x < 32 = named_low p W l x (ap symbol_of q) in
      go low (m (owner p l)) refl ∙ sym (ap (veil_out m n) (puts_ok l x v fs s low))
    where
      -- the outcome by what it has
      to : ℕ → List Frame → List (Binding Value) → List (Option Value) → Outcome Memory Turn
      to b gs bs top = goes (Assigned l b v) (Return v) (record { frames = gs; pairs = s.pairs; store = record { bindings = bs; top = top; limit = n } })

      top_by : Option (Value × ℕ) → List (Option Value)
      top_by o = cond (is_some o) s.store.top (set s.store.top x (Some v))

      go : x < 32 → (d : Bool) → m (owner p l) ≡ d
          → cond d (goes (Assigned l (owner p l) v) (Return v) (with_frames (keep_at p (owner p l) v (mark_frames m fs s.store.bindings)) (veiled m n s)))
          (puts l x v (mark_frames m fs s.store.bindings) (veiled m n s) (look_of (veiled m n s).store x))
          ≡ to (birthplace_in (seen s.store x)) (mark_frames m fs (replaced x v s.store.bindings)) (left_over m (replaced x v s.store.bindings)) (top_by (bindings.newest x s.store.bindings))
      go low true mo =
          let w = owner_walk l x i k fs s (ap occurs q) mo u st in
          let born : birthplace_in (seen s.store x) ≡ owner p l = seen_birth s.store x ∙ ap birthplace_in w.shown in
          ap (λ o. to (owner p l) (keep_at p (owner p l) v (mark_frames m fs s.store.bindings)) (left_over m s.store.bindings) (top_by o)) (sym w.shown)
          ∙ ap (λ z. to z (keep_at p (owner p l) v (mark_frames m fs s.store.bindings)) (left_over m s.store.bindings) (top_by (bindings.newest x s.store.bindings))) (sym born)
          ∙ ap (λ z. to (birthplace_in (seen s.store x)) z (left_over m s.store.bindings) (top_by (bindings.newest x s.store.bindings))) (sym (w.put v))
          ∙ ap (λ z. to (birthplace_in (seen s.store x)) (mark_frames m fs (replaced x v s.store.bindings)) z (top_by (bindings.newest x s.store.bindings))) (sym (w.over v))
      go low false mo =
          let f = meets_unmarked p W t A m M s.pairs root l x i k fs s.store.bindings (ap occurs q) li st mo in
          let a = alike m x s.store.bindings f in
          puts_ok l x v (mark_frames m fs s.store.bindings) (veiled m n s) low
          ∙ ap (λ o. to (birthplace_in (or_else o (outermost (get_or s.store.top x None)))) (mark_frames m fs s.store.bindings) (replaced x v (left_over m s.store.bindings)) (top_by o)) a.shown
          ∙ ap (λ z. to (birthplace_in (seen s.store x)) z (replaced x v (left_over m s.store.bindings)) (top_by (bindings.newest x s.store.bindings))) (sym (frames_put p t s.pairs root m x v fs i k s.store.bindings st f))
          ∙ ap (λ z. to (birthplace_in (seen s.store x)) (mark_frames m fs (replaced x v s.store.bindings)) z (top_by (bindings.newest x s.store.bindings))) (a.put v)

  evaluates_same : (l i k : ℕ) (tm : Term) (s : Memory) → term p l ≡ tm → Listed t l k → Up p l i → Stack p t s.pairs root s.frames i k (shape s.store.bindings) → evaluates p m l tm (veiled m n s) ≡ veil_out m n (evaluates p unmarked l tm s)
  evaluates_same l i k (Number z) s q li u st = refl
  evaluates_same l i k (Quote z) s q li u st = refl
  evaluates_same l i k (Lambda x b) s q li u st = refl
  evaluates_same l i k (Variable x) s q li u st = ap (reads l (veiled m n s)) (sight_same l x i k s q li u st) ∙ reads_same p m n l s (look_of s.store x)
  evaluates_same l i k (Setq x b) s q li u st = enters_same p m n l b s
  evaluates_same l i k (Let x b c) s q li u st = enters_same p m n l b s
  evaluates_same l i k (If a b c) s q li u st = enters_same p m n l a s
  evaluates_same l i k (Apply a b) s q li u st = enters_same p m n l a s
  evaluates_same l i k (Cons a b) s q li u st = enters_same p m n l a s
  evaluates_same l i k (Car a) s q li u st = enters_same p m n l a s
  evaluates_same l i k (Cdr a) s q li u st = enters_same p m n l a s
  evaluates_same l i k (Add a b) s q li u st = enters_same p m n l a s
  evaluates_same l i k (Same a b) s q li u st = enters_same p m n l a s

  first_same : (l i k : ℕ) (v : Value) (tm : Term) (fs : List Frame) (s : Memory) → term p l ≡ tm → Listed t l k → Up p l i → Stack p t s.pairs root fs i k (shape s.store.bindings) → count_of s.store < s.store.limit → count_of s.store < n
      → takes_first p m l v tm (mark_frames m fs s.store.bindings) (veiled m n s) ≡ veil_out m n (takes_first p unmarked l v tm fs s)
  first_same l i k v (Number z) fs s q li u st room room' = refl
  first_same l i k v (Quote z) fs s q li u st room room' = refl
  first_same l i k v (Lambda x b) fs s q li u st room room' = refl
  first_same l i k v (Variable x) fs s q li u st room room' = refl
  first_same l i k v (Setq x b) fs s q li u st room room' = assigns_same l x b i k v fs s q li u st
  first_same l i k v (Let x b c) fs s q li u st room room' = opens_same p m n l x c v fs s (named_low p W l x (ap symbol_of q)) room room'
  first_same l i k v (If a b c) fs s q li u st room room' = refl
  first_same l i k v (Apply a b) fs s q li u st room room' = refl
  first_same l i k v (Cons a b) fs s q li u st room room' = refl
  first_same l i k v (Car a) fs s q li u st room room' = yields_same p m n (NotAPair l) fs s (first_half (cell_of s.pairs v))
  first_same l i k v (Cdr a) fs s q li u st room room' = yields_same p m n (NotAPair l) fs s (second_half (cell_of s.pairs v))
  first_same l i k v (Add a b) fs s q li u st room room' = refl
  first_same l i k v (Same a b) fs s q li u st room room' = refl

  -- k' is the limit of the store below the run without marks
  returns_same : (k' l k : ℕ) (v : Value) (fs : List Frame) (s : Memory) → 255 ≤ k' → Roomy p unmarked k' 255 fs s → Stack p t s.pairs root fs l k (shape s.store.bindings)
      → returns p m v (newest (mark_frames m fs s.store.bindings)) (rest (mark_frames m fs s.store.bindings)) (veiled m n s) ≡ veil_out m n (returns p unmarked v (newest fs) (rest fs) s)
  returns_same k' l k v [] s lim r st = refl
  returns_same k' l k v (Awaiting j ∷ fs) s lim r st =
      let few = no_more p unmarked k' 255 fs s (record { bindings = r.bindings; kept = r.kept; waits = r.waits.1; depth = omega (arith, r.depth); pairs = r.pairs; limit = r.limit }) in
      first_same j st.0 k v (term p j) fs s refl st.1.in_list st.2.up st.3 (omega (arith, few, r.depth, r.limit)) (omega (arith, few, r.depth))
  returns_same k' l k v (Holding j w ∷ fs) s lim r st =
      let few = no_more p unmarked k' 255 fs s (record { bindings = r.bindings; kept = r.kept; waits = r.waits.1; depth = omega (arith, r.depth); pairs = r.pairs; limit = r.limit }) in
      second_same p m n j w v (term p j) fs s W (omega (arith, few, r.depth, r.limit)) (omega (arith, few, r.depth))
  returns_same k' l k v (Scope j b o ∷ fs) s lim r st = closes_same p m n t s.pairs root j b l k o v fs s.frames s.pairs s.store.bindings s.store.top s.store.limit st

  pub turns_same : (k' : ℕ) (x : Next) (s : Memory) → 255 ≤ k' → Room p unmarked k' s → Ready p t root x s → turns p m x (veiled m n s) ≡ veil_out m n (turns p unmarked x s)
  turns_same k' (Evaluate l) s lim r h = evaluates_same l h.label h.context (term p l) s refl h.in_list h.tail.up h.stack
  turns_same k' (Return v) s lim r h = returns_same k' h.label h.context v s.frames s lim r h.stack
