-- One turn: frames and bindings stay together, a declined turn changes nothing, and none is declined where the store has room.
use Rattle.std.proofs.Common.{◌≡◌, ℕ, suc, ◌<◌, ◌≤◌, Bool, true, false, cond, eqb, ltb, List, [], ◌∷◌, ◌++◌, length, Some, None, Ok, Err, Option, Result, sym, refl, ap, ◌∙◌, subst, arith, length-append}
use Rattle.std.proofs.lemmas.Bool.{eqb-true, ltb-true, both_ways}
use Rattle.faults.specs.declared.fault.Fault.{Fault}
use Rattle.faults.specs.declared.fault.Fault.TheVariants.{NoSuchVariable, StoreFull, StoreEmpty, VoidVariable, NotAFunction, NotAPair, NotANumber, NoFrameLeft, NoPairLeft}
use Rattle.terms.specs.declared.term.Term.{Term}
use Rattle.terms.specs.declared.term.Term.TheVariants.{Number, Quote, Lambda, Variable, Setq, Let, If, Apply, Cons, Car, Cdr, Add, Same}
use Rattle.terms.specs.Syntax.{symbol_of}
use Rattle.terms.specs.Script.{Script, term, parameter}
use Rattle.terms.specs.WellFormed.{WellFormed}
use Rattle.stores.specs.declared.binding.Binding.{Binding}
use Rattle.stores.specs.Meaning.{Meaning, count_of, bound, bind_of, unbound, seen, look_of, replaced, assigned}
use Rattle.stores.specs.Laws.{birthplace_in}
use Rattle.owners.specs.Owners.{owner}
use Rattle.values.specs.declared.value.Value.{Value}
use Rattle.values.specs.declared.value.Value.TheVariants as value
use Rattle.values.specs.declared.value.ConsCell.{ConsCell}
use Rattle.values.specs.declared.frame.Frame.{Frame}
use Rattle.values.specs.declared.frame.Frame.TheVariants.{Awaiting, Holding, Scope}
use Rattle.values.specs.declared.call.Report.{Report}
use Rattle.values.specs.declared.call.Report.TheVariants.{Plain, Read, Assigned}
use Rattle.values.specs.declared.turn.Next.{Next}
use Rattle.values.specs.declared.turn.Next.TheVariants.{Evaluate, Return}
use Rattle.values.specs.declared.turn.Turn.{Turn}
use Rattle.values.specs.declared.turn.Turn.TheVariants.{Goes, Stops, Gives}
use Rattle.machine.specs.Operations.{branch, truth, plus, same, cell_of, first_half, second_half, cell}
use Rattle.machine.specs.Machine.{Outcome, Memory, with_frames, with_store, goes, stops, declines, yields, is_application, kept_at, keep_at, born_at, sight, reads, put_done, puts, assigns, enters, evaluates, bind_done, opens, unbind_done, closes, holds_first, takes_first, calls, applies, makes_pair, takes_second, newest, rest, returns, turns}
use Rattle.machine.specs.Laws.{birthplaces, in_store, KeptIfMarked, has_operand, has_second, Waits}
use Rattle.machine.proofs.Variables.{named_low, parameter_below}

pub ok_err : {A : Type 0} {a : A} {e : Fault} → Ok a ≡ Err e → ⊥
ok_err q = let z : ◌≡◌ {A = ℕ} 0 1 = cc in omega arith

nil_cons : {A : Type 0} {a : A} {more : List A} → [] ≡ a ∷ more → ⊥
nil_cons q = let z : ◌≡◌ {A = ℕ} 0 1 = cc in omega arith

pub births_length : (bs : List (Binding Value)) → length (birthplaces bs) ≡ length bs
births_length [] = refl
births_length (b ∷ bs) = ap suc (births_length bs)

pub in_store_few : (fs : List Frame) → length (in_store fs) ≤ length fs
in_store_few [] = omega arith
in_store_few (Awaiting l ∷ fs) = let q = in_store_few fs in omega arith
in_store_few (Holding l v ∷ fs) = let q = in_store_few fs in omega arith
in_store_few (Scope l b None ∷ fs) = let q = in_store_few fs in omega arith
in_store_few (Scope l b (Some v) ∷ fs) = let q = in_store_few fs in omega arith

pub births_replaced : (x : ℕ) (v : Value) (bs : List (Binding Value)) → birthplaces (replaced x v bs) ≡ birthplaces bs
births_replaced x v [] = refl
births_replaced x v (b ∷ bs) =
    elim (eqb b.variable x) as (λ d. birthplaces (cond d (record { variable = b.variable; thing = v; birthplace = b.birthplace } ∷ bs) (b ∷ replaced x v bs)) ≡ birthplaces (b ∷ bs))
    [ true ↦ refl | false ↦ ap (λ l. b.birthplace ∷ l) (births_replaced x v bs) ]

-- assigning to a frame that keeps its binding
keep_length : (p : Script) (o : ℕ) (v : Value) (fs : List Frame) → length (keep_at p o v fs) ≡ length fs
keep_length p o v [] = refl
keep_length p o v (Awaiting l ∷ fs) = ap suc (keep_length p o v fs)
keep_length p o v (Holding l w ∷ fs) = ap suc (keep_length p o v fs)
keep_length p o v (Scope l b k ∷ fs) =
    elim (eqb b o) as (λ d. length (cond d (Scope l b (Some v) ∷ fs) (Scope l b k ∷ cond (is_application (term p l)) fs (keep_at p o v fs))) ≡ suc (length fs))
    [ true ↦ refl | false ↦ elim (is_application (term p l)) as (λ d. suc (length (cond d fs (keep_at p o v fs))) ≡ suc (length fs)) [ true ↦ refl | false ↦ ap suc (keep_length p o v fs) ] ]

keep_waits : (p : Script) (o : ℕ) (v : Value) (fs : List Frame) → Waits p fs → Waits p (keep_at p o v fs)
keep_waits p o v [] w = w
keep_waits p o v (Awaiting l ∷ fs) w = (w.0, keep_waits p o v fs w.1)
keep_waits p o v (Holding l u ∷ fs) w = (w.0, keep_waits p o v fs w.1)
keep_waits p o v (Scope l b k ∷ fs) w =
    elim (eqb b o) as (λ d. Waits p (cond d (Scope l b (Some v) ∷ fs) (Scope l b k ∷ cond (is_application (term p l)) fs (keep_at p o v fs))))
    [ true ↦ w | false ↦ elim (is_application (term p l)) as (λ d. Waits p (cond d fs (keep_at p o v fs))) [ true ↦ w | false ↦ keep_waits p o v fs w ] ]

module _ (p : Script) (marked : ℕ → Bool) (o : ℕ) (v : Value) (mo : marked o ≡ true) where
  keep_kept : (fs : List Frame) → KeptIfMarked marked fs → KeptIfMarked marked (keep_at p o v fs)
  keep_kept [] k = k
  keep_kept (Awaiting l ∷ fs) k = keep_kept fs k
  keep_kept (Holding l w ∷ fs) k = keep_kept fs k
  keep_kept (Scope l b None ∷ fs) k = go (eqb b o) refl (keep_kept fs k.1)
    where
      go : (d : Bool) → eqb b o ≡ d → KeptIfMarked marked (keep_at p o v fs)
          → KeptIfMarked marked (cond d (Scope l b (Some v) ∷ fs) (Scope l b None ∷ cond (is_application (term p l)) fs (keep_at p o v fs)))
      go true q ih = (ap marked (eqb-true b o q) ∙ mo, k.1)
      go false q ih = (k.0, elim (is_application (term p l)) as (λ d. KeptIfMarked marked (cond d fs (keep_at p o v fs))) [ true ↦ k.1 | false ↦ ih ])
  keep_kept (Scope l b (Some w) ∷ fs) k =
      elim (eqb b o) as (λ d. KeptIfMarked marked (cond d (Scope l b (Some v) ∷ fs) (Scope l b (Some w) ∷ cond (is_application (term p l)) fs (keep_at p o v fs))))
      [ true ↦ k | false ↦ (k.0, elim (is_application (term p l)) as (λ d. KeptIfMarked marked (cond d fs (keep_at p o v fs))) [ true ↦ k.1 | false ↦ keep_kept fs k.1 ]) ]

  keep_store : (fs : List Frame) → KeptIfMarked marked fs → in_store (keep_at p o v fs) ≡ in_store fs
  keep_store [] k = refl
  keep_store (Awaiting l ∷ fs) k = keep_store fs k
  keep_store (Holding l w ∷ fs) k = keep_store fs k
  keep_store (Scope l b None ∷ fs) k = go (eqb b o) refl (keep_store fs k.1)
    where
      go : (d : Bool) → eqb b o ≡ d → in_store (keep_at p o v fs) ≡ in_store fs
          → in_store (cond d (Scope l b (Some v) ∷ fs) (Scope l b None ∷ cond (is_application (term p l)) fs (keep_at p o v fs))) ≡ b ∷ in_store fs
      go true q ih = absurd (both_ways (marked b) k.0 (ap marked (eqb-true b o q) ∙ mo))
      go false q ih = ap (λ l. b ∷ l) (elim (is_application (term p l)) as (λ d. in_store (cond d fs (keep_at p o v fs)) ≡ in_store fs) [ true ↦ refl | false ↦ ih ])
  keep_store (Scope l b (Some w) ∷ fs) k =
      elim (eqb b o) as (λ d. in_store (cond d (Scope l b (Some v) ∷ fs) (Scope l b (Some w) ∷ cond (is_application (term p l)) fs (keep_at p o v fs))) ≡ in_store fs)
      [ true ↦ refl | false ↦ elim (is_application (term p l)) as (λ d. in_store (cond d fs (keep_at p o v fs)) ≡ in_store fs) [ true ↦ refl | false ↦ keep_store fs k.1 ] ]

-- ---- frames fs over the rest of s: in all there are at most `most` of them
pub record Roomy (p : Script) (marked : ℕ → Bool) (n most : ℕ) (fs : List Frame) (s : Memory) : Type 0 where
  pub bindings : birthplaces s.store.bindings ≡ in_store fs
  pub kept : KeptIfMarked marked fs
  pub waits : Waits p fs
  pub depth : length fs ≤ most
  pub pairs : length s.pairs ≤ 1023
  pub limit : s.store.limit ≡ n

pub no_more : (p : Script) (marked : ℕ → Bool) (n most : ℕ) (fs : List Frame) (s : Memory) → Roomy p marked n most fs s → count_of s.store ≤ length fs
no_more p marked n most fs s r = omega (arith, births_length s.store.bindings, ap length r.bindings, in_store_few fs)

-- a turn after which the row does not go on as it was going
abbrev pub Quiet : Result Turn Fault → Type 0
Quiet (Err e) = Unit {0}
Quiet (Ok (Goes r x)) = ⊥
Quiet (Ok (Stops f)) = Unit {0}
Quiet (Ok (Gives v)) = Unit {0}

module _ (p : Script) (marked : ℕ → Bool) (n : ℕ) where
  abbrev pub Room : Memory → Type 0
  Room s = Roomy p marked n 255 s.frames s

  -- what lies behind the newest frame
  abbrev pub Behind : List Frame → Memory → Type 0
  Behind fs s = Roomy p marked n 254 fs s

  pub record Steady (s : Memory) (o : Outcome Memory Turn) : Type 0 where
    pub room : Room s → Room o.after
    pub unchanged : Quiet o.answer → o.after ≡ s
    pub taken : WellFormed p → 255 ≤ n → Room s → (e : Fault) → o.answer ≡ Err e → ⊥

  goes_steady : (s : Memory) (r : Report) (x : Next) (s' : Memory) → (Room s → Room s') → Steady s (goes r x s')
  goes_steady s r x s' f = record { room = f; unchanged = λ q. absurd q; taken = λ w l k e q. ok_err q }

  stops_steady : (s : Memory) (f : Fault) → Steady s (stops f s)
  stops_steady s f = record { room = λ r. r; unchanged = λ q. refl; taken = λ w l k e q. ok_err q }

  -- declined with nothing changed, which does not happen if the premises forbid it
  declines_steady : (s : Memory) (f : Fault) → (WellFormed p → 255 ≤ n → Room s → ⊥) → Steady s (declines f s)
  declines_steady s f never = record { room = λ r. r; unchanged = λ q. refl; taken = λ w l k e q. never w l k }

  -- the frames become fs
  to_frames : (s : Memory) (fs : List Frame) → (Room s → Behind fs s) → Room s → Room (with_frames fs s)
  to_frames s fs b r = let k = b r in record { bindings = k.bindings; kept = k.kept; waits = k.waits; depth = omega (arith, k.depth); pairs = k.pairs; limit = k.limit }

  yields_steady : (s : Memory) (f : Fault) (fs : List Frame) (o : Option Value) → (Room s → Behind fs s) → Steady s (yields f fs s o)
  yields_steady s f fs None b = stops_steady s f
  yields_steady s f fs (Some v) b = goes_steady s Plain (Return v) (with_frames fs s) (to_frames s fs b)

  sight_steady : (l : ℕ) (s : Memory) (o : Option (Value × ℕ)) → Steady s (reads l s (Ok o))
  sight_steady l s None = stops_steady s (VoidVariable l)
  sight_steady l s (Some f) = goes_steady s (Read l f.1 f.0) (Return f.0) s (λ r. r)

  reads_steady : (l x : ℕ) (s : Memory) → (WellFormed p → x < 32) → Steady s (reads l s (sight p marked l x s))
  reads_steady l x s low = go (marked (owner p l)) (ltb 31 x) refl
    where
      go : (d c : Bool) → ltb 31 x ≡ c → Steady s (reads l s (cond d (Ok (born_at (owner p l) (kept_at p (owner p l) s.frames))) (cond c (Err NoSuchVariable) (Ok (seen s.store x)))))
      go true c e = sight_steady l s (born_at (owner p l) (kept_at p (owner p l) s.frames))
      go false true e = declines_steady s NoSuchVariable (λ w k r. let q = low w in let h = ltb-true 31 x e in omega arith)
      go false false e = sight_steady l s (seen s.store x)

  enters_steady : (l o : ℕ) (s : Memory) → has_operand (term p l) ≡ true → Steady s (enters l o s)
  enters_steady l o s has = go (ltb (length s.frames) 255) refl
    where
      go : (d : Bool) → ltb (length s.frames) 255 ≡ d → Steady s (cond d (goes Plain (Evaluate o) (with_frames (Awaiting l ∷ s.frames) s)) (stops (NoFrameLeft l) s))
      go true q = goes_steady s Plain (Evaluate o) (with_frames (Awaiting l ∷ s.frames) s) (λ r. let h = ltb-true (length s.frames) 255 q in
          record { bindings = r.bindings; kept = r.kept; waits = (has, r.waits); depth = omega arith; pairs = r.pairs; limit = r.limit })
      go false q = stops_steady s (NoFrameLeft l)

  puts_steady : (l x : ℕ) (v : Value) (fs : List Frame) (s : Memory) → (WellFormed p → x < 32) → (Room s → Behind fs s) → Steady s (puts l x v fs s (look_of s.store x))
  puts_steady l x v fs s low b = go (ltb 31 x) refl
    where
      never : ltb 31 x ≡ true → WellFormed p → 255 ≤ n → Room s → ⊥
      never e w k r = let q = low w in let h = ltb-true 31 x e in omega arith

      put : (c : Bool) → ltb 31 x ≡ c → let q : Result (Unit {0}) Fault × Meaning Value = cond c (Err NoSuchVariable, s.store) (Ok tt, assigned s.store x v) in
          Steady s (put_done l (birthplace_in (seen s.store x)) v fs s q.0 q.1)
      put true e = declines_steady s NoSuchVariable (never e)
      put false e = goes_steady s (Assigned l (birthplace_in (seen s.store x)) v) (Return v) (with_frames fs (with_store (assigned s.store x v) s)) (λ r. let k = b r in
          record { bindings = births_replaced x v s.store.bindings ∙ k.bindings; kept = k.kept; waits = k.waits; depth = omega (arith, k.depth); pairs = k.pairs; limit = k.limit })

      go : (c : Bool) → ltb 31 x ≡ c → Steady s (puts l x v fs s (cond c (Err NoSuchVariable) (Ok (seen s.store x))))
      go true e = declines_steady s NoSuchVariable (never e)
      go false e = put (ltb 31 x) refl

  assigns_steady : (l x : ℕ) (v : Value) (fs : List Frame) (s : Memory) → (WellFormed p → x < 32) → (Room s → Behind fs s) → Steady s (assigns p marked l x v fs s)
  assigns_steady l x v fs s low b = go (marked (owner p l)) refl
    where
      go : (d : Bool) → marked (owner p l) ≡ d → Steady s (cond d (goes (Assigned l (owner p l) v) (Return v) (with_frames (keep_at p (owner p l) v fs) s)) (puts l x v fs s (look_of s.store x)))
      go true q = goes_steady s (Assigned l (owner p l) v) (Return v) (with_frames (keep_at p (owner p l) v fs) s) (λ r. let k = b r in record {
        bindings = k.bindings ∙ sym (keep_store p marked (owner p l) v q fs k.kept);
        kept = keep_kept p marked (owner p l) v q fs k.kept;
        waits = keep_waits p (owner p l) v fs k.waits;
        depth = omega (arith, k.depth, keep_length p (owner p l) v fs);
        pairs = k.pairs;
        limit = k.limit;
      })
      go false q = puts_steady l x v fs s low b

  opens_steady : (l x b : ℕ) (v : Value) (fs : List Frame) (s : Memory) → (WellFormed p → x < 32) → (Room s → Behind fs s) → Steady s (opens marked l x b v fs s)
  opens_steady l x b v fs s low behind = go (marked b) refl
    where
      bind : marked b ≡ false → (c f : Bool) → ltb 31 x ≡ c → eqb (count_of s.store) s.store.limit ≡ f
          → let q : Result (Unit {0}) Fault × Meaning Value = cond c (Err NoSuchVariable, s.store) (cond f (Err StoreFull, s.store) (Ok tt, bound s.store x v b)) in
          Steady s (bind_done l b fs s q.0 q.1)
      bind mb true f e i = declines_steady s NoSuchVariable (λ w k r. let q = low w in let h = ltb-true 31 x e in omega arith)
      bind mb false true e i = declines_steady s StoreFull (λ w k r.
          let z = behind r in
          let full = eqb-true (count_of s.store) s.store.limit i in
          omega (arith, no_more p marked n 254 fs s z, z.depth, z.limit))
      bind mb false false e i = goes_steady s Plain (Evaluate b) (with_frames (Scope l b None ∷ fs) (with_store (bound s.store x v b) s)) (λ r. let k = behind r in
          record { bindings = ap (λ us. b ∷ us) k.bindings; kept = (mb, k.kept); waits = k.waits; depth = omega (arith, k.depth); pairs = k.pairs; limit = k.limit })

      go : (d : Bool) → marked b ≡ d → Steady s (cond d (goes Plain (Evaluate b) (with_frames (Scope l b (Some v) ∷ fs) s)) (bind_done l b fs s (bind_of s.store x v b).0 (bind_of s.store x v b).1))
      go true q = goes_steady s Plain (Evaluate b) (with_frames (Scope l b (Some v) ∷ fs) s) (λ r. let k = behind r in
          record { bindings = k.bindings; kept = (q, k.kept); waits = k.waits; depth = omega (arith, k.depth); pairs = k.pairs; limit = k.limit })
      go false q = bind q (ltb 31 x) (eqb (count_of s.store) s.store.limit) refl refl

  closes_steady : (l b : ℕ) (v : Value) (kept : Option Value) (fs : List Frame) (ps : List ConsCell) (m : Meaning Value)
      → let s : Memory = record { frames = Scope l b kept ∷ fs; pairs = ps; store = m } in Steady s (closes v kept fs s)
  closes_steady l b v (Some k) fs ps m = goes_steady _ Plain (Return v) _ (λ r. record { bindings = r.bindings; kept = r.kept.1; waits = r.waits; depth = omega (arith, r.depth); pairs = r.pairs; limit = r.limit })
  closes_steady l b v None fs ps m = go m.bindings refl
    where
      s : Memory
      s = record { frames = Scope l b None ∷ fs; pairs = ps; store = m }

      go : (bs : List (Binding Value)) → m.bindings ≡ bs → Steady s (unbind_done v fs s (unbound bs m.top m.limit).0 (unbound bs m.top m.limit).1)
      go [] e = subst (λ bs. Steady s (declines StoreEmpty (with_store (record { bindings = bs; top = m.top; limit = m.limit }) s))) e
          (declines_steady s StoreEmpty (λ w k r. nil_cons (sym (ap birthplaces e) ∙ r.bindings)))
      go (β ∷ bs) e = goes_steady s Plain (Return v) (with_frames fs (with_store (record { bindings = bs; top = m.top; limit = m.limit }) s)) (λ r.
          let q : β.birthplace ∷ birthplaces bs ≡ b ∷ in_store fs = sym (ap birthplaces e) ∙ r.bindings in
          record { bindings = ap drop_first q; kept = r.kept.1; waits = r.waits; depth = omega (arith, r.depth); pairs = r.pairs; limit = r.limit })
        where
          drop_first : List ℕ → List ℕ
          drop_first [] = []
          drop_first (x ∷ xs) = xs

  holds_steady : (l : ℕ) (v : Value) (b : ℕ) (fs : List Frame) (s : Memory) → has_second (term p l) ≡ true → (Room s → Behind fs s) → Steady s (holds_first l v b fs s)
  holds_steady l v b fs s has behind = goes_steady s Plain (Evaluate b) (with_frames (Holding l v ∷ fs) s) (λ r. let k = behind r in
      record { bindings = k.bindings; kept = k.kept; waits = (has, k.waits); depth = omega (arith, k.depth); pairs = k.pairs; limit = k.limit })

  first_steady : (l : ℕ) (v : Value) (t : Term) (fs : List Frame) (s : Memory) → term p l ≡ t → (WellFormed p → (x : ℕ) → symbol_of t ≡ Some x → x < 32) → (Room s → Behind fs s) → Steady s (takes_first p marked l v t fs s)
  first_steady l v (Number z) fs s e low b = goes_steady s Plain (Return v) _ (to_frames s fs b)
  first_steady l v (Quote z) fs s e low b = goes_steady s Plain (Return v) _ (to_frames s fs b)
  first_steady l v (Lambda x c) fs s e low b = goes_steady s Plain (Return v) _ (to_frames s fs b)
  first_steady l v (Variable x) fs s e low b = goes_steady s Plain (Return v) _ (to_frames s fs b)
  first_steady l v (Setq x c) fs s e low b = assigns_steady l x v fs s (λ w. low w x refl) b
  first_steady l v (Let x c d) fs s e low b = opens_steady l x d v fs s (λ w. low w x refl) b
  first_steady l v (If a c d) fs s e low b = goes_steady s Plain (Evaluate (branch v c d)) _ (to_frames s fs b)
  first_steady l v (Apply a c) fs s e low b = holds_steady l v c fs s (ap has_second e) b
  first_steady l v (Cons a c) fs s e low b = holds_steady l v c fs s (ap has_second e) b
  first_steady l v (Car a) fs s e low b = yields_steady s (NotAPair l) fs (first_half (cell_of s.pairs v)) b
  first_steady l v (Cdr a) fs s e low b = yields_steady s (NotAPair l) fs (second_half (cell_of s.pairs v)) b
  first_steady l v (Add a c) fs s e low b = holds_steady l v c fs s (ap has_second e) b
  first_steady l v (Same a c) fs s e low b = holds_steady l v c fs s (ap has_second e) b

  calls_steady : (l g : ℕ) (w : Value) (fs : List Frame) (s : Memory) (o : Option ℕ) → parameter p g ≡ o → (Room s → Behind fs s) → Steady s (calls marked l g w fs s o)
  calls_steady l g w fs s None e b = stops_steady s (NotAFunction l)
  calls_steady l g w fs s (Some y) e b = opens_steady l y g w fs s (λ k. parameter_below p k g y e) b

  applies_steady : (l : ℕ) (v w : Value) (fs : List Frame) (s : Memory) → (Room s → Behind fs s) → Steady s (applies p marked l v w fs s)
  applies_steady l (value.Number z) w fs s b = stops_steady s (NotAFunction l)
  applies_steady l (value.Symbol z) w fs s b = stops_steady s (NotAFunction l)
  applies_steady l (value.Function g) w fs s b = calls_steady l g w fs s (parameter p g) refl b
  applies_steady l (value.Pair z) w fs s b = stops_steady s (NotAFunction l)

  pair_steady : (l : ℕ) (v w : Value) (fs : List Frame) (s : Memory) → (Room s → Behind fs s) → Steady s (makes_pair l v w fs s)
  pair_steady l v w fs s b = go (ltb (length s.pairs) 1023) refl
    where
      new : Memory
      new = record { frames = fs; pairs = s.pairs ++ (cell l v w ∷ []); store = s.store }

      go : (d : Bool) → ltb (length s.pairs) 1023 ≡ d → Steady s (cond d (goes Plain (Return (value.Pair (length s.pairs))) new) (stops (NoPairLeft l) s))
      go true q = goes_steady s Plain (Return (value.Pair (length s.pairs))) new (λ r. let k = b r in let h = ltb-true (length s.pairs) 1023 q in
          record { bindings = k.bindings; kept = k.kept; waits = k.waits; depth = omega (arith, k.depth); pairs = omega (arith, length-append s.pairs (cell l v w ∷ [])); limit = k.limit })
      go false q = stops_steady s (NoPairLeft l)

  second_steady : (l : ℕ) (v w : Value) (t : Term) (fs : List Frame) (s : Memory) → (Room s → Behind fs s) → Steady s (takes_second p marked l v w t fs s)
  second_steady l v w (Number z) fs s b = goes_steady s Plain (Return w) _ (to_frames s fs b)
  second_steady l v w (Quote z) fs s b = goes_steady s Plain (Return w) _ (to_frames s fs b)
  second_steady l v w (Lambda x c) fs s b = goes_steady s Plain (Return w) _ (to_frames s fs b)
  second_steady l v w (Variable x) fs s b = goes_steady s Plain (Return w) _ (to_frames s fs b)
  second_steady l v w (Setq x c) fs s b = goes_steady s Plain (Return w) _ (to_frames s fs b)
  second_steady l v w (Let x c d) fs s b = goes_steady s Plain (Return w) _ (to_frames s fs b)
  second_steady l v w (If a c d) fs s b = goes_steady s Plain (Return w) _ (to_frames s fs b)
  second_steady l v w (Apply a c) fs s b = applies_steady l v w fs s b
  second_steady l v w (Cons a c) fs s b = pair_steady l v w fs s b
  second_steady l v w (Car a) fs s b = goes_steady s Plain (Return w) _ (to_frames s fs b)
  second_steady l v w (Cdr a) fs s b = goes_steady s Plain (Return w) _ (to_frames s fs b)
  second_steady l v w (Add a c) fs s b = yields_steady s (NotANumber l) fs (plus v w) b
  second_steady l v w (Same a c) fs s b = goes_steady s Plain (Return (truth (same v w))) _ (to_frames s fs b)

  evaluates_steady : (l : ℕ) (t : Term) (s : Memory) → term p l ≡ t → (WellFormed p → (x : ℕ) → symbol_of t ≡ Some x → x < 32) → Steady s (evaluates p marked l t s)
  evaluates_steady l (Number z) s e low = goes_steady s Plain (Return (value.Number z)) s (λ r. r)
  evaluates_steady l (Quote z) s e low = goes_steady s Plain (Return (value.Symbol z)) s (λ r. r)
  evaluates_steady l (Lambda x b) s e low = goes_steady s Plain (Return (value.Function b)) s (λ r. r)
  evaluates_steady l (Variable x) s e low = reads_steady l x s (λ w. low w x refl)
  evaluates_steady l (Setq x b) s e low = enters_steady l b s (ap has_operand e)
  evaluates_steady l (Let x b c) s e low = enters_steady l b s (ap has_operand e)
  evaluates_steady l (If a b c) s e low = enters_steady l a s (ap has_operand e)
  evaluates_steady l (Apply a b) s e low = enters_steady l a s (ap has_operand e)
  evaluates_steady l (Cons a b) s e low = enters_steady l a s (ap has_operand e)
  evaluates_steady l (Car a) s e low = enters_steady l a s (ap has_operand e)
  evaluates_steady l (Cdr a) s e low = enters_steady l a s (ap has_operand e)
  evaluates_steady l (Add a b) s e low = enters_steady l a s (ap has_operand e)
  evaluates_steady l (Same a b) s e low = enters_steady l a s (ap has_operand e)

  returns_steady : (v : Value) (fs : List Frame) (ps : List ConsCell) (m : Meaning Value)
      → let s : Memory = record { frames = fs; pairs = ps; store = m } in Steady s (returns p marked v (newest fs) (rest fs) s)
  returns_steady v [] ps m = record { room = λ r. r; unchanged = λ q. refl; taken = λ w l k e q. ok_err q }
  returns_steady v (Awaiting l ∷ fs) ps m = first_steady l v (term p l) fs _ refl (λ w. named_low p w l) (λ r. record { bindings = r.bindings; kept = r.kept; waits = r.waits.1; depth = omega (arith, r.depth); pairs = r.pairs; limit = r.limit })
  returns_steady v (Holding l w ∷ fs) ps m = second_steady l w v (term p l) fs _ (λ r. record { bindings = r.bindings; kept = r.kept; waits = r.waits.1; depth = omega (arith, r.depth); pairs = r.pairs; limit = r.limit })
  returns_steady v (Scope l b kept ∷ fs) ps m = closes_steady l b v kept fs ps m

  pub turns_steady : (x : Next) (s : Memory) → Steady s (turns p marked x s)
  turns_steady (Evaluate l) s = evaluates_steady l (term p l) s refl (λ w. named_low p w l)
  turns_steady (Return v) s = returns_steady v s.frames s.pairs s.store
