-- A turn of a run without marks keeps the invariant, and what it reports lies inside the tables.
use Rattle.std.proofs.Common.{◌≡◌, ℕ, ◌<◌, ◌≤◌, Bool, true, false, cond, eqb, ltb, List, [], ◌∷◌, ◌++◌, length, is_some, Some, None, Ok, Err, Option, Result, sym, refl, ap, ◌∙◌, subst, inl, inr}
use Rattle.faults.specs.declared.fault.Fault.{Fault}
use Rattle.faults.specs.declared.fault.Fault.TheVariants.{NoSuchVariable, StoreFull, NotAPair, NotANumber, NoFrameLeft, NoPairLeft}
use Rattle.terms.specs.declared.term.Term.{Term}
use Rattle.terms.specs.declared.term.Term.TheVariants.{Number, Quote, Lambda, Variable, Setq, Let, If, Apply, Cons, Car, Cdr, Add, Same}
use Rattle.terms.specs.Script.{Script, term, binds, parameter, occurs, cons_operands}
use Rattle.terms.specs.WellFormed.{WellFormed}
use Rattle.stores.specs.declared.binding.Binding.{Binding}
use Rattle.stores.specs.Meaning.{Meaning, count_of, bound, unbound, seen, look_of, assigned}
use Rattle.stores.specs.Laws.{birthplace_in}
use Rattle.facts.specs.Numbering.{symbol_fact, number_fact, function_fact, pair_fact, flow_set}
use Rattle.proposals.specs.Tables.{Tables, in_set, contexts, entry}
use Rattle.values.specs.declared.value.Value.{Value}
use Rattle.values.specs.declared.value.Value.TheVariants as value
use Rattle.values.specs.declared.value.ConsCell.{ConsCell}
use Rattle.values.specs.declared.frame.Frame.{Frame}
use Rattle.values.specs.declared.frame.Frame.TheVariants.{Awaiting, Holding, Scope}
use Rattle.values.specs.declared.call.Report.TheVariants.{Plain, Assigned}
use Rattle.values.specs.declared.turn.Next.{Next}
use Rattle.values.specs.declared.turn.Next.TheVariants.{Evaluate, Return}
use Rattle.machine.specs.Operations.{truth, is_nil, number_of, sum, same, cell_of, first_half, second_half, cell}
use Rattle.machine.specs.Machine.{Memory, with_frames, with_store, goes, stops, yields, is_application, reads, put_done, puts, enters, evaluates, bind_done, opens, unbind_done, closes, holds_first, takes_first, calls, applies, makes_pair, takes_second, newest, rest, returns, turns}
use Rattle.machine.proofs.Variables.{none_some}
use Rattle.clauses.specs.Clauses.{binding_set, named_set}
use Rattle.clauses.specs.Acceptance.{Listed, Subset, Enters, Accepted}
use Rattle.promise.specs.Lies.{Lies, number, symbol, function, pair}
use Rattle.promise.proofs.Spans.{Up, Member, operands, operand_up, binder_bounds, parameter_binds, let_binds, let_up, let_down}
use Rattle.promise.proofs.Basics.{some_inj, append_nil, pair_new, lies_within, lies_grow, clause_of, operand_one, operand_two, TwoOperands}
use Rattle.promise.proofs.Invariant.{unmarked, shape, Tail, Lexical, by_call, by_let, Stack, Typed, TopTyped, Held, Evaluates, Returns, Ready, Went, Good}
use Rattle.promise.proofs.Bindings.{birth, seen_birth, shape_put, stack_end, row_names, stack_grow, typed_grow, seen_lies, put_typed, put_top_typed}

pub tail_self : (p : Script) (t : Tables) (m k : ℕ) → Tail p t m m k
tail_self p t m k = record { flows = λ f e. e; up = λ o e. (λ h. h, λ h. h) }

module _ (p : Script) (t : Tables) (A : Accepted p t) (W : WellFormed p) (root : ℕ) where
  -- the frames fs over the rest of s await a value for n in context k
  abbrev Over : List Frame → ℕ → ℕ → Memory → Type 0
  Over fs n k s = Stack p t s.pairs root fs n k (shape s.store.bindings)

  -- a turn that leaves pairs and store as they are
  same_went : (s : Memory) (fs : List Frame) (x : Next) → Held p t s → Ready p t root x (with_frames fs s) → Went p t root s x (with_frames fs s)
  same_went s fs x h r = record { ready = r; held = record { bound = h.bound; topped = h.topped }; more = []; grown = sym (append_nil s.pairs) }

  evaluates_returns : (l : ℕ) (v : Value) (s : Memory) → (e : Evaluates p t root l s) → Lies p t s.pairs (flow_set l e.context) v → Returns p t root v s
  evaluates_returns l v s e i = record { label = e.label; context = e.context; stack = e.stack; lies = lies_within e.tail.flows i }

  value_good : (l : ℕ) (v : Value) (s : Memory) → Held p t s → (e : Evaluates p t root l s) → Lies p t s.pairs (flow_set l e.context) v → Good p t root s (goes Plain (Return v) s)
  value_good l v s h e i = (same_went s s.frames (Return v) h (evaluates_returns l v s e i), tt)

  member_of : (m l : ℕ) (tm : Term) → term p m ≡ tm → Member l (operands tm) → Up p l m
  member_of m l tm e k = operand_up p W l m (subst (λ u. Member l (operands u)) (sym e) k)

  enters_good : (l o : ℕ) (tm : Term) (s : Memory) → term p l ≡ tm → Held p t s → (e : Evaluates p t root l s) → operand_one tm ≡ o → Member o (operands tm) → Listed t o e.context → Good p t root s (enters l o s)
  enters_good l o tm s q h e one k i =
      elim (ltb (length s.frames) 255) as (λ b. Good p t root s (cond b (goes Plain (Evaluate o) (with_frames (Awaiting l ∷ s.frames) s)) (stops (NoFrameLeft l) s))) [
        | true ↦ (
          same_went s (Awaiting l ∷ s.frames) (Evaluate o) h (record {
            label = o;
            context = e.context;
            stack = (e.label, record { operand = sym (ap operand_one q ∙ one); member = subst (λ u. Member o (operands u)) (sym q) k; in_list = e.in_list; up = member_of l o tm q k }, e.tail, e.stack);
            in_list = i;
            tail = tail_self p t o e.context;
          }),
          tt,
        )
        | false ↦ tt
      ]

  reads_good : (l x : ℕ) (s : Memory) → term p l ≡ Variable x → Held p t s → Evaluates p t root l s → Good p t root s (reads l s (look_of s.store x))
  reads_good l x s q h e = look (ltb 31 x)
    where
      go : (o : Option (Value × ℕ)) → seen s.store x ≡ o → Good p t root s (reads l s (Ok o))
      go None i = tt
      go (Some r) i =
          let f = seen_lies p t s.pairs s.store x r h.bound h.topped i in
          let c : Subset t (named_set t x e.context) (flow_set l e.context) = clause_of l e.context (Variable x) A e.in_list q in
          let born : birth x s.store.bindings ≡ r.1 = sym (seen_birth s.store x) ∙ ap birthplace_in i in
          let n : entry t e.context x ≡ r.1 = row_names p t s.pairs root x (A.form.outermost x) s.frames e.label e.context s.store.bindings e.stack ∙ born in (
            same_went s s.frames (Return r.0) h (evaluates_returns l r.0 s e (lies_within c (subst (λ b. Lies p t s.pairs (binding_set x b) r.0) (sym n) f))),
            record { variable = x; occurrence = ap occurs q; context = e.context; in_list = e.in_list; names = n; lies = f },
          )

      look : (c : Bool) → Good p t root s (reads l s (cond c (Err NoSuchVariable) (Ok (seen s.store x))))
      look true = tt
      look false = go (seen s.store x) refl

  evaluates_good : (l : ℕ) (tm : Term) (s : Memory) → term p l ≡ tm → Held p t s → Evaluates p t root l s → Good p t root s (evaluates p unmarked l tm s)
  evaluates_good l (Number n) s q h e = value_good l (value.Number n) s h e (number (clause_of l e.context (Number n) A e.in_list q))
  evaluates_good l (Quote a) s q h e = value_good l (value.Symbol a) s h e (symbol (clause_of l e.context (Quote a) A e.in_list q))
  evaluates_good l (Lambda x b) s q h e = value_good l (value.Function b) s h e (function (clause_of l e.context (Lambda x b) A e.in_list q))
  evaluates_good l (Variable x) s q h e = reads_good l x s q h e
  evaluates_good l (Setq x b) s q h e = enters_good l b (Setq x b) s q h e refl (inl refl) (clause_of l e.context (Setq x b) A e.in_list q).operand
  evaluates_good l (Let x b u) s q h e = enters_good l b (Let x b u) s q h e refl (inl refl) (clause_of l e.context (Let x b u) A e.in_list q).operand
  evaluates_good l (If a b u) s q h e = enters_good l a (If a b u) s q h e refl (inl refl) (clause_of l e.context (If a b u) A e.in_list q).condition
  evaluates_good l (Apply a b) s q h e = enters_good l a (Apply a b) s q h e refl (inl refl) (clause_of l e.context (Apply a b) A e.in_list q).operator
  evaluates_good l (Cons a b) s q h e = enters_good l a (Cons a b) s q h e refl (inl refl) (clause_of l e.context (Cons a b) A e.in_list q).first
  evaluates_good l (Car a) s q h e = enters_good l a (Car a) s q h e refl (inl refl) (clause_of l e.context (Car a) A e.in_list q).operand
  evaluates_good l (Cdr a) s q h e = enters_good l a (Cdr a) s q h e refl (inl refl) (clause_of l e.context (Cdr a) A e.in_list q).operand
  evaluates_good l (Add a b) s q h e = enters_good l a (Add a b) s q h e refl (inl refl) (clause_of l e.context (Add a b) A e.in_list q).first
  evaluates_good l (Same a b) s q h e = enters_good l a (Same a b) s q h e refl (inl refl) (clause_of l e.context (Same a b) A e.in_list q).first

  -- a scope is opened for binder b of x with the value of o
  opens_good : (m n k o x b : ℕ) (v : Value) (fs : List Frame) (s : Memory) → Held p t s → Tail p t m n k → Over fs n k s → binds p b ≡ Some x → Lexical p b m → Enters t m k o x b
      → Lies p t s.pairs (flow_set o k) v → Good p t root s (opens unmarked m x b v fs s)
  opens_good m n k o x b v fs s h u st q lx en i = go (ltb 31 x) (eqb (count_of s.store) s.store.limit)
    where
      low : 1 ≤ b
      low = (binder_bounds p W b (ap is_some q)).0

      go : (c f : Bool) → let r : Result (Unit {0}) Fault × Meaning Value = cond c (Err NoSuchVariable, s.store) (cond f (Err StoreFull, s.store) (Ok tt, bound s.store x v b)) in
          Good p t root s (bind_done m b fs s r.0 r.1)
      go true f = tt
      go false true = tt
      go false false = (
        record {
          ready = record {
            label = b;
            context = en.inner;
            stack = (k, n, record { label = refl; kept = refl; born = refl; low = low; binder = q; extends = en.extends; back = en.returned; lexical = lx }, u, st);
            in_list = en.body;
            tail = tail_self p t b en.inner;
          };
          held = record { bound = (low, lies_within en.bound i, h.bound); topped = h.topped };
          more = [];
          grown = sym (append_nil s.pairs);
        },
        tt,
      )

  -- a value for m comes back to n
  back_good : (m n k : ℕ) (v : Value) (fs : List Frame) (s : Memory) → Held p t s → Tail p t m n k → Over fs n k s → Lies p t s.pairs (flow_set m k) v → Good p t root s (goes Plain (Return v) (with_frames fs s))
  back_good m n k v fs s h u st i = (same_went s fs (Return v) h (record { label = n; context = k; stack = st; lies = lies_within u.flows i }), tt)

  -- the cell of a value that lies in a set, and where its halves lie
  record CellIn (s : Memory) (a k : ℕ) (c : ConsCell) : Type 0 where
    pub one : ℕ
    pub two : ℕ
    pub context : ℕ
    pub operands : cons_operands (term p c.cons) ≡ Some (one, two)
    pub few : context < contexts t
    pub held : in_set t (flow_set a k) (pair_fact c.cons context) ≡ true
    pub first_lies : Lies p t s.pairs (flow_set one context) c.first
    pub second_lies : Lies p t s.pairs (flow_set two context) c.second

  cell_in : (s : Memory) (a k : ℕ) (v : Value) (c : ConsCell) → Lies p t s.pairs (flow_set a k) v → cell_of s.pairs v ≡ Some c → CellIn s a k c
  cell_in s a k (value.Number x) c i q = absurd (none_some q)
  cell_in s a k (value.Symbol x) c i q = absurd (none_some q)
  cell_in s a k (value.Function x) c i q = absurd (none_some q)
  cell_in s a k (value.Pair x) c (pair d u w j n o few f first second) q =
      subst (CellIn s a k) (some_inj (sym n ∙ q)) (record { one = u; two = w; context = j; operands = o; few = few; held = f; first_lies = first; second_lies = second })

  car_good : (m n k a : ℕ) (v : Value) (fs : List Frame) (s : Memory) → term p m ≡ Car a → Held p t s → Tail p t m n k → Over fs n k s → Listed t m k → Lies p t s.pairs (flow_set a k) v
      → (o : Option ConsCell) → cell_of s.pairs v ≡ o → Good p t root s (yields (NotAPair m) fs s (first_half o))
  car_good m n k a v fs s q h u st lm i None e = tt
  car_good m n k a v fs s q h u st lm i (Some c) e =
      let d = cell_in s a k v c i e in
      let w = clause_of m k (Car a) A lm q in
      back_good m n k c.first fs s h u st (lies_within (w.returned c.cons d.context d.one d.two d.few d.held d.operands) d.first_lies)

  cdr_good : (m n k a : ℕ) (v : Value) (fs : List Frame) (s : Memory) → term p m ≡ Cdr a → Held p t s → Tail p t m n k → Over fs n k s → Listed t m k → Lies p t s.pairs (flow_set a k) v
      → (o : Option ConsCell) → cell_of s.pairs v ≡ o → Good p t root s (yields (NotAPair m) fs s (second_half o))
  cdr_good m n k a v fs s q h u st lm i None e = tt
  cdr_good m n k a v fs s q h u st lm i (Some c) e =
      let d = cell_in s a k v c i e in
      let w = clause_of m k (Cdr a) A lm q in
      back_good m n k c.second fs s h u st (lies_within (w.returned c.cons d.context d.one d.two d.few d.held d.operands) d.second_lies)

  holds_good : (m n k b : ℕ) (v : Value) (fs : List Frame) (s : Memory) → Held p t s → Tail p t m n k → Over fs n k s → Listed t m k
      → (tm : Term) → term p m ≡ tm → operand_two tm ≡ b → TwoOperands tm → Member b (operands tm) → Listed t b k → Lies p t s.pairs (flow_set (operand_one tm) k) v → Good p t root s (holds_first m v b fs s)
  holds_good m n k b v fs s h u st lm tm q two has k' lb i = (
    same_went s (Holding m v ∷ fs) (Evaluate b) h (record {
      label = b;
      context = k;
      stack = (
        n,
        record {
          operand = sym (ap operand_two q ∙ two);
          two = subst TwoOperands (sym q) has;
          in_list = lm;
          up = member_of m b tm q k';
          before = subst (λ z. Lies p t s.pairs (flow_set (operand_one z) k) v) (sym q) i;
        },
        u,
        st,
      );
      in_list = lb;
      tail = tail_self p t b k;
    }),
    tt,
  )

  -- a branch is evaluated in the place of its if
  place_good : (m n k b : ℕ) (fs : List Frame) (s : Memory) → Held p t s → Tail p t m n k → Over fs n k s → Listed t b k → Subset t (flow_set b k) (flow_set m k) → Up p b m
      → Good p t root s (goes Plain (Evaluate b) (with_frames fs s))
  place_good m n k b fs s h u st lb w up = (
    same_went s fs (Evaluate b) h (record {
      label = n;
      context = k;
      stack = st;
      in_list = lb;
      tail = record { flows = λ f x. u.flows f (w f x); up = λ o x. (λ y. (u.up o x).0 ((up o x).0 y), λ y. (up o x).1 ((u.up o x).1 y)) };
    }),
    tt,
  )

  branch_good : (m n k a b c : ℕ) (d : Bool) (fs : List Frame) (s : Memory) → term p m ≡ If a b c → Held p t s → Tail p t m n k → Over fs n k s → Listed t m k
      → Good p t root s (goes Plain (Evaluate (cond d c b)) (with_frames fs s))
  branch_good m n k a b c true fs s q h u st lm =
      let e = clause_of m k (If a b c) A lm q in place_good m n k c fs s h u st e.otherwise e.otherwise_returned (member_of m c (If a b c) q (inr (inr (inl refl))))
  branch_good m n k a b c false fs s q h u st lm =
      let e = clause_of m k (If a b c) A lm q in place_good m n k b fs s h u st e.then e.then_returned (member_of m b (If a b c) q (inr (inl refl)))

  puts_good : (m n k x b : ℕ) (v : Value) (fs : List Frame) (s : Memory) → term p m ≡ Setq x b → Held p t s → Tail p t m n k → Over fs n k s → Listed t m k → Lies p t s.pairs (flow_set b k) v
      → Good p t root s (puts m x v fs s (look_of s.store x))
  puts_good m n k x b v fs s q h u st lm i = look (ltb 31 x)
    where
      named : entry t k x ≡ birth x s.store.bindings
      named = row_names p t s.pairs root x (A.form.outermost x) fs n k s.store.bindings st

      lies : Lies p t s.pairs (binding_set x (birth x s.store.bindings)) v
      lies = let c = clause_of m k (Setq x b) A lm q in subst (λ b. Lies p t s.pairs (binding_set x b) v) named (lies_within c.assigned i)

      done : Good p t root s (goes (Assigned m (birthplace_in (seen s.store x)) v) (Return v) (with_frames fs (with_store (assigned s.store x v) s)))
      done =
          let c = clause_of m k (Setq x b) A lm q in (
            record {
              ready = record { label = n; context = k; stack = subst (Stack p t s.pairs root fs n k) (sym (shape_put x v s.store.bindings)) st; lies = lies_within u.flows (lies_within c.returned i) };
              held = record { bound = put_typed p t s.pairs x v s.store.bindings h.bound lies; topped = put_top_typed p t s.pairs x v s.store h.topped lies };
              more = [];
              grown = sym (append_nil s.pairs);
            },
            record {
              variable = x;
              occurrence = ap occurs q;
              context = k;
              in_list = lm;
              names = named ∙ sym (seen_birth s.store x);
              lies = subst (λ b. Lies p t s.pairs (binding_set x b) v) (sym (seen_birth s.store x)) lies;
            },
          )

      put : (c : Bool) → let r : Result (Unit {0}) Fault × Meaning Value = cond c (Err NoSuchVariable, s.store) (Ok tt, assigned s.store x v) in
          Good p t root s (put_done m (birthplace_in (seen s.store x)) v fs s r.0 r.1)
      put true = tt
      put false = done

      look : (c : Bool) → Good p t root s (puts m x v fs s (cond c (Err NoSuchVariable) (Ok (seen s.store x))))
      look true = tt
      look false = put (ltb 31 x)

  -- the first operand's value comes
  first_good : (m n k l : ℕ) (v : Value) (tm : Term) (fs : List Frame) (s : Memory) → term p m ≡ tm → Held p t s → Tail p t m n k → Over fs n k s → Listed t m k → Member l (operands tm)
      → Lies p t s.pairs (flow_set (operand_one tm) k) v → Good p t root s (takes_first p unmarked m v tm fs s)
  first_good m n k l v (Number z) fs s q h u st lm o i = absurd o
  first_good m n k l v (Quote z) fs s q h u st lm o i = absurd o
  first_good m n k l v (Lambda x b) fs s q h u st lm o i = absurd o
  first_good m n k l v (Variable x) fs s q h u st lm o i = absurd o
  first_good m n k l v (Setq x b) fs s q h u st lm o i = puts_good m n k x b v fs s q h u st lm i
  first_good m n k l v (Let x b c) fs s q h u st lm o i =
      let e = clause_of m k (Let x b c) A lm q in
      opens_good m n k b x c v fs s h u st (let_binds p W m x b c q) (by_let (ap is_application q) (λ o. let_up p W m x b c o q) (λ o. let_down p W m x b c o q)) e.entered i
  first_good m n k l v (If a b c) fs s q h u st lm o i = branch_good m n k a b c (is_nil v) fs s q h u st lm
  first_good m n k l v (Apply a b) fs s q h u st lm o i = holds_good m n k b v fs s h u st lm (Apply a b) q refl tt (inr (inl refl)) (clause_of m k (Apply a b) A lm q).operand i
  first_good m n k l v (Cons a b) fs s q h u st lm o i = holds_good m n k b v fs s h u st lm (Cons a b) q refl tt (inr (inl refl)) (clause_of m k (Cons a b) A lm q).second i
  first_good m n k l v (Car a) fs s q h u st lm o i = car_good m n k a v fs s q h u st lm i (cell_of s.pairs v) refl
  first_good m n k l v (Cdr a) fs s q h u st lm o i = cdr_good m n k a v fs s q h u st lm i (cell_of s.pairs v) refl
  first_good m n k l v (Add a b) fs s q h u st lm o i = holds_good m n k b v fs s h u st lm (Add a b) q refl tt (inr (inl refl)) (clause_of m k (Add a b) A lm q).second i
  first_good m n k l v (Same a b) fs s q h u st lm o i = holds_good m n k b v fs s h u st lm (Same a b) q refl tt (inr (inl refl)) (clause_of m k (Same a b) A lm q).second i

  calls_good : (m n k a b g : ℕ) (w : Value) (fs : List Frame) (s : Memory) → term p m ≡ Apply a b → Held p t s → Tail p t m n k → Over fs n k s → Listed t m k
      → in_set t (flow_set a k) (function_fact g) ≡ true → Lies p t s.pairs (flow_set b k) w → (o : Option ℕ) → parameter p g ≡ o → Good p t root s (calls unmarked m g w fs s o)
  calls_good m n k a b g w fs s q h u st lm f j None e = tt
  calls_good m n k a b g w fs s q h u st lm f j (Some y) e =
      opens_good m n k b y g w fs s h u st (parameter_binds p W g y e) (by_call (ap is_application q) (ap is_some e)) ((clause_of m k (Apply a b) A lm q).called g y f e) j

  applies_good : (m n k a b : ℕ) (v w : Value) (fs : List Frame) (s : Memory) → term p m ≡ Apply a b → Held p t s → Tail p t m n k → Over fs n k s → Listed t m k
      → Lies p t s.pairs (flow_set a k) v → Lies p t s.pairs (flow_set b k) w → Good p t root s (applies p unmarked m v w fs s)
  applies_good m n k a b (value.Number x) w fs s q h u st lm i j = tt
  applies_good m n k a b (value.Symbol x) w fs s q h u st lm i j = tt
  applies_good m n k a b (value.Function g) w fs s q h u st lm (function f) j = calls_good m n k a b g w fs s q h u st lm f j (parameter p g) refl
  applies_good m n k a b (value.Pair x) w fs s q h u st lm i j = tt

  sum_good : (m n k : ℕ) (o o' : Option ℕ) (fs : List Frame) (s : Memory) → Held p t s → Tail p t m n k → Over fs n k s → in_set t (flow_set m k) number_fact ≡ true → Good p t root s (yields (NotANumber m) fs s (sum o o'))
  sum_good m n k None o fs s h u st i = tt
  sum_good m n k (Some x) None fs s h u st i = tt
  sum_good m n k (Some x) (Some y) fs s h u st i = back_good m n k _ fs s h u st (number i)

  same_good : (m n k : ℕ) (d : Bool) (fs : List Frame) (s : Memory) → Held p t s → Tail p t m n k → Over fs n k s → in_set t (flow_set m k) (symbol_fact 0) ≡ true → in_set t (flow_set m k) (symbol_fact 1) ≡ true
      → Good p t root s (goes Plain (Return (truth d)) (with_frames fs s))
  same_good m n k true fs s h u st i j = back_good m n k (value.Symbol 1) fs s h u st (symbol j)
  same_good m n k false fs s h u st i j = back_good m n k (value.Symbol 0) fs s h u st (symbol i)

  pair_good : (m n k a b : ℕ) (v w : Value) (fs : List Frame) (s : Memory) → term p m ≡ Cons a b → Held p t s → Tail p t m n k → Over fs n k s → Listed t m k
      → Lies p t s.pairs (flow_set a k) v → Lies p t s.pairs (flow_set b k) w → Good p t root s (makes_pair m v w fs s)
  pair_good m n k a b v w fs s q h u st lm i j = go (ltb (length s.pairs) 1023)
    where
      new : List ConsCell
      new = cell m v w ∷ []

      made : Lies p t (s.pairs ++ new) (flow_set n k) (value.Pair (length s.pairs))
      made = lies_within u.flows (pair (cell m v w) a b k (pair_new s.pairs (cell m v w)) (ap cons_operands q) (A.form.listed_contexts m k lm) (clause_of m k (Cons a b) A lm q).made (lies_grow new i) (lies_grow new j))

      go : (d : Bool) → Good p t root s (cond d (goes Plain (Return (value.Pair (length s.pairs))) (record { frames = fs; pairs = s.pairs ++ (cell m v w ∷ []); store = s.store })) (stops (NoPairLeft m) s))
      go true = (
        record {
          ready = record { label = n; context = k; stack = stack_grow p t s.pairs new root fs n k (shape s.store.bindings) st; lies = made };
          held = record { bound = typed_grow p t s.pairs new s.store.bindings h.bound; topped = λ x y z. lies_grow new (h.topped x y z) };
          more = new;
          grown = refl;
        },
        tt,
      )
      go false = tt

  -- the second operand's value comes
  second_good : (m n k : ℕ) (v w : Value) (tm : Term) (fs : List Frame) (s : Memory) → term p m ≡ tm → Held p t s → Tail p t m n k → Over fs n k s → Listed t m k → TwoOperands tm
      → Lies p t s.pairs (flow_set (operand_one tm) k) v → Lies p t s.pairs (flow_set (operand_two tm) k) w → Good p t root s (takes_second p unmarked m v w tm fs s)
  second_good m n k v w (Number z) fs s q h u st lm o i j = absurd o
  second_good m n k v w (Quote z) fs s q h u st lm o i j = absurd o
  second_good m n k v w (Lambda x b) fs s q h u st lm o i j = absurd o
  second_good m n k v w (Variable x) fs s q h u st lm o i j = absurd o
  second_good m n k v w (Setq x b) fs s q h u st lm o i j = absurd o
  second_good m n k v w (Let x b c) fs s q h u st lm o i j = absurd o
  second_good m n k v w (If a b c) fs s q h u st lm o i j = absurd o
  second_good m n k v w (Apply a b) fs s q h u st lm o i j = applies_good m n k a b v w fs s q h u st lm i j
  second_good m n k v w (Cons a b) fs s q h u st lm o i j = pair_good m n k a b v w fs s q h u st lm i j
  second_good m n k v w (Car a) fs s q h u st lm o i j = absurd o
  second_good m n k v w (Cdr a) fs s q h u st lm o i j = absurd o
  second_good m n k v w (Add a b) fs s q h u st lm o i j = sum_good m n k (number_of v) (number_of w) fs s h u st (clause_of m k (Add a b) A lm q).made
  second_good m n k v w (Same a b) fs s q h u st lm o i j = let e = clause_of m k (Same a b) A lm q in same_good m n k (same v w) fs s h u st e.unlike e.alike

  -- the value of a body comes to its scope frame
  closes_good : (m b l k : ℕ) (o : Option Value) (v : Value) (fs : List Frame) (s : Memory) (bs : List (Binding Value)) → s.store.bindings ≡ bs → Typed p t s.pairs bs → TopTyped p t s.pairs s.store.top
      → Stack p t s.pairs root (Scope m b o ∷ fs) l k (shape bs) → Lies p t s.pairs (flow_set l k) v → Good p t root s (closes v o fs s)
  closes_good m b l k o v fs s [] q h g st i = absurd st
  closes_good m b l k (Some z) v fs s (β ∷ bs) q h g st i = absurd (none_some (sym st.2.kept))
  closes_good m b l k None v fs s (β ∷ bs) q h g st i =
      let y : Lies p t s.pairs (flow_set b k) v = subst (λ x. Lies p t s.pairs (flow_set x k) v) st.2.label i in
      subst (λ us. Good p t root s (unbind_done v fs s (unbound us s.store.top s.store.limit).0 (unbound us s.store.top s.store.limit).1)) (sym q) (
        record {
          ready = record { label = st.1; context = st.0; stack = st.4; lies = lies_within st.3.flows (lies_within st.2.back y) };
          held = record { bound = h.2; topped = g };
          more = [];
          grown = sym (append_nil s.pairs);
        },
        tt,
      )

  returns_good : (l k : ℕ) (v : Value) (fs : List Frame) (s : Memory) → s.frames ≡ fs → Held p t s → Over fs l k s → Lies p t s.pairs (flow_set l k) v → Good p t root s (returns p unmarked v (newest fs) (rest fs) s)
  returns_good l k v [] s f h st i =
      let e = stack_end p t s.pairs root l k s.store.bindings st in
      record {
        lies = subst (λ x. Lies p t s.pairs (flow_set x 0) v) e.label (subst (λ x. Lies p t s.pairs (flow_set l x) v) e.context i);
        frames = f;
        bindings = e.bindings;
      }
  returns_good l k v (Awaiting m ∷ fs) s f h st i =
      first_good m st.0 k l v (term p m) fs s refl h st.2 st.3 st.1.in_list st.1.member (subst (λ x. Lies p t s.pairs (flow_set x k) v) st.1.operand i)
  returns_good l k v (Holding m w ∷ fs) s f h st i =
      second_good m st.0 k w v (term p m) fs s refl h st.2 st.3 st.1.in_list st.1.two st.1.before (subst (λ x. Lies p t s.pairs (flow_set x k) v) st.1.operand i)
  returns_good l k v (Scope m b o ∷ fs) s f h st i = closes_good m b l k o v fs s s.store.bindings refl h.bound h.topped st i

  pub turns_good : (x : Next) (s : Memory) → Held p t s → Ready p t root x s → Good p t root s (turns p unmarked x s)
  turns_good (Evaluate l) s h r = evaluates_good l (term p l) s refl h r
  turns_good (Return v) s h r = returns_good r.label r.context v s.frames s refl h r.stack r.lies
