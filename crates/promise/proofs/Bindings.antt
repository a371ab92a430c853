-- Bindings and rows: the row of a stack's context names the newest bindings; look and put keep values in their sets.
use Rattle.std.proofs.Common.{◌≡◌, ℕ, zero, suc, ◌+◌, ◌≤◌, true, false, cond, eqb, List, [], ◌∷◌, ◌++◌, get_or, set, is_some, Some, None, Option, sym, refl, ap, ◌∙◌, subst, inl, inr, arith}
use Rattle.std.proofs.lemmas.Bool.{eqb-true, eqb-false, eq-eqb, ne_eqb, cases_Bool, cond-true, cond-false}
use Rattle.terms.specs.Script.{Script}
use Rattle.stores.specs.declared.binding.Binding.{Binding}
use Rattle.stores.specs.Meaning.{Meaning, newest, outermost, or_else, seen, replaced, assigned}
use Rattle.stores.specs.Laws.{birthplace_in}
use Rattle.facts.specs.Numbering.{top_set, bound_set}
use Rattle.proposals.specs.Tables.{Tables, entry}
use Rattle.values.specs.declared.value.Value.{Value}
use Rattle.values.specs.declared.value.ConsCell.{ConsCell}
use Rattle.values.specs.declared.frame.Frame.{Frame}
use Rattle.values.specs.declared.frame.Frame.TheVariants.{Awaiting, Holding, Scope}
use Rattle.machine.proofs.Variables.{none_some}
use Rattle.clauses.specs.Clauses.{binding_set}
use Rattle.promise.specs.Lies.{Lies}
use Rattle.promise.proofs.Basics.{some_inj, lies_grow}
use Rattle.promise.proofs.Invariant.{shape, Stack, Typed, TopTyped}

-- the birthplace of the newest binding of x, else 0
abbrev pub birth : ℕ → List (Binding Value) → ℕ
birth x bs = birthplace_in (newest x bs)

pub birth_here : (x : ℕ) (b : Binding Value) (bs : List (Binding Value)) → b.variable ≡ x → birth x (b ∷ bs) ≡ b.birthplace
birth_here x b bs e = ap (λ d. birthplace_in (cond d (Some (b.thing, b.birthplace)) (newest x bs))) (eq-eqb b.variable x e)

pub birth_past : (x : ℕ) (b : Binding Value) (bs : List (Binding Value)) → (b.variable ≡ x → ⊥) → birth x (b ∷ bs) ≡ birth x bs
birth_past x b bs n = ap (λ d. birthplace_in (cond d (Some (b.thing, b.birthplace)) (newest x bs))) (ne_eqb b.variable x n)

-- what is shown has that birthplace
pub seen_birth : (m : Meaning Value) (x : ℕ) → birthplace_in (seen m x) ≡ birth x m.bindings
seen_birth m x = go (newest x m.bindings) (get_or m.top x None)
  where
    go : (o : Option (Value × ℕ)) (q : Option Value) → birthplace_in (or_else o (outermost q)) ≡ birthplace_in o
    go None None = refl
    go None (Some v) = refl
    go (Some f) q = refl

pub shape_put : (x : ℕ) (v : Value) (bs : List (Binding Value)) → shape (replaced x v bs) ≡ shape bs
shape_put x v [] = refl
shape_put x v (b ∷ bs) =
    elim (eqb b.variable x) as (λ d. shape (cond d (record { variable = b.variable; thing = v; birthplace = b.birthplace } ∷ bs) (b ∷ replaced x v bs)) ≡ shape (b ∷ bs))
    [ true ↦ refl | false ↦ ap (λ sh. (b.variable, b.birthplace) ∷ sh) (shape_put x v bs) ]

pub set_bound : (x b : ℕ) → 1 ≤ b → binding_set x b ≡ bound_set b
set_bound x b h = cond-false (eqb b 0) _ _ (ne_eqb b 0 (λ e. omega arith))

pub set_top : (x b : ℕ) → b ≡ 0 → binding_set x b ≡ top_set x
set_top x b h = cond-true (eqb b 0) _ _ (eq-eqb b 0 h)

pub record Ends (root l k : ℕ) (bs : List (Binding Value)) : Type 0 where
  pub label : l ≡ root
  pub context : k ≡ 0
  pub bindings : bs ≡ []

pub stack_end : (p : Script) (t : Tables) (h : List ConsCell) (root l k : ℕ) (bs : List (Binding Value)) → Stack p t h root [] l k (shape bs) → Ends root l k bs
stack_end p t h root l k [] s = record { label = s.0; context = s.1; bindings = refl }
stack_end p t h root l k (b ∷ bs) s = absurd s

-- the context names at x the birthplace of its newest binding
pub row_names : (p : Script) (t : Tables) (h : List ConsCell) (root x : ℕ) → entry t 0 x ≡ 0 → (fs : List Frame) (l k : ℕ) (bs : List (Binding Value)) → Stack p t h root fs l k (shape bs) → entry t k x ≡ birth x bs
row_names p t h root x z [] l k [] s = ap (λ j. entry t j x) s.1 ∙ z
row_names p t h root x z [] l k (b ∷ bs) s = absurd s
row_names p t h root x z (Awaiting m ∷ fs) l k bs s = row_names p t h root x z fs s.0 k bs s.3
row_names p t h root x z (Holding m v ∷ fs) l k bs s = row_names p t h root x z fs s.0 k bs s.3
row_names p t h root x z (Scope m b o ∷ fs) l k [] s = absurd s
row_names p t h root x z (Scope m b o ∷ fs) l k (β ∷ bs) s = elim (cases_Bool (eqb β.variable x)) [
  | inl q ↦ (let e = eqb-true β.variable x q in
      ap (entry t k) (sym e) ∙ s.2.extends.put ∙ sym s.2.born ∙ sym (birth_here x β bs e))
  | inr q ↦ (let n = eqb-false β.variable x q in
      s.2.extends.kept x (λ e. n (sym e)) ∙ row_names p t h root x z fs s.1 s.0 bs s.4 ∙ sym (birth_past x β bs n))
]

pub stack_grow : (p : Script) (t : Tables) (h e : List ConsCell) (root : ℕ) (fs : List Frame) (l k : ℕ) (sh : List (ℕ × ℕ)) → Stack p t h root fs l k sh → Stack p t (h ++ e) root fs l k sh
stack_grow p t h e root [] l k [] s = s
stack_grow p t h e root [] l k (y ∷ sh) s = s
stack_grow p t h e root (Awaiting m ∷ fs) l k sh s = (s.0, s.1, s.2, stack_grow p t h e root fs s.0 k sh s.3)
stack_grow p t h e root (Holding m v ∷ fs) l k sh s =
    (s.0, record { operand = s.1.operand; two = s.1.two; in_list = s.1.in_list; up = s.1.up; before = lies_grow e s.1.before }, s.2, stack_grow p t h e root fs s.0 k sh s.3)
stack_grow p t h e root (Scope m b o ∷ fs) l k [] s = s
stack_grow p t h e root (Scope m b o ∷ fs) l k (y ∷ sh) s = (s.0, s.1, s.2, s.3, stack_grow p t h e root fs s.1 s.0 sh s.4)

pub typed_grow : (p : Script) (t : Tables) (h e : List ConsCell) (bs : List (Binding Value)) → Typed p t h bs → Typed p t (h ++ e) bs
typed_grow p t h e [] s = tt
typed_grow p t h e (b ∷ bs) s = (s.0, lies_grow e s.1, typed_grow p t h e bs s.2)

module _ (p : Script) (t : Tables) (h : List ConsCell) where
  abbrev Placed : ℕ → Value × ℕ → Type 0
  Placed x r = Lies p t h (binding_set x r.1) r.0

  newest_lies : (x : ℕ) (bs : List (Binding Value)) (r : Value × ℕ) → Typed p t h bs → newest x bs ≡ Some r → Placed x r
  newest_lies x [] r a q = absurd (none_some q)
  newest_lies x (b ∷ bs) r a q = elim (cases_Bool (eqb b.variable x)) [
    | inl i ↦ (let j : (b.thing, b.birthplace) ≡ r = some_inj (sym (cond-true (eqb b.variable x) _ _ i) ∙ q) in
        subst (Placed x) j (subst (λ s. Lies p t h s b.thing) (sym (set_bound x b.birthplace a.0)) a.1))
    | inr i ↦ newest_lies x bs r a.2 (sym (cond-false (eqb b.variable x) _ _ i) ∙ q)
  ]

  -- what a look answers lies in the set of its binding
  pub seen_lies : (m : Meaning Value) (x : ℕ) (r : Value × ℕ) → Typed p t h m.bindings → TopTyped p t h m.top → seen m x ≡ Some r → Lies p t h (binding_set x r.1) r.0
  seen_lies m x r a b q = go (newest x m.bindings) refl (get_or m.top x None) refl q
    where
      go : (o : Option (Value × ℕ)) → newest x m.bindings ≡ o → (w : Option Value) → get_or m.top x None ≡ w → or_else o (outermost w) ≡ Some r → Placed x r
      go None e None f i = absurd (none_some i)
      go None e (Some v) f i = subst (Placed x) (some_inj i) (subst (λ s. Lies p t h s v) (sym (set_top x 0 refl)) (b x v f))
      go (Some u) e w f i = newest_lies x m.bindings r a (e ∙ i)

  pub put_typed : (x : ℕ) (v : Value) (bs : List (Binding Value)) → Typed p t h bs → Lies p t h (binding_set x (birth x bs)) v → Typed p t h (replaced x v bs)
  put_typed x v [] a = λ i. tt
  put_typed x v (b ∷ bs) a = elim (eqb b.variable x) as (λ d. Lies p t h (binding_set x (birthplace_in (cond d (Some (b.thing, b.birthplace)) (newest x bs)))) v
      → Typed p t h (cond d (record { variable = b.variable; thing = v; birthplace = b.birthplace } ∷ bs) (b ∷ replaced x v bs))) [
        | true ↦ (λ i. (a.0, subst (λ s. Lies p t h s v) (set_bound x b.birthplace a.0) i, a.2))
        | false ↦ (λ i. (a.0, a.1, put_typed x v bs a.2 i))
      ]

  set_typed_from : (n x : ℕ) (v : Value) (top : List (Option Value)) → ((y : ℕ) (w : Value) → get_or top y None ≡ Some w → Lies p t h (top_set (n + y)) w) → Lies p t h (top_set (n + x)) v
      → (y : ℕ) (w : Value) → get_or (set top x (Some v)) y None ≡ Some w → Lies p t h (top_set (n + y)) w
  set_typed_from n x v [] f i y w q = f y w q
  set_typed_from n zero v (o ∷ top) f i zero w q = subst (λ u. Lies p t h (top_set (n + 0)) u) (some_inj q) i
  set_typed_from n zero v (o ∷ top) f i (suc y) w q = f (suc y) w q
  set_typed_from n (suc x) v (o ∷ top) f i zero w q = f 0 w q
  set_typed_from n (suc x) v (o ∷ top) f i (suc y) w q =
      let a : n + suc y ≡ suc n + y = omega arith in
      let b : n + suc x ≡ suc n + x = omega arith in
      subst (λ u. Lies p t h (top_set u) w) (sym a) (set_typed_from (suc n) x v top
      (λ z u e. let c : n + suc z ≡ suc n + z = omega arith in subst (λ k. Lies p t h (top_set k) u) c (f (suc z) u e))
      (subst (λ u. Lies p t h (top_set u) v) b i) y w q)

  pub set_typed : (x : ℕ) (v : Value) (top : List (Option Value)) → TopTyped p t h top → Lies p t h (top_set x) v → TopTyped p t h (set top x (Some v))
  set_typed x v top f i y w q =
      let a : 0 + y ≡ y = omega arith in
      let b : 0 + x ≡ x = omega arith in
      subst (λ u. Lies p t h (top_set u) w) a (set_typed_from 0 x v top (λ z u e. let c : 0 + z ≡ z = omega arith in subst (λ k. Lies p t h (top_set k) u) (sym c) (f z u e)) (subst (λ u. Lies p t h (top_set u) v) (sym b) i) y w q)

  -- an assignment keeps the top level so
  pub put_top_typed : (x : ℕ) (v : Value) (m : Meaning Value) → TopTyped p t h m.top → Lies p t h (binding_set x (birth x m.bindings)) v → TopTyped p t h (assigned m x v).top
  put_top_typed x v m f i = go (newest x m.bindings) i
    where
      go : (o : Option (Value × ℕ)) → Lies p t h (binding_set x (birthplace_in o)) v → TopTyped p t h (cond (is_some o) m.top (set m.top x (Some v)))
      go None j = set_typed x v m.top f (subst (λ s. Lies p t h s v) (set_top x 0 refl) j)
      go (Some r) j = f
