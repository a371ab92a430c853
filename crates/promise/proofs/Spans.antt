-- Which binders' spans hold what: operands, bodies and roots.
use Rattle.std.proofs.Common.{◌≡◌, ℕ, zero, suc, ◌<◌, ◌≤◌, true, false, cond, eqb, ◌⊎◌, List, [], ◌∷◌, ◌++◌, is_some, Some, None, Option, sym, refl, ap, ◌∙◌, subst, inl, inr, arith}
use Rattle.std.proofs.lemmas.Bool.{eqb-true, ne_eqb, false≢true, cases_Bool, cases_eq, cases_lt}
use Rattle.terms.specs.declared.term.Term.{Term}
use Rattle.terms.specs.declared.term.Term.TheVariants.{Number, Quote, Lambda, Variable, Setq, Let, If, Apply, Cons, Car, Cdr, Add, Same}
use Rattle.terms.specs.declared.term.Definition.{Definition}
use Rattle.terms.specs.declared.term.Definition.TheVariants.{Input, Defvar, Defun}
use Rattle.terms.specs.Syntax.{children}
use Rattle.terms.specs.Script.{Script, last, term, first, spans, bound_by, lambda_variable, or_else, defun_parameter, binds, parameter}
use Rattle.terms.specs.Form.{roots}
use Rattle.terms.specs.WellFormed.{Cover, WellFormed}
use Rattle.terms.proofs.Firsts.{first_le}
use Rattle.terms.proofs.Nesting.{spans_in, spans_out, nested, binder_label}
use Rattle.machine.proofs.Variables.{none_some, past_end, at_zero}

-- the spans of binders that hold l are those that hold m
abbrev pub Up : Script → ℕ → ℕ → Type 0
Up p l m = (o : ℕ) → is_some (binds p o) ≡ true → (spans p o l ≡ true → spans p o m ≡ true) × (spans p o m ≡ true → spans p o l ≡ true)

-- no binder's span holds the root
abbrev pub Free : Script → ℕ → Type 0
Free p r = (o : ℕ) → is_some (binds p o) ≡ true → spans p o r ≡ true → ⊥

abbrev pub Member : ℕ → List ℕ → Type 0
Member c [] = ⊥
Member c (d ∷ ds) = (c ≡ d) ⊎ Member c ds

-- a definition among others
abbrev pub Among : Definition → List Definition → Type 0
Among d [] = ⊥
Among d (e ∷ ds) = (d ≡ e) ⊎ Among d ds

-- ---- covers; f gives first labels
module _ (f : ℕ → ℕ) where
  cover_le : (a : ℕ) (cs : List ℕ) (z : ℕ) → Cover f a cs z → a ≤ z
  cover_le a [] z v = omega arith
  cover_le a (c ∷ cs) z v = let r : suc c ≤ z = cover_le (suc c) cs z v.2 in omega (arith, v.1)

  record Bounds (a c z : ℕ) : Type 0 where
    pub from : a ≤ f c
    pub to : f c ≤ c
    pub below : c < z

  cover_bounds : (a : ℕ) (cs : List ℕ) (z c : ℕ) → Cover f a cs z → Member c cs → Bounds a c z
  cover_bounds a [] z c v m = absurd m
  cover_bounds a (d ∷ cs) z c v (inl e) =
      let r : suc d ≤ z = cover_le (suc d) cs z v.2 in
      let g : f c ≡ a = ap f e ∙ v.0 in
      record { from = omega (arith, g); to = omega (arith, g, v.1, e); below = omega (arith, e) }
  cover_bounds a (d ∷ cs) z c v (inr m) =
      let r = cover_bounds (suc d) cs z c v.2 m in
      record { from = omega (arith, v.1, r.from); to = r.to; below = r.below }

  record Later (c b z : ℕ) : Type 0 where
    pub child : ℕ
    pub low : f child ≤ b
    pub high : b ≤ child
    pub past : c < f child
    pub below : child < z

  cover_at : (a : ℕ) (cs : List ℕ) (z c b : ℕ) → Cover f a cs z → c < a → a ≤ b → b < z → Later c b z
  cover_at a [] z c b v ca lo hi = absurd (omega arith)
  cover_at a (d ∷ cs) z c b v ca lo hi = elim (cases_lt d b) [
    | inl q ↦ cover_at (suc d) cs z c b v.2 (omega (arith, v.1)) q hi
    | inr q ↦ (let r : suc d ≤ z = cover_le (suc d) cs z v.2 in record { child = d; low = omega (arith, v.0); high = q; past = omega (arith, v.0); below = r })
  ]

  -- what lies past the child c lies in a later one
  cover_later : (a : ℕ) (cs : List ℕ) (z c b : ℕ) → Cover f a cs z → Member c cs → c < b → b < z → Later c b z
  cover_later a [] z c b v m lo hi = absurd m
  cover_later a (d ∷ cs) z c b v (inl e) lo hi = cover_at (suc d) cs z c b v.2 (omega (arith, e)) (omega (arith, e)) hi
  cover_later a (d ∷ cs) z c b v (inr m) lo hi = cover_later (suc d) cs z c b v.2 m lo hi

  before_last : (a : ℕ) (cs : List ℕ) (y z c : ℕ) → Cover f a (cs ++ (y ∷ [])) z → Member c cs → c < y
  before_last a [] y z c v m = absurd m
  before_last a (d ∷ cs) y z c v (inl e) = let r = cover_bounds (suc d) (cs ++ (y ∷ [])) z y v.2 (end cs) in omega (arith, r.from, r.to, e)
    where
      end : (us : List ℕ) → Member y (us ++ (y ∷ []))
      end [] = inl refl
      end (u ∷ us) = inr (end us)
  before_last a (d ∷ cs) y z c v (inr m) = before_last (suc d) cs y z c v.2 m

-- ---- operands and bodies
abbrev pub operands : Term → List ℕ
operands (Number n) = []
operands (Quote s) = []
operands (Lambda x b) = []
operands (Variable x) = []
operands (Setq x b) = b ∷ []
operands (Let x b c) = b ∷ []
operands (If a b c) = a ∷ b ∷ c ∷ []
operands (Apply a b) = a ∷ b ∷ []
operands (Cons a b) = a ∷ b ∷ []
operands (Car a) = a ∷ []
operands (Cdr a) = a ∷ []
operands (Add a b) = a ∷ b ∷ []
operands (Same a b) = a ∷ b ∷ []

operand_child : (tm : Term) (l : ℕ) → Member l (operands tm) → Member l (children tm)
operand_child (Number n) l m = m
operand_child (Quote s) l m = m
operand_child (Lambda x b) l m = absurd m
operand_child (Variable x) l m = m
operand_child (Setq x b) l m = m
operand_child (Let x b c) l (inl e) = inl e
operand_child (Let x b c) l (inr m) = absurd m
operand_child (If a b c) l m = m
operand_child (Apply a b) l m = m
operand_child (Cons a b) l m = m
operand_child (Car a) l m = m
operand_child (Cdr a) l m = m
operand_child (Add a b) l m = m
operand_child (Same a b) l m = m

-- the last child of a form that binds is one below it, and no operand is it
record Bodied (tm : Term) (z : ℕ) : Type 0 where
  pub body : ℕ
  pub next : suc body ≡ z
  pub child : Member body (children tm)
  pub apart : (l : ℕ) → Member l (operands tm) → l < body

bodied : (f : ℕ → ℕ) (a z : ℕ) (tm : Term) → is_some (bound_by tm) ≡ true → Cover f a (children tm) z → Bodied tm z
bodied f a z (Number n) e v = absurd (false≢true e)
bodied f a z (Quote s) e v = absurd (false≢true e)
bodied f a z (Lambda y b) e v = record { body = b; next = v.2; child = inl refl; apart = λ l m. absurd m }
bodied f a z (Variable y) e v = absurd (false≢true e)
bodied f a z (Setq y b) e v = absurd (false≢true e)
bodied f a z (Let y b c) e v = record { body = c; next = v.2.2; child = inr (inl refl); apart = λ l m. elim m [ inl q ↦ (omega (arith, q, v.2.1)) | inr r ↦ absurd r ] }
bodied f a z (If u b c) e v = absurd (false≢true e)
bodied f a z (Apply u b) e v = absurd (false≢true e)
bodied f a z (Cons u b) e v = absurd (false≢true e)
bodied f a z (Car u) e v = absurd (false≢true e)
bodied f a z (Cdr u) e v = absurd (false≢true e)
bodied f a z (Add u b) e v = absurd (false≢true e)
bodied f a z (Same u b) e v = absurd (false≢true e)

-- a let is no lambda: what it binds is no parameter
lambda_bound : (tm : Term) (x : ℕ) → lambda_variable tm ≡ Some x → bound_by tm ≡ Some x
lambda_bound (Number n) x e = e
lambda_bound (Quote s) x e = e
lambda_bound (Lambda y b) x e = e
lambda_bound (Variable y) x e = e
lambda_bound (Setq y b) x e = e
lambda_bound (Let y b c) x e = absurd (none_some e)
lambda_bound (If u b c) x e = e
lambda_bound (Apply u b) x e = e
lambda_bound (Cons u b) x e = e
lambda_bound (Car u) x e = e
lambda_bound (Cdr u) x e = e
lambda_bound (Add u b) x e = e
lambda_bound (Same u b) x e = e

either_some : {A : Type 0} (a b : Option A) → is_some (or_else a b) ≡ true → (is_some a ≡ true) ⊎ (is_some b ≡ true)
either_some (Some x) b e = inl refl
either_some None b e = inr e

-- ---- roots
parameter_root : (ds : List Definition) (b : ℕ) → is_some (defun_parameter ds b) ≡ true → Member b (roots ds)
parameter_root [] b e = absurd (false≢true e)
parameter_root (Input x ∷ ds) b e = parameter_root ds b e
parameter_root (Defvar x r ∷ ds) b e = inr (parameter_root ds b e)
parameter_root (Defun x y r ∷ ds) b e = elim (cases_Bool (eqb r b)) [
  | inl q ↦ inl (sym (eqb-true r b q))
  | inr q ↦ inr (parameter_root ds b (subst (λ u. is_some (or_else (cond u (Some y) None) (defun_parameter ds b)) ≡ true) q e))
]

member_append : (c : ℕ) (xs ys : List ℕ) → Member c xs → Member c (xs ++ ys)
member_append c [] ys m = absurd m
member_append c (x ∷ xs) ys (inl e) = inl e
member_append c (x ∷ xs) ys (inr m) = inr (member_append c xs ys m)

member_end : (c : ℕ) (xs : List ℕ) → Member c (xs ++ (c ∷ []))
member_end c [] = inl refl
member_end c (x ∷ xs) = inr (member_end c xs)

defvar_root : (ds : List Definition) (x r : ℕ) → Among (Defvar x r) ds → Member r (roots ds)
defvar_root [] x r m = absurd m
defvar_root (Input u ∷ ds) x r (inl e) = let z : ◌≡◌ {A = ℕ} 0 1 = cc in absurd (omega arith)
defvar_root (Input u ∷ ds) x r (inr m) = defvar_root ds x r m
defvar_root (Defvar u v ∷ ds) x r (inl e) = inl (cc)
defvar_root (Defvar u v ∷ ds) x r (inr m) = inr (defvar_root ds x r m)
defvar_root (Defun u v w ∷ ds) x r (inl e) = let z : ◌≡◌ {A = ℕ} 0 1 = cc in absurd (omega arith)
defvar_root (Defun u v w ∷ ds) x r (inr m) = inr (defvar_root ds x r m)

-- no root is that of a defvar and of a defun
roots_apart : (f : ℕ → ℕ) (a z : ℕ) (ds : List Definition) (ys : List ℕ) (x r : ℕ) → Cover f a (roots ds ++ ys) z → Among (Defvar x r) ds → is_some (defun_parameter ds r) ≡ true → ⊥
roots_apart f a z [] ys x r v m e = m
roots_apart f a z (Input u ∷ ds) ys x r v (inl q) e = let z : ◌≡◌ {A = ℕ} 0 1 = cc in omega arith
roots_apart f a z (Input u ∷ ds) ys x r v (inr m) e = roots_apart f a z ds ys x r v m e
roots_apart f a z (Defvar u w ∷ ds) ys x r v (inl q) e =
    let i : r ≡ w = cc in
    let b = cover_bounds f (suc w) (roots ds ++ ys) z r v.2 (member_append r (roots ds) ys (parameter_root ds r e)) in omega (arith, b.from, b.to)
roots_apart f a z (Defvar u w ∷ ds) ys x r v (inr m) e = roots_apart f (suc w) z ds ys x r v.2 m e
roots_apart f a z (Defun u y w ∷ ds) ys x r v (inl q) e = let z : ◌≡◌ {A = ℕ} 0 1 = cc in omega arith
roots_apart f a z (Defun u y w ∷ ds) ys x r v (inr m) e =
    let b = cover_bounds f (suc w) (roots ds ++ ys) z r v.2 (member_append r (roots ds) ys (defvar_root ds x r m)) in
    let q : eqb w r ≡ false = ne_eqb w r (λ i. omega (arith, b.from, b.to, i)) in
    roots_apart f (suc w) z ds ys x r v.2 m (subst (λ i. is_some (or_else (cond i (Some y) None) (defun_parameter ds r)) ≡ true) q e)

-- a label with a child is one of the script's
has_child : (p : Script) (m l : ℕ) → Member l (children (term p m)) → (1 ≤ m) × (m ≤ last p)
has_child p zero l k = absurd (subst (λ tm. Member l (children tm)) (at_zero p) k)
has_child p (suc m) l k = (omega arith, elim (cases_lt (last p) (suc m)) [ inr q ↦ q | inl q ↦ absurd (subst (λ tm. Member l (children tm)) (past_end p (suc m) q) k) ])

module _ (p : Script) (W : WellFormed p) where
  -- what lies in the span of b begins in it
  laminar : (b m : ℕ) → 1 ≤ b → b ≤ last p → first p b ≤ m → m ≤ b → first p b ≤ first p m
  laminar b m low high from to = elim (cases_eq b m) [
    | inl e ↦ (let q : first p b ≡ first p m = ap (first p) e in omega arith)
    | inr ne ↦ nested p W m b low high (omega arith) from
  ]

  child_bounds : (l m : ℕ) → Member l (children (term p m)) → Bounds (first p) (first p m) l m
  child_bounds l m k = let r = has_child p m l k in cover_bounds (first p) (first p m) (children (term p m)) m l (W.covered m r.0 r.1) k

  -- what holds the parent holds the child
  child_down : (l m o : ℕ) → 1 ≤ o → o ≤ last p → Member l (children (term p m)) → spans p o m ≡ true → spans p o l ≡ true
  child_down l m o low high k e =
      let s = spans_out p o m e in
      let b = child_bounds l m k in
      let i = laminar o m low high s.0 s.1 in
      spans_in p o l (omega (arith, b.from, b.to)) (omega (arith, b.below, s.1))

  -- and what holds the child is it or holds the parent
  child_up : (l m o : ℕ) → Member l (children (term p m)) → spans p o l ≡ true → (o ≡ l) ⊎ (spans p o m ≡ true)
  child_up l m o k e = elim (cases_eq o l) [
    | inl q ↦ inl q
    | inr ne ↦ inr (elim (cases_lt o m) [
      | inl q ↦ absurd (
          let h = has_child p m l k in
          let r = cover_later (first p) (first p m) (children (term p m)) m l o (W.covered m h.0 h.1) k (omega (arith, ne, (spans_out p o l e).1)) q in
          let i = laminar r.child o (omega (arith, r.past, r.low, r.high)) (omega (arith, r.below, h.1)) r.low r.high in
          omega (arith, r.past, (spans_out p o l e).0))
      | inr q ↦ spans_in p o m (omega (arith, (spans_out p o l e).0, (child_bounds l m k).below)) q
    ])
  ]

  -- a root is held by no span but its own
  root_top : (r o : ℕ) → Member r (roots p.definitions ++ (last p ∷ [])) → o ≤ last p → spans p o r ≡ true → o ≡ r
  root_top r o k h e = elim (cases_eq o r) [
    | inl q ↦ q
    | inr ne ↦ absurd (
        let s = spans_out p o r e in
        let i = cover_later (first p) 1 (roots p.definitions ++ (last p ∷ [])) (suc (last p)) r o W.rooted k (omega (arith, ne)) (omega arith) in
        let j = laminar i.child o (omega (arith, i.past, i.low, i.high)) (omega (arith, i.below)) i.low i.high in
        omega (arith, i.past, s.0))
  ]

  pub binder_bounds : (o : ℕ) → is_some (binds p o) ≡ true → (1 ≤ o) × (o ≤ last p)
  binder_bounds o e = let b = binder_label p W o e in (b.0, omega (arith, b.1))

  -- the body of a form that binds, which is one above it
  form_body : (o : ℕ) → is_some (bound_by (term p (suc o))) ≡ true → Bodied (term p (suc o)) (suc o)
  form_body o q = elim (cases_lt (last p) (suc o)) [
    | inl h ↦ absurd (false≢true (sym (ap (λ tm. is_some (bound_by tm)) (past_end p (suc o) h)) ∙ q))
    | inr h ↦ bodied (first p) (first p (suc o)) (suc o) (term p (suc o)) q (W.covered (suc o) (omega arith) h)
  ]

  -- a binder is the last child of the next label, or the root of a defun
  binder_cases : (o : ℕ) → is_some (binds p o) ≡ true → Bodied (term p (suc o)) (suc o) ⊎ Member o (roots p.definitions)
  unfolding binds
  binder_cases o e = elim (either_some (bound_by (term p (suc o))) (defun_parameter p.definitions o) e) [
    | inl q ↦ inl (form_body o q)
    | inr q ↦ inr (parameter_root p.definitions o q)
  ]

  -- the form above a body holds it, and no root does
  body_held : (o : ℕ) → Bodied (term p (suc o)) (suc o) → (suc o ≤ last p) × (spans p (suc o) o ≡ true)
  body_held o b =
      let d = child_bounds b.body (suc o) b.child in
      let h = has_child p (suc o) b.body b.child in
      (h.1, spans_in p (suc o) o (omega (arith, d.from, d.to, b.next)) (omega arith))

  not_root : (o : ℕ) → Bodied (term p (suc o)) (suc o) → Member o (roots p.definitions) → ⊥
  not_root o b k =
      let h = body_held o b in
      let i = root_top o (suc o) (member_append o (roots p.definitions) (last p ∷ []) k) h.0 h.1 in
      omega arith

  -- an operand is no binder
  operand_free : (l m : ℕ) → Member l (operands (term p m)) → is_some (binds p l) ≡ true → ⊥
  operand_free l m k e =
      let c = operand_child (term p m) l k in
      let b = child_bounds l m c in
      elim (binder_cases l e) [
        | inl q ↦ elim (child_up l m (suc l) c (body_held l q).1) [
          | inl i ↦ (omega arith)
          | inr i ↦ (
              let s = spans_out p (suc l) m i in
              let j : m ≡ suc l = omega (arith, s.1, b.below) in
              omega (arith, q.next, q.apart l (subst (λ u. Member l (operands (term p u))) j k)))
        ]
        | inr q ↦ (
            let i = root_top l m (member_append l (roots p.definitions) (last p ∷ []) q) (has_child p m l c).1 (spans_in p m l (omega (arith, b.from, b.to)) (omega (arith, b.below))) in
            omega (arith, b.below))
      ]

  pub operand_up : (l m : ℕ) → Member l (operands (term p m)) → Up p l m
  operand_up l m k o e =
      let c = operand_child (term p m) l k in
      let b = binder_bounds o e in (
        λ h. elim (child_up l m o c h) [ inl q ↦ absurd (operand_free l m k (subst (λ u. is_some (binds p u) ≡ true) q e)) | inr q ↦ q ],
        child_down l m o b.0 b.1 c,
      )

  -- a root that is no defun's is held by no binder's span
  root_free : (r : ℕ) → Member r (roots p.definitions ++ (last p ∷ [])) → (is_some (defun_parameter p.definitions r) ≡ true → ⊥) → Free p r
  unfolding binds
  root_free r k nd o e h =
      let i : o ≡ r = root_top r o k (binder_bounds o e).1 h in
      elim (either_some (bound_by (term p (suc o))) (defun_parameter p.definitions o) e) [
        | inl q ↦ (
            let z = body_held o (form_body o q) in
            let j = root_top r (suc o) k z.0 (subst (λ u. spans p (suc o) u ≡ true) i z.1) in
            omega arith)
        | inr q ↦ nd (subst (λ u. is_some (defun_parameter p.definitions u) ≡ true) i q)
      ]

  pub defvar_free : (x r : ℕ) → Among (Defvar x r) p.definitions → Free p r
  defvar_free x r m =
      root_free r (member_append r (roots p.definitions) (last p ∷ []) (defvar_root p.definitions x r m))
      (roots_apart (first p) 1 (suc (last p)) p.definitions (last p ∷ []) x r W.rooted m)

  pub entry_free : Free p (last p)
  entry_free =
      root_free (last p) (member_end (last p) (roots p.definitions))
      (λ e. let i = before_last (first p) 1 (roots p.definitions) (last p) (suc (last p)) (last p) W.rooted (parameter_root p.definitions (last p) e) in omega arith)

  -- a parameter is what the body binds
  pub parameter_binds : (g y : ℕ) → parameter p g ≡ Some y → binds p g ≡ Some y
  unfolding parameter binds
  parameter_binds g y e = at (lambda_variable (term p (suc g))) refl e
    where
      none : (o : Option ℕ) → bound_by (term p (suc g)) ≡ o → defun_parameter p.definitions g ≡ Some y → or_else o (defun_parameter p.definitions g) ≡ Some y
      none None q e = e
      none (Some x) q e = absurd (not_root g (form_body g (ap is_some q)) (parameter_root p.definitions g (ap is_some e)))

      at : (o : Option ℕ) → lambda_variable (term p (suc g)) ≡ o → or_else o (defun_parameter p.definitions g) ≡ Some y → or_else (bound_by (term p (suc g))) (defun_parameter p.definitions g) ≡ Some y
      at None q e = none (bound_by (term p (suc g))) refl e
      at (Some x) q e = ap (λ o. or_else o (defun_parameter p.definitions g)) (lambda_bound (term p (suc g)) x q) ∙ e

  pub let_binds : (m x b c : ℕ) → term p m ≡ Let x b c → binds p c ≡ Some x
  unfolding binds
  let_binds m x b c e =
      let h = has_child p m c (subst (λ tm. Member c (children tm)) (sym e) (inr (inl refl))) in
      let v = subst (λ tm. Cover (first p) (first p m) (children tm) m) e (W.covered m h.0 h.1) in
      let q : term p (suc c) ≡ Let x b c = ap (term p) v.2.2 ∙ e in
      ap (λ tm. or_else (bound_by tm) (defun_parameter p.definitions c)) q

  let_child : (m x b c : ℕ) → term p m ≡ Let x b c → Member c (children (term p m))
  let_child m x b c e = subst (λ tm. Member c (children tm)) (sym e) (inr (inl refl))

  pub let_up : (m x b c o : ℕ) → term p m ≡ Let x b c → spans p o c ≡ true → (o ≡ c) ⊎ (spans p o m ≡ true)
  let_up m x b c o e = child_up c m o (let_child m x b c e)

  pub let_down : (m x b c o : ℕ) → term p m ≡ Let x b c → is_some (binds p o) ≡ true → spans p o m ≡ true → spans p o c ≡ true
  let_down m x b c o e h = let r = binder_bounds o h in child_down c m o r.0 r.1 (let_child m x b c e)

  pub self_held : (b : ℕ) → spans p b b ≡ true
  self_held b = spans_in p b b (first_le p.terms b) (omega arith)
