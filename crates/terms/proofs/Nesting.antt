-- Spans lie one inside the other or apart; binders are labels below the entry, of variables below 32.
use Rattle.std.proofs.Common.{◌≡◌, ℕ, zero, suc, ◌<◌, ◌≤◌, true, cond, ◌&&◌, eqb, ltb, leb, ◌⊎◌, List, [], ◌∷◌, ◌++◌, is_some, Some, None, Option, sym, refl, ap, ◌∙◌, inl, inr, arith}
use Rattle.std.proofs.lemmas.List.{get_or_past}
use Rattle.std.proofs.lemmas.Bool.{false≢true, and_parts, and_from, leb-true, le-leb, ltb-true, eqb-true, cases_lt, cases_eq, cases_Bool}
use Rattle.terms.specs.declared.term.Term.{Term}
use Rattle.terms.specs.declared.term.Term.TheVariants.{Number, Quote, Lambda, Variable, Setq, Let, If, Apply, Cons, Car, Cdr, Add, Same}
use Rattle.terms.specs.declared.term.Definition.{Definition}
use Rattle.terms.specs.declared.term.Definition.TheVariants.{Input, Defvar, Defun}
use Rattle.terms.specs.Syntax.{children, symbol_of}
use Rattle.terms.specs.Script.{Script, last, term_at, term, first, spans, bound_by, lambda_variable, or_else, defun_parameter, binds, parameter, is_body, occurs}
use Rattle.terms.specs.Form.{definitions_right, roots}
use Rattle.terms.specs.WellFormed.{Cover, WellFormed}

never : {A : Type 0} {x : A} → None ≡ Some x → ⊥
never e = absurd cc

pub spans_in : (p : Script) (b l : ℕ) → first p b ≤ l → l ≤ b → spans p b l ≡ true
unfolding spans
spans_in p b l low high = and_from _ _ (le-leb (first p b) l low) (le-leb l b high)

pub spans_out : (p : Script) (b l : ℕ) → spans p b l ≡ true → (first p b ≤ l) × (l ≤ b)
unfolding spans
spans_out p b l h = let q = and_parts (leb (first p b) l) (leb l b) h in (leb-true (first p b) l q.0, leb-true l b q.1)

-- ---- covers
pub cover_le : (f : ℕ → ℕ) (a : ℕ) (cs : List ℕ) (z : ℕ) → Cover f a cs z → a ≤ z
cover_le f a [] z v = omega arith
cover_le f a (c ∷ cs) z v = let r : suc c ≤ z = cover_le f (suc c) cs z v.2 in omega (arith, v.1)

pub record Child (f : ℕ → ℕ) (a b z : ℕ) : Type 0 where
  pub child : ℕ
  pub from : a ≤ f child
  pub low : f child ≤ b
  pub high : b ≤ child
  pub below : child < z

cover_child : (f : ℕ → ℕ) (a : ℕ) (cs : List ℕ) (z b : ℕ) → Cover f a cs z → a ≤ b → b < z → Child f a b z
cover_child f a [] z b v low high = absurd (omega arith)
cover_child f a (c ∷ cs) z b v low high = elim (cases_lt c b) [
  | inl h ↦ (let r = cover_child f (suc c) cs z b v.2 h high in
      record { child = r.child; from = omega (arith, v.1, r.from); low = r.low; high = r.high; below = r.below })
  | inr h ↦ (let r : suc c ≤ z = cover_le f (suc c) cs z v.2 in
      record { child = c; from = omega (arith, v.0); low = omega (arith, v.0); high = h; below = r })
]

cover_last : (f : ℕ → ℕ) (a : ℕ) (cs : List ℕ) (l z : ℕ) → Cover f a (cs ++ (l ∷ [])) z → a ≤ l
cover_last f a [] l z v = v.1
cover_last f a (c ∷ cs) l z v = let r : suc c ≤ l = cover_last f (suc c) cs l z v.2 in omega (arith, v.1)

module _ (p : Script) (w : WellFormed p) where
  -- what lies in the span of c begins in it
  within : (n b c : ℕ) → c ≤ n → 1 ≤ c → c ≤ last p → b < c → first p c ≤ b → first p c ≤ first p b
  within zero b c s low high lt from = absurd (omega arith)
  within (suc n) b c s low high lt from =
      let d = cover_child (first p) (first p c) (children (term p c)) c b (w.covered c low high) from lt in
      let one : 1 ≤ first p c = w.begins c low high in
      elim (cases_eq b d.child) [
        | inl e ↦ (let k : first p b ≡ first p d.child = ap (first p) e in omega (arith, d.from))
        | inr ne ↦ (let r : first p d.child ≤ first p b = within n b d.child (omega (arith, d.below)) (omega (arith, d.from, d.low, d.high)) (omega (arith, d.below)) (omega (arith, d.high)) d.low in
            omega (arith, d.from))
      ]

  pub nested : (b c : ℕ) → 1 ≤ c → c ≤ last p → b < c → first p c ≤ b → first p c ≤ first p b
  nested b c = within c b c (omega arith)

  -- ---- binders
  -- the last child of a form that binds is one below it
  body_some : (t : Term) (a b : ℕ) → is_some (bound_by t) ≡ true → Cover (first p) a (children t) (suc b) → a ≤ b
  body_some (Number n) a b h v = absurd cc
  body_some (Quote s) a b h v = absurd cc
  body_some (Lambda x c) a b h v = omega (arith, v.1, v.2)
  body_some (Variable x) a b h v = absurd cc
  body_some (Setq x c) a b h v = absurd cc
  body_some (Let x c d) a b h v = omega (arith, v.1, v.2.1, v.2.2)
  body_some (If c d e) a b h v = absurd cc
  body_some (Apply c d) a b h v = absurd cc
  body_some (Cons c d) a b h v = absurd cc
  body_some (Car c) a b h v = absurd cc
  body_some (Cdr c) a b h v = absurd cc
  body_some (Add c d) a b h v = absurd cc
  body_some (Same c d) a b h v = absurd cc

  past_last : (l : ℕ) → last p < suc l → term p (suc l) ≡ Quote 0
  unfolding term_at last
  past_last l h = get_or_past p.terms l (Quote 0) (omega arith)

  form_label : (b : ℕ) → is_some (bound_by (term p (suc b))) ≡ true → (1 ≤ b) × (b < last p)
  form_label b h = elim (cases_lt (last p) (suc b)) [
    | inl past ↦ (absurd (false≢true (sym (ap (λ t. is_some (bound_by t)) (past_last b past)) ∙ h)))
    | inr le ↦ (let s : first p (suc b) ≤ b = body_some (term p (suc b)) (first p (suc b)) b h (w.covered (suc b) (omega arith) le) in
        let one : 1 ≤ first p (suc b) = w.begins (suc b) (omega arith) le in
        (omega arith, omega arith))
  ]

  root_label : (ds : List Definition) (a l z b : ℕ) → Cover (first p) a (roots ds ++ (l ∷ [])) z → is_some (defun_parameter ds b) ≡ true → (a ≤ b) × (b < l)
  root_label [] a l z b v h = absurd cc
  root_label (Input x ∷ ds) a l z b v h = root_label ds a l z b v h
  root_label (Defvar x r ∷ ds) a l z b v h =
      let k = root_label ds (suc r) l z b v.2 h in (omega (arith, v.1, k.0), k.1)
  root_label (Defun x y r ∷ ds) a l z b v h = elim (cases_Bool (eqb r b)) [
    | inl e ↦ (let q : r ≡ b = eqb-true r b e in let k : suc r ≤ l = cover_last (first p) (suc r) (roots ds) l z v.2 in (omega (arith, v.1), omega arith))
    | inr e ↦ (let k = root_label ds (suc r) l z b v.2 (sym (ap (λ u. is_some (or_else (cond u (Some y) None) (defun_parameter ds b))) e) ∙ h) in (omega (arith, v.1, k.0), k.1))
  ]

  either : (o q : Option ℕ) → is_some (or_else o q) ≡ true → (is_some o ≡ true) ⊎ (is_some q ≡ true)
  either None q h = inr h
  either (Some x) q h = inl refl

  -- a binder is a label below the entry's
  pub binder_label : (b : ℕ) → is_some (binds p b) ≡ true → (1 ≤ b) × (b < last p)
  unfolding binds
  binder_label b h = elim (either (bound_by (term p (suc b))) (defun_parameter p.definitions b) h) [
    | inl k ↦ form_label b k
    | inr k ↦ root_label p.definitions 1 (last p) (suc (last p)) b w.rooted k
  ]

  -- ---- variables
  bound_names : (t : Term) (x : ℕ) → bound_by t ≡ Some x → symbol_of t ≡ Some x
  bound_names (Number n) x e = absurd cc
  bound_names (Quote s) x e = absurd cc
  bound_names (Lambda y c) x e = e
  bound_names (Variable y) x e = absurd cc
  bound_names (Setq y c) x e = absurd cc
  bound_names (Let y c d) x e = e
  bound_names (If c d f) x e = absurd cc
  bound_names (Apply c d) x e = absurd cc
  bound_names (Cons c d) x e = absurd cc
  bound_names (Car c) x e = absurd cc
  bound_names (Cdr c) x e = absurd cc
  bound_names (Add c d) x e = absurd cc
  bound_names (Same c d) x e = absurd cc

  occurs_names : (t : Term) (x : ℕ) → occurs t ≡ Some x → symbol_of t ≡ Some x
  occurs_names (Number n) x e = absurd cc
  occurs_names (Quote s) x e = absurd cc
  occurs_names (Lambda y c) x e = absurd cc
  occurs_names (Variable y) x e = e
  occurs_names (Setq y c) x e = e
  occurs_names (Let y c d) x e = absurd cc
  occurs_names (If c d f) x e = absurd cc
  occurs_names (Apply c d) x e = absurd cc
  occurs_names (Cons c d) x e = absurd cc
  occurs_names (Car c) x e = absurd cc
  occurs_names (Cdr c) x e = absurd cc
  occurs_names (Add c d) x e = absurd cc
  occurs_names (Same c d) x e = absurd cc

  parameter_below : (v : ℕ) (ds : List Definition) (b x : ℕ) → definitions_right v ds ≡ true → defun_parameter ds b ≡ Some x → x < v
  parameter_below v [] b x h e = absurd cc
  parameter_below v (Input y ∷ ds) b x h e = parameter_below v ds b x (and_parts (ltb y v) _ h).1 e
  parameter_below v (Defvar y r ∷ ds) b x h e = parameter_below v ds b x (and_parts (ltb y v) _ h).1 e
  parameter_below v (Defun y z r ∷ ds) b x h e = elim (cases_Bool (eqb r b)) [
    | inl q ↦ (let k : Some z ≡ Some x = sym (ap (λ u. or_else (cond u (Some z) None) (defun_parameter ds b)) q) ∙ e in
        let f : z ≡ x = cc in
        let s : z < v = ltb-true z v (and_parts (ltb y v) _ (and_parts (ltb y v && ltb z v) _ h).0).1 in omega arith)
    | inr q ↦ (parameter_below v ds b x (and_parts (ltb y v && ltb z v) _ h).1 (sym (ap (λ u. or_else (cond u (Some z) None) (defun_parameter ds b)) q) ∙ e))
  ]

  pub variable_below : (b x : ℕ) → binds p b ≡ Some x → x < 32
  unfolding binds
  variable_below b x e = at (bound_by (term p (suc b))) refl e
    where
      at : (o : Option ℕ) → bound_by (term p (suc b)) ≡ o → or_else o (defun_parameter p.definitions b) ≡ Some x → x < 32
      at None q e = let k : x < p.symbols = parameter_below p.symbols p.definitions b x w.defined e in omega (arith, w.few_symbols)
      at (Some y) q e =
          let s = form_label b (ap is_some q) in
          let k : x < p.symbols = w.names (suc b) x (omega arith) (omega (arith, s.1)) (bound_names (term p (suc b)) x (q ∙ e)) in
          omega (arith, w.few_symbols)

  pub occurrence_below : (l x : ℕ) → 1 ≤ l → l ≤ last p → occurs (term p l) ≡ Some x → x < 32
  occurrence_below l x low high e =
      let k : x < p.symbols = w.names l x low high (occurs_names (term p l) x e) in omega (arith, w.few_symbols)

-- a function body is a binder
lambda_bound : (t : Term) (o : Option ℕ) → is_some (or_else (lambda_variable t) o) ≡ true → is_some (or_else (bound_by t) o) ≡ true
lambda_bound (Number n) o h = h
lambda_bound (Quote s) o h = h
lambda_bound (Lambda y c) o h = h
lambda_bound (Variable y) o h = h
lambda_bound (Setq y c) o h = h
lambda_bound (Let y c d) o h = refl
lambda_bound (If c d f) o h = h
lambda_bound (Apply c d) o h = h
lambda_bound (Cons c d) o h = h
lambda_bound (Car c) o h = h
lambda_bound (Cdr c) o h = h
lambda_bound (Add c d) o h = h
lambda_bound (Same c d) o h = h

pub body_binds : (p : Script) (b : ℕ) → is_body p b ≡ true → is_some (binds p b) ≡ true
unfolding binds parameter
body_binds p b h = lambda_bound (term p (suc b)) (defun_parameter p.definitions b) h
