-- The variables that steps name are below 32.
use Rattle.std.proofs.Common.{◌≡◌, ℕ, zero, suc, ◌<◌, ◌≤◌, true, cond, ◌&&◌, eqb, ltb, List, [], ◌∷◌, Some, None, Option, sym, refl, ap, ◌∙◌, inl, inr, arith}
use Rattle.std.proofs.lemmas.List.{get_or_past}
use Rattle.std.proofs.lemmas.Bool.{cases_lt, cases_Bool, and_parts, or_cases, ltb-true, eqb-true, false≢true}
use Rattle.terms.specs.declared.term.Term.{Term}
use Rattle.terms.specs.declared.term.Term.TheVariants.{Number, Quote, Lambda, Variable, Setq, Let, If, Apply, Cons, Car, Cdr, Add, Same}
use Rattle.terms.specs.declared.term.Definition.{Definition}
use Rattle.terms.specs.declared.term.Definition.TheVariants.{Input, Defvar, Defun}
use Rattle.terms.specs.Syntax.{symbol_of}
use Rattle.terms.specs.Script.{Script, last, term_at, term, parameter, lambda_variable, or_else, defun_parameter, input_among, is_input}
use Rattle.terms.specs.Form.{definitions_right}
use Rattle.terms.specs.WellFormed.{WellFormed}

pub none_some : {A : Type 0} {a : A} → None ≡ Some a → ⊥
none_some e = let z : ◌≡◌ {A = ℕ} 0 1 = cc in omega arith

-- where there is no term, nil quoted stands
pub past_end : (p : Script) (l : ℕ) → last p < l → term p l ≡ Quote 0
unfolding term_at last
past_end p zero h = refl
past_end p (suc l) h = get_or_past p.terms l (Quote 0) (omega arith)

pub at_zero : (p : Script) → term p 0 ≡ Quote 0
unfolding term_at
at_zero p = refl

lambda_names : (t : Term) (x : ℕ) → lambda_variable t ≡ Some x → symbol_of t ≡ Some x
lambda_names (Number n) x e = absurd (none_some e)
lambda_names (Quote s) x e = absurd (none_some e)
lambda_names (Lambda y c) x e = e
lambda_names (Variable y) x e = absurd (none_some e)
lambda_names (Setq y c) x e = absurd (none_some e)
lambda_names (Let y c d) x e = absurd (none_some e)
lambda_names (If c d f) x e = absurd (none_some e)
lambda_names (Apply c d) x e = absurd (none_some e)
lambda_names (Cons c d) x e = absurd (none_some e)
lambda_names (Car c) x e = absurd (none_some e)
lambda_names (Cdr c) x e = absurd (none_some e)
lambda_names (Add c d) x e = absurd (none_some e)
lambda_names (Same c d) x e = absurd (none_some e)

-- each definition's variable is below v
abbrev pub Low : ℕ → Definition → Type 0
Low v (Input x) = x < v
Low v (Defvar x r) = x < v
Low v (Defun x y r) = (x < v) × (y < v)

abbrev pub AllLow : ℕ → List Definition → Type 0
AllLow v [] = Unit {0}
AllLow v (d ∷ ds) = Low v d × AllLow v ds

right_low : (v : ℕ) (ds : List Definition) → definitions_right v ds ≡ true → AllLow v ds
right_low v [] h = tt
right_low v (Input y ∷ ds) h = let q = and_parts (ltb y v) _ h in (ltb-true y v q.0, right_low v ds q.1)
right_low v (Defvar y r ∷ ds) h = let q = and_parts (ltb y v) _ h in (ltb-true y v q.0, right_low v ds q.1)
right_low v (Defun y z r ∷ ds) h =
    let q = and_parts (ltb y v && ltb z v) _ h in
    let k = and_parts (ltb y v) _ q.0 in
    ((ltb-true y v k.0, ltb-true z v k.1), right_low v ds q.1)

low_more : (v : ℕ) (d : Definition) → v ≤ 32 → Low v d → Low 32 d
low_more v (Input x) h l = omega arith
low_more v (Defvar x r) h l = omega arith
low_more v (Defun x y r) h l = (omega (arith, l.0), omega (arith, l.1))

all_more : (v : ℕ) (ds : List Definition) → v ≤ 32 → AllLow v ds → AllLow 32 ds
all_more v [] h l = tt
all_more v (d ∷ ds) h l = (low_more v d h l.0, all_more v ds h l.1)

input_low : (ds : List Definition) (x : ℕ) → AllLow 32 ds → input_among ds x ≡ true → x < 32
input_low [] x l h = absurd (false≢true h)
input_low (Input y ∷ ds) x l h = elim (or_cases (eqb y x) _ h) [ inl q ↦ (omega (arith, l.0, eqb-true y x q)) | inr q ↦ input_low ds x l.1 q ]
input_low (Defvar y r ∷ ds) x l h = input_low ds x l.1 h
input_low (Defun y z r ∷ ds) x l h = input_low ds x l.1 h

parameter_low : (ds : List Definition) (b y : ℕ) → AllLow 32 ds → defun_parameter ds b ≡ Some y → y < 32
parameter_low [] b y l h = absurd (none_some h)
parameter_low (Input u ∷ ds) b y l h = parameter_low ds b y l.1 h
parameter_low (Defvar u r ∷ ds) b y l h = parameter_low ds b y l.1 h
parameter_low (Defun u z r ∷ ds) b y l h = elim (cases_Bool (eqb r b)) [
  | inl q ↦ (let k : Some z ≡ Some y = sym (ap (λ d. or_else (cond d (Some z) None) (defun_parameter ds b)) q) ∙ h in
      let f : z ≡ y = cc in omega (arith, l.0.1))
  | inr q ↦ parameter_low ds b y l.1 (sym (ap (λ d. or_else (cond d (Some z) None) (defun_parameter ds b)) q) ∙ h)
]

module _ (p : Script) (w : WellFormed p) where
  pub definitions_low : AllLow 32 p.definitions
  definitions_low = all_more p.symbols p.definitions w.few_symbols (right_low p.symbols p.definitions w.defined)

  -- what a term names
  pub named_low : (l x : ℕ) → symbol_of (term p l) ≡ Some x → x < 32
  named_low zero x e = let k : Some 0 ≡ Some x = sym (ap symbol_of (at_zero p)) ∙ e in let z : 0 ≡ x = cc in omega arith
  named_low (suc l) x e = elim (cases_lt (last p) (suc l)) [
    | inl h ↦ (let k : Some 0 ≡ Some x = sym (ap symbol_of (past_end p (suc l) h)) ∙ e in let z : 0 ≡ x = cc in omega arith)
    | inr h ↦ (let k = w.names (suc l) x (omega arith) h e in omega (arith, w.few_symbols))
  ]

  pub parameter_below : (g y : ℕ) → parameter p g ≡ Some y → y < 32
  unfolding parameter
  parameter_below g y e = at (lambda_variable (term p (suc g))) refl e
    where
      at : (o : Option ℕ) → lambda_variable (term p (suc g)) ≡ o → or_else o (defun_parameter p.definitions g) ≡ Some y → y < 32
      at None q e = parameter_low p.definitions g y definitions_low e
      at (Some z) q e = named_low (suc g) y (lambda_names (term p (suc g)) y (q ∙ e))

  pub input_below : (x : ℕ) → is_input p x ≡ true → x < 32
  unfolding is_input
  input_below x e = input_low p.definitions x definitions_low e
