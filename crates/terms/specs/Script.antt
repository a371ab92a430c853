-- A script: its terms by label, first labels and spans, binders and function bodies.
use Rattle.std.specs.Prelude.{ℕ, zero, suc, Bool, false, cond, ◌&&◌, ◌||◌, List, [], ◌∷◌, length, is_some, Some, None, Option, ◌==◌, nat_le, nat_lt, slice_index_or}
use Rattle.terms.specs.declared.term.Term.{Term}
use Rattle.terms.specs.declared.term.Term.TheVariants.{Number, Quote, Lambda, Variable, Setq, Let, If, Apply, Cons, Car, Cdr, Add, Same}
use Rattle.terms.specs.declared.term.Definition.{Definition}
use Rattle.terms.specs.declared.term.Definition.TheVariants.{Input, Defvar, Defun}
use Rattle.terms.specs.Syntax.{children}

-- the terms in the order of their labels, which begin at 1; how many symbols there are; the definitions in order
pub record Script : Type 0 where
  pub terms : List Term
  pub symbols : ℕ
  pub definitions : List Definition

-- the label of the entry term, which is the last
unfoldable pub last : Script → ℕ
last p = length p.terms

-- the term with label l in a table whose labels begin at 1; where there is none, nil quoted
unfoldable pub term_at : List Term → ℕ → Term
term_at ts l = slice_index_or (Quote 0 ∷ ts) l (Quote 0)

abbrev pub term : Script → ℕ → Term
term p l = term_at p.terms l

-- the same, or none
abbrev pub find_term : Script → ℕ → Option Term
find_term p l = cond (nat_le 1 l && nat_le l (last p)) (Some (term p l)) None

-- down the first children, at most n of them; a child stands below its parent
abbrev pub first_in : List Term → ℕ → ℕ → ℕ
first_in ts zero l = l
first_in ts (suc n) l = elim (children (term_at ts l)) [ [] ↦ l | c ∷ cs ↦ cond (nat_lt c l) (first_in ts n c) l ]

-- a term's first label is that of its first child, or its own if it is childless; 0 where no term is
unfoldable pub first_at : List Term → ℕ → ℕ
first_at ts l = cond (nat_le 1 l && nat_le l (length ts)) (first_in ts l l) 0

abbrev pub first : Script → ℕ → ℕ
first p l = first_at p.terms l

-- the span of b runs from its first label to its own: it holds l
unfoldable pub spans : Script → ℕ → ℕ → Bool
spans p b l = nat_le (first p b) l && nat_le l b

-- the variable that a let or a lambda binds in its last child
abbrev pub bound_by : Term → Option ℕ
bound_by (Number n) = None
bound_by (Quote s) = None
bound_by (Lambda x b) = Some x
bound_by (Variable x) = None
bound_by (Setq x b) = None
bound_by (Let x b c) = Some x
bound_by (If a b c) = None
bound_by (Apply a b) = None
bound_by (Cons a b) = None
bound_by (Car a) = None
bound_by (Cdr a) = None
bound_by (Add a b) = None
bound_by (Same a b) = None

-- the variable of a lambda
abbrev pub lambda_variable : Term → Option ℕ
lambda_variable (Number n) = None
lambda_variable (Quote s) = None
lambda_variable (Lambda x b) = Some x
lambda_variable (Variable x) = None
lambda_variable (Setq x b) = None
lambda_variable (Let x b c) = None
lambda_variable (If a b c) = None
lambda_variable (Apply a b) = None
lambda_variable (Cons a b) = None
lambda_variable (Car a) = None
lambda_variable (Cdr a) = None
lambda_variable (Add a b) = None
lambda_variable (Same a b) = None

abbrev pub or_else : {A : Type 0} → Option A → Option A → Option A
or_else (Some a) o = Some a
or_else None o = o

-- the parameter of a defun with root b
abbrev pub parameter_for : Definition → ℕ → Option ℕ
parameter_for (Input x) b = None
parameter_for (Defvar x r) b = None
parameter_for (Defun x y r) b = cond (r == b) (Some y) None

abbrev pub defun_parameter : List Definition → ℕ → Option ℕ
defun_parameter [] b = None
defun_parameter (d ∷ ds) b = or_else (parameter_for d b) (defun_parameter ds b)

-- a binder is the body of a let, lambda or defun: the variable that binder b binds, or none if b is no binder.
-- The body of a let or lambda is its last child, which is one below it.
unfoldable pub binds : Script → ℕ → Option ℕ
binds p b = or_else (bound_by (term p (suc b))) (defun_parameter p.definitions b)

-- what is bound is x: a binder of x is one whose `binds` passes this
abbrev pub binds_variable : Option ℕ → ℕ → Bool
binds_variable None x = false
binds_variable (Some y) x = y == x

-- function bodies are those of lambda and defun: the parameter of the function with body b
unfoldable pub parameter : Script → ℕ → Option ℕ
parameter p b = or_else (lambda_variable (term p (suc b))) (defun_parameter p.definitions b)

abbrev pub is_body : Script → ℕ → Bool
is_body p b = is_some (parameter p b)

-- x is an input of the script
abbrev pub takes_input : Definition → ℕ → Bool
takes_input (Input y) x = y == x
takes_input (Defvar y r) x = false
takes_input (Defun y z r) x = false

abbrev pub input_among : List Definition → ℕ → Bool
input_among [] x = false
input_among (d ∷ ds) x = takes_input d x || input_among ds x

unfoldable pub is_input : Script → ℕ → Bool
is_input p x = input_among p.definitions x

-- an occurrence is a variable or a setq: its variable
abbrev pub occurs : Term → Option ℕ
occurs (Number n) = None
occurs (Quote s) = None
occurs (Lambda x b) = None
occurs (Variable x) = Some x
occurs (Setq x b) = Some x
occurs (Let x b c) = None
occurs (If a b c) = None
occurs (Apply a b) = None
occurs (Cons a b) = None
occurs (Car a) = None
occurs (Cdr a) = None
occurs (Add a b) = None
occurs (Same a b) = None

-- the operands of a cons term
abbrev pub cons_operands : Term → Option (ℕ × ℕ)
cons_operands (Number n) = None
cons_operands (Quote s) = None
cons_operands (Lambda x b) = None
cons_operands (Variable x) = None
cons_operands (Setq x b) = None
cons_operands (Let x b c) = None
cons_operands (If a b c) = None
cons_operands (Apply a b) = None
cons_operands (Cons a b) = Some (a, b)
cons_operands (Car a) = None
cons_operands (Cdr a) = None
cons_operands (Add a b) = None
cons_operands (Same a b) = None
