-- The terms of a script: what a row of the table stands for, children, and the symbol that a term names.
use Rattle.std.specs.Prelude.{ℕ, Bool, cond, ◌&&◌, List, [], ◌∷◌, Some, None, Option, ◌==◌, nat_le}
use Rattle.terms.specs.declared.raw.RawTerm.{RawTerm}
use Rattle.terms.specs.declared.raw.RawDefinition.{RawDefinition}
use Rattle.terms.specs.declared.term.Term.{Term}
use Rattle.terms.specs.declared.term.Term.TheVariants.{Number, Quote, Lambda, Variable, Setq, Let, If, Apply, Cons, Car, Cdr, Add, Same}
use Rattle.terms.specs.declared.term.Definition.{Definition}
use Rattle.terms.specs.declared.term.Definition.TheVariants.{Input, Defvar, Defun}

abbrev pub row : ℕ → ℕ → ℕ → ℕ → RawTerm
row k a b c = record { kind = k; a = a; b = b; c = c }

-- the row that is written for a term: its kind and its numbers, unused ones zero
abbrev pub row_of : Term → RawTerm
row_of (Number n) = row 1 n 0 0
row_of (Quote s) = row 2 s 0 0
row_of (Lambda x b) = row 3 x b 0
row_of (Variable x) = row 4 x 0 0
row_of (Setq x b) = row 5 x b 0
row_of (Let x b c) = row 6 x b c
row_of (If a b c) = row 7 a b c
row_of (Apply a b) = row 8 a b 0
row_of (Cons a b) = row 9 a b 0
row_of (Car a) = row 10 a 0 0
row_of (Cdr a) = row 11 a 0 0
row_of (Add a b) = row 12 a b 0
row_of (Same a b) = row 13 a b 0

abbrev pub only : Bool → Term → Option Term
only b t = cond b (Some t) None

abbrev pub of_kind : ℕ → ℕ → ℕ → ℕ → Option Term
of_kind k a b c =
    cond (k == 2) (only (b == 0 && c == 0) (Quote a))
    (cond (k == 3) (only (c == 0) (Lambda a b))
    (cond (k == 4) (only (b == 0 && c == 0) (Variable a))
    (cond (k == 5) (only (c == 0) (Setq a b))
    (cond (k == 6) (Some (Let a b c))
    (cond (k == 7) (Some (If a b c))
    (cond (k == 8) (only (c == 0) (Apply a b))
    (cond (k == 9) (only (c == 0) (Cons a b))
    (cond (k == 10) (only (b == 0 && c == 0) (Car a))
    (cond (k == 11) (only (b == 0 && c == 0) (Cdr a))
    (cond (k == 12) (only (c == 0) (Add a b))
    (cond (k == 13) (only (c == 0) (Same a b)) None)))))))))))

-- the term that a row stands for: labels and symbols are bytes, a number has 32 bits
abbrev pub decode : RawTerm → Option Term
decode r =
    cond (r.kind == 1) (only (r.b == 0 && r.c == 0) (Number r.a))
    (cond (nat_le r.a 255 && (nat_le r.b 255 && nat_le r.c 255)) (of_kind r.kind r.a r.b r.c) None)

abbrev pub definition_row : ℕ → ℕ → ℕ → ℕ → RawDefinition
definition_row k x y r = record { kind = k; x = x; y = y; root = r }

-- the row that is written for a definition
abbrev pub row_of_definition : Definition → RawDefinition
row_of_definition (Input x) = definition_row 1 x 0 0
row_of_definition (Defvar x r) = definition_row 2 x 0 r
row_of_definition (Defun x y r) = definition_row 3 x y r

abbrev pub definition_of_kind : ℕ → ℕ → ℕ → ℕ → Option Definition
definition_of_kind k x y r =
    cond (k == 1) (cond (y == 0 && r == 0) (Some (Input x)) None)
    (cond (k == 2) (cond (y == 0) (Some (Defvar x r)) None)
    (cond (k == 3) (Some (Defun x y r)) None))

abbrev pub decode_definition : RawDefinition → Option Definition
decode_definition r =
    cond (nat_le r.x 255 && (nat_le r.y 255 && nat_le r.root 255)) (definition_of_kind r.kind r.x r.y r.root) None

abbrev pub root_of : Definition → Option ℕ
root_of (Input x) = None
root_of (Defvar x r) = Some r
root_of (Defun x y r) = Some r

-- a term's children in their order
abbrev pub children : Term → List ℕ
children (Number n) = []
children (Quote s) = []
children (Lambda x b) = b ∷ []
children (Variable x) = []
children (Setq x b) = b ∷ []
children (Let x b c) = b ∷ c ∷ []
children (If a b c) = a ∷ b ∷ c ∷ []
children (Apply a b) = a ∷ b ∷ []
children (Cons a b) = a ∷ b ∷ []
children (Car a) = a ∷ []
children (Cdr a) = a ∷ []
children (Add a b) = a ∷ b ∷ []
children (Same a b) = a ∷ b ∷ []

-- the labels that are there
abbrev pub present : List (Option ℕ) → List ℕ
present [] = []
present (None ∷ cs) = present cs
present (Some c ∷ cs) = c ∷ present cs

-- the symbol that a term quotes, or the variable that it names
abbrev pub symbol_of : Term → Option ℕ
symbol_of (Number n) = None
symbol_of (Quote s) = Some s
symbol_of (Lambda x b) = Some x
symbol_of (Variable x) = Some x
symbol_of (Setq x b) = Some x
symbol_of (Let x b c) = Some x
symbol_of (If a b c) = None
symbol_of (Apply a b) = None
symbol_of (Cons a b) = None
symbol_of (Car a) = None
symbol_of (Cdr a) = None
symbol_of (Add a b) = None
symbol_of (Same a b) = None
