-- The rules of form: which tables make a program, and where the first wrong place is.
use Rattle.std.specs.Prelude.{ℕ, zero, suc, Bool, true, cond, ◌&&◌, List, [], ◌∷◌, ◌++◌, map, length, is_some, Some, None, Ok, Err, Option, Result, ◌==◌, nat_le, nat_lt}
use Rattle.std.specs.Option.{unwrap_or}
use Rattle.faults.specs.declared.fault.Fault.{Fault}
use Rattle.faults.specs.declared.fault.Fault.TheVariants.{ProgramSizes, WrongTerm, WrongDefinitions}
use Rattle.terms.specs.declared.raw.RawTerm.{RawTerm}
use Rattle.terms.specs.declared.raw.RawDefinition.{RawDefinition}
use Rattle.terms.specs.declared.term.Term.{Term}
use Rattle.terms.specs.declared.term.Term.TheVariants.{Quote}
use Rattle.terms.specs.declared.term.Definition.{Definition}
use Rattle.terms.specs.declared.term.Definition.TheVariants.{Input, Defvar, Defun}
use Rattle.terms.specs.Syntax.{children, symbol_of, decode, decode_definition}
use Rattle.terms.specs.Script.{Script, term_at, first_at}

-- a script has 1 to 255 terms, 2 to 32 symbols and at most 31 definitions
abbrev pub sizes_right : ℕ → ℕ → ℕ → Bool
sizes_right terms symbols definitions =
    nat_le 1 terms && (nat_le terms 255 && (nat_le 2 symbols && (nat_le symbols 32 && nat_le definitions 31)))

-- a symbol is a number below v
abbrev pub symbol_right : ℕ → Option ℕ → Bool
symbol_right v None = true
symbol_right v (Some x) = nat_lt x v

-- children, c the first of them, are labels; the last child of l is one below l, an earlier one is one below the first label of the next
abbrev pub chained_from : (ℕ → ℕ) → ℕ → List ℕ → ℕ → Bool
chained_from f c [] l = nat_le 1 c && suc c == l
chained_from f c (d ∷ cs) l = nat_le 1 c && (suc c == f d && chained_from f d cs l)

abbrev pub chained : (ℕ → ℕ) → List ℕ → ℕ → Bool
chained f [] l = true
chained f (c ∷ cs) l = chained_from f c cs l

-- the term with label l keeps the rules, where there are v symbols
unfoldable pub term_right : ℕ → List Term → ℕ → Bool
term_right v ts l = symbol_right v (symbol_of (term_at ts l)) && chained (first_at ts) (children (term_at ts l)) l

abbrev pub definition_right : ℕ → Definition → Bool
definition_right v (Input x) = nat_lt x v
definition_right v (Defvar x r) = nat_lt x v
definition_right v (Defun x y r) = nat_lt x v && nat_lt y v

abbrev pub definitions_right : ℕ → List Definition → Bool
definitions_right v [] = true
definitions_right v (d ∷ ds) = definition_right v d && definitions_right v ds

abbrev pub roots : List Definition → List ℕ
roots [] = []
roots (Input x ∷ ds) = roots ds
roots (Defvar x r ∷ ds) = r ∷ roots ds
roots (Defun x y r ∷ ds) = r ∷ roots ds

-- the spans of these labels, in order, cover what runs from a to just below z, without a gap
abbrev pub covers : (ℕ → ℕ) → ℕ → List ℕ → ℕ → Bool
covers f a [] z = a == z
covers f a (c ∷ cs) z = f c == a && covers f (suc c) cs z

-- the definitions name symbols, and the spans of the roots in order, then of the entry l, cover a to l; f gives first labels
abbrev pub script_right : (ℕ → ℕ) → ℕ → ℕ → List Definition → ℕ → Bool
script_right f v a ds l = definitions_right v ds && covers f a (roots ds ++ (l ∷ [])) (suc l)

-- every term up to label n keeps the rules
abbrev pub terms_right : ℕ → List Term → ℕ → Bool
terms_right v ts zero = true
terms_right v ts (suc n) = term_right v ts (suc n) && terms_right v ts n

-- the rules of form, whole
unfoldable pub well_formed : Script → Bool
well_formed p =
    sizes_right (length p.terms) p.symbols (length p.definitions)
    && (terms_right p.symbols p.terms (length p.terms)
    && script_right (first_at p.terms) p.symbols 1 p.definitions (length p.terms))

-- what a row stands for; a row that stands for nothing is refused below
abbrev pub term_of : RawTerm → Term
term_of r = unwrap_or (decode r) (Quote 0)

abbrev pub definition_of : RawDefinition → Definition
definition_of r = unwrap_or (decode_definition r) (Input 0)

abbrev pub script_of : List RawTerm → ℕ → List RawDefinition → Script
script_of ts v ds = record { terms = map term_of ts; symbols = v; definitions = map definition_of ds }

-- the first label from l on whose row stands for no term, or for one that breaks the rules
abbrev pub wrong_from : ℕ → List Term → ℕ → List RawTerm → Option ℕ
wrong_from v ts l [] = None
wrong_from v ts l (r ∷ rs) = cond (is_some (decode r) && term_right v ts l) (wrong_from v ts (suc l) rs) (Some l)

abbrev pub all_decode : List RawDefinition → Bool
all_decode [] = true
all_decode (r ∷ rs) = is_some (decode_definition r) && all_decode rs

abbrev pub judged : Option ℕ → Bool → Script → Result Script Fault
judged (Some l) ok p = Err (WrongTerm l)
judged None ok p = cond ok (Ok p) (Err WrongDefinitions)

-- the program that rows make, or the refusal: sizes, then the first wrong label, then the definitions
unfoldable pub program_of : List RawTerm → ℕ → List RawDefinition → Result Script Fault
program_of ts v ds =
    cond (sizes_right (length ts) v (length ds))
    (judged (wrong_from v (map term_of ts) 1 ts)
    (all_decode ds && script_right (first_at (map term_of ts)) v 1 (map definition_of ds) (length ts))
    (script_of ts v ds))
    (Err ProgramSizes)
