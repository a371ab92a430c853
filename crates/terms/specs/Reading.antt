-- What the reading of one row answers, from the first labels f that are known so far.
use Rattle.std.specs.Prelude.{◌≡◌, ℕ, suc, Bool, true, false, cond, ◌&&◌, List, [], ◌∷◌, ◌++◌, map, length, Some, None, Option, ◌==◌, nat_le}
use Rattle.faults.specs.declared.fault.Fault.{Fault}
use Rattle.faults.specs.declared.fault.Fault.TheVariants.{WrongTerm, WrongDefinitions}
use Rattle.terms.specs.declared.raw.RawTerm.{RawTerm}
use Rattle.terms.specs.declared.raw.RawDefinition.{RawDefinition}
use Rattle.terms.specs.declared.term.Term.{Term}
use Rattle.terms.specs.declared.term.Definition.{Definition}
use Rattle.terms.specs.Syntax.{children, symbol_of, decode, decode_definition, root_of}
use Rattle.terms.specs.declared.table.Node.{Node}
use Rattle.terms.specs.declared.table.Table.{Table}
use Rattle.terms.specs.Script.{first_at}
use Rattle.terms.specs.Table.{terms_in}
use Rattle.terms.specs.Form.{symbol_right, definition_right, term_of, definition_of, wrong_from, all_decode, script_right}

-- the first label of c, if c is a label just below what begins at a
abbrev pub ends_below : (ℕ → ℕ) → ℕ → ℕ → Option ℕ
ends_below f c a = cond (nat_le 1 c && suc c == a) (Some (f c)) None

-- the same, or a itself where there is no such label
abbrev pub passed : (ℕ → ℕ) → Option ℕ → ℕ → Option ℕ
passed f None a = Some a
passed f (Some c) a = ends_below f c a

abbrev pub joined : (ℕ → ℕ) → ℕ → Option ℕ → Option ℕ
joined f c None = None
joined f c (Some a) = ends_below f c a

-- where children begin that end just below l, from the last to the first
abbrev pub opening : (ℕ → ℕ) → List ℕ → ℕ → Option ℕ
opening f [] l = Some l
opening f (c ∷ cs) l = joined f c (opening f cs l)

abbrev pub with_first : Term → ℕ → Node
with_first t a = record { term = t; first = a }

abbrev pub beginning : Term → Option ℕ → Option Node
beginning t None = None
beginning t (Some a) = Some (with_first t a)

-- a term that names symbols below v alone
abbrev pub named : ℕ → Option Term → Option Term
named v None = None
named v (Some t) = cond (symbol_right v (symbol_of t)) (Some t) None

abbrev pub term_read : (ℕ → ℕ) → ℕ → ℕ → Option Term → Option Node
term_read f v l None = None
term_read f v l (Some t) = cond (symbol_right v (symbol_of t)) (beginning t (opening f (children t) l)) None

-- the term that row r stands for at label l, and its first label
abbrev pub read_term : (ℕ → ℕ) → ℕ → RawTerm → ℕ → Option Node
read_term f v r l = term_read f v l (decode r)

abbrev pub root_read : (ℕ → ℕ) → ℕ → Definition → Option ℕ → Option (Definition × ℕ)
root_read f a d None = Some (d, a)
root_read f a d (Some c) = cond (f c == a) (Some (d, suc c)) None

abbrev pub definition_read : (ℕ → ℕ) → ℕ → ℕ → Option Definition → Option (Definition × ℕ)
definition_read f v a None = None
definition_read f v a (Some d) = cond (definition_right v d) (root_read f a d (root_of d)) None

-- the definition that row r stands for, where the labels below a are covered, and up to where they are covered then
abbrev pub read_definition : (ℕ → ℕ) → ℕ → ℕ → RawDefinition → Option (Definition × ℕ)
read_definition f v a r = definition_read f v a (decode_definition r)

-- the reading of the row that comes after a table
abbrev pub next_read : Table → RawTerm → Option Node
next_read t r = read_term (first_at (terms_in t.nodes.items)) t.symbols r (suc (length t.nodes.items))

-- row r is read, and its node is the next of the table
pub record NextRead (old : Table) (r : RawTerm) (new : Table) : Type 0 where
  pub node : Node
  pub is : next_read old r ≡ Some node
  pub nodes : new.nodes.items ≡ old.nodes.items ++ (node ∷ [])
  pub symbols : new.symbols ≡ old.symbols

-- row r breaks the rules, and e names its label
abbrev pub NextWrong : Table → RawTerm → Fault → Type 0
NextWrong t r e = (next_read t r ≡ None) × (e ≡ WrongTerm (suc (length t.nodes.items)))

-- no row is wrong, and the table has the terms of the rows
pub record TermsRead (rows : List RawTerm) (v : ℕ) (table : Table) : Type 0 where
  pub right : wrong_from v (map term_of rows) 1 rows ≡ None
  pub read : terms_in table.nodes.items ≡ map term_of rows
  pub symbols : table.symbols ≡ v

-- e names the first wrong label
abbrev pub NamesWrong : List RawTerm → ℕ → Fault → Type 0
NamesWrong rows v e = (l : ℕ) × (wrong_from v (map term_of rows) 1 rows ≡ Some l) × (e ≡ WrongTerm l)

-- whether the definitions keep the rules, with the terms of the table
abbrev pub defined_right : List RawDefinition → Table → Bool
defined_right rows t = all_decode rows && script_right (first_at (terms_in t.nodes.items)) t.symbols 1 (map definition_of rows) (length t.nodes.items)

-- the definitions keep the rules, and are read
abbrev pub DefinitionsRead : List RawDefinition → Table → List Definition → Type 0
DefinitionsRead rows t ds = (defined_right rows t ≡ true) × (ds ≡ map definition_of rows)

abbrev pub DefinitionsWrong : List RawDefinition → Table → Fault → Type 0
DefinitionsWrong rows t e = (defined_right rows t ≡ false) × (e ≡ WrongDefinitions)
