-- What the making of a program comes to: the scripts that rows are written for, and the label that is refused.
use Rattle.std.specs.Prelude.{◌≡◌, ℕ, ◌<◌, ◌≤◌, List, ◌∷◌, map, length, Some, Ok, Err, slice_index_or}
use Rattle.faults.specs.declared.fault.Fault.TheVariants.{WrongTerm}
use Rattle.terms.specs.declared.raw.RawTerm.{RawTerm}
use Rattle.terms.specs.declared.raw.RawDefinition.{RawDefinition}
use Rattle.terms.specs.Syntax.{children, symbol_of, row, row_of, row_of_definition}
use Rattle.terms.specs.Script.{Script, term_at, first_at}
use Rattle.terms.specs.Form.{term_of, program_of}
use Rattle.terms.specs.WellFormed.{Cover, WellFormed}

-- the rows are those that are written for the script p, which keeps the rules of form
pub record Written (rows : List RawTerm) (v : ℕ) (ds : List RawDefinition) (p : Script) : Type 0 where
  pub terms_written : rows ≡ map row_of p.terms
  pub symbols_written : v ≡ p.symbols
  pub definitions_written : ds ≡ map row_of_definition p.definitions
  pub formed : WellFormed p

-- a program is made exactly from the rows that are written for a well-formed script, and it is that script
abbrev pub Exactly : List RawTerm → ℕ → List RawDefinition → Type 0
Exactly rows v ds = (p : Script) → (program_of rows v ds ≡ Ok p → Written rows v ds p) × (Written rows v ds p → program_of rows v ds ≡ Ok p)

-- the row with label l, where labels begin at 1
abbrev pub row_at : List RawTerm → ℕ → RawTerm
row_at rows l = slice_index_or (row 0 0 0 0 ∷ rows) l (row 0 0 0 0)

-- row l is written for the term that it stands for, which names a symbol below v and whose children's spans cover its own
pub record RightRow (rows : List RawTerm) (v l : ℕ) : Type 0 where
  pub written : row_at rows l ≡ row_of (term_at (map term_of rows) l)
  pub names : (x : ℕ) → symbol_of (term_at (map term_of rows) l) ≡ Some x → x < v
  pub begins : 1 ≤ first_at (map term_of rows) l
  pub covered : Cover (first_at (map term_of rows)) (first_at (map term_of rows) l) (children (term_at (map term_of rows) l)) l

-- row l is not right, and every row before it is
pub record RefusedAt (rows : List RawTerm) (v l : ℕ) : Type 0 where
  pub low : 1 ≤ l
  pub high : l ≤ length rows
  pub wrong : RightRow rows v l → ⊥
  pub before : (m : ℕ) → 1 ≤ m → m < l → RightRow rows v m

-- where a label is refused, it is the first whose row is not right
abbrev pub FirstWrong : List RawTerm → ℕ → List RawDefinition → Type 0
FirstWrong rows v ds = (l : ℕ) → program_of rows v ds ≡ Err (WrongTerm l) → RefusedAt rows v l
