-- When a value lies in a set, and when a report lies inside the tables.
use Rattle.std.specs.Prelude.{◌≡◌, ℕ, ◌<◌, true, List, [], ◌∷◌, Some}
use Rattle.terms.specs.Script.{Script, term, occurs, cons_operands}
use Rattle.facts.specs.Numbering.{symbol_fact, number_fact, function_fact, pair_fact, flow_set}
use Rattle.proposals.specs.Tables.{Tables, in_set, contexts, entry, listed}
use Rattle.values.specs.declared.value.Value.{Value}
use Rattle.values.specs.declared.value.Value.TheVariants.{Number, Symbol, Function, Pair}
use Rattle.values.specs.declared.value.ConsCell.{ConsCell}
use Rattle.values.specs.declared.call.Report.{Report}
use Rattle.values.specs.declared.call.Report.TheVariants.{Plain, Read, Assigned, Ended, Stopped}
use Rattle.machine.specs.Operations.{pair_at}
use Rattle.clauses.specs.Clauses.{binding_set}

-- A number lies in a set that holds 'a number', a symbol or function in one that holds its fact. A pair made by the cons term c lies in a set that
-- for some context j holds the pair (c, j), if its halves lie in C(first operand, j) and C(second operand, j). The pairs of the run are h.
-- A context is below K: past it the number of a pair would be that of another cons term.
pub data Lies (p : Script) (t : Tables) (h : List ConsCell) : ℕ → Value → Type 0 where
  number : {s n : ℕ} → in_set t s number_fact ≡ true → Lies p t h s (Number n)
  symbol : {s a : ℕ} → in_set t s (symbol_fact a) ≡ true → Lies p t h s (Symbol a)
  function : {s g : ℕ} → in_set t s (function_fact g) ≡ true → Lies p t h s (Function g)
  pair : {s n : ℕ} (c : ConsCell) (a b j : ℕ) → pair_at h n ≡ Some c → cons_operands (term p c.cons) ≡ Some (a, b) → j < contexts t
      → in_set t s (pair_fact c.cons j) ≡ true → Lies p t h (flow_set a j) c.first → Lies p t h (flow_set b j) c.second → Lies p t h s (Pair n)

-- The occurrence l met a binding with birthplace b and value v: some context is listed for l that names b at its variable, and the value
-- lies in that binding's set.
pub record Inside (p : Script) (t : Tables) (h : List ConsCell) (l b : ℕ) (v : Value) : Type 0 where
  pub variable : ℕ
  pub occurrence : occurs (term p l) ≡ Some variable
  pub context : ℕ
  pub in_list : listed t l context ≡ true
  pub names : entry t context variable ≡ b
  pub lies : Lies p t h (binding_set variable b) v

-- each read and each assignment
abbrev pub ReportInside : Script → Tables → List ConsCell → Report → Type 0
ReportInside p t h Plain = Unit {0}
ReportInside p t h (Read l b v) = Inside p t h l b v
ReportInside p t h (Assigned l b v) = Inside p t h l b v
ReportInside p t h (Ended v) = Unit {0}
ReportInside p t h (Stopped f) = Unit {0}

abbrev pub AllInside : Script → Tables → List ConsCell → List Report → Type 0
AllInside p t h [] = Unit {0}
AllInside p t h (r ∷ rs) = ReportInside p t h r × AllInside p t h rs
