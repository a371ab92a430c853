-- Which tables are accepted, and which part a refusal names: relations, whatever the order in which anything is tried.
use Rattle.std.specs.Prelude.{◌≡◌, ℕ, suc, ◌<◌, true, ◌⊎◌, ◌↔◌, List, [], ◌∷◌, ◌++◌, length, Some, Ok, Err, ◌≢◌}
use Rattle.faults.specs.declared.fault.Fault.{Fault}
use Rattle.faults.specs.declared.fault.Fault.TheVariants.{UnmetClause}
use Rattle.terms.specs.declared.term.Term.{Term}
use Rattle.terms.specs.declared.term.Term.TheVariants.{Number, Quote, Lambda, Variable, Setq, Let, If, Apply, Cons, Car, Cdr, Add, Same}
use Rattle.terms.specs.declared.term.Definition.{Definition}
use Rattle.terms.specs.declared.term.Definition.TheVariants.{Input, Defvar, Defun}
use Rattle.terms.specs.Script.{Script, last, term, parameter, cons_operands}
use Rattle.terms.specs.WellFormed.{WellFormed}
use Rattle.facts.specs.Table.{Within}
use Rattle.facts.specs.Numbering.{symbol_fact, number_fact, function_fact, pair_fact, flow_set, top_set, bound_set}
use Rattle.proposals.specs.Tables.{Tables, in_set, contexts, entry, listed}
use Rattle.proposals.specs.DueForm.{due_form}
use Rattle.proposals.specs.Laws.{DueForm}
use Rattle.clauses.specs.Clauses.{Need, lists, has, within, exists, Part, part, named_set, pair_clause, definition_clause}
use Rattle.clauses.specs.Verdict.{verdict, check_of}

abbrev pub Listed : Tables → ℕ → ℕ → Type 0
Listed t l k = listed t l k ≡ true

abbrev pub Holds : Tables → ℕ → ℕ → Type 0
Holds t s f = in_set t s f ≡ true

-- every fact of set s is in set u
abbrev pub Subset : Tables → ℕ → ℕ → Type 0
Subset t s u = Within t.members s u

-- Row j is k[x:b]: row k with b put at the variable x.
pub record Extends (t : Tables) (k x b j : ℕ) : Type 0 where
  pub row : k < contexts t
  pub variable : x < 32
  pub extended : j < contexts t
  pub put : entry t j x ≡ b
  pub kept : (y : ℕ) → (y ≢ x) → entry t j y ≡ entry t k y

-- The body c of a let or of a function, which binds x, is entered from (l, k) with the value of b: in a context k[x:c] that is listed
-- for it, with the value in the binder's set; and what it returns, (l, k) returns.
pub record Enters (t : Tables) (l k b x c : ℕ) : Type 0 where
  pub inner : ℕ
  pub extends : Extends t k x c inner
  pub body : Listed t c inner
  pub bound : Subset t (flow_set b k) (bound_set c)
  pub returned : Subset t (flow_set c inner) (flow_set l k)

-- Each function g in the operator's set is entered, with its parameter, from (l, k) with the value of b.
abbrev pub Calls : Script → Tables → ℕ → ℕ → ℕ → ℕ → Type 0
Calls p t l k a b = (g y : ℕ) → Holds t (flow_set a k) (function_fact g) → parameter p g ≡ Some y → Enters t l k b y g

-- Of each pair (c, j) in the operand's set, the first (second) operand of c in context j flows to (l, k). A context is below K: past it the number
-- of a pair would be that of another cons term.
abbrev pub FirstHalves : Script → Tables → ℕ → ℕ → ℕ → Type 0
FirstHalves p t l k a =
    (c j u v : ℕ) → j < contexts t → Holds t (flow_set a k) (pair_fact c j) → cons_operands (term p c) ≡ Some (u, v) → Subset t (flow_set u j) (flow_set l k)

abbrev pub SecondHalves : Script → Tables → ℕ → ℕ → ℕ → Type 0
SecondHalves p t l k a =
    (c j u v : ℕ) → j < contexts t → Holds t (flow_set a k) (pair_fact c j) → cons_operands (term p c) ≡ Some (u, v) → Subset t (flow_set v j) (flow_set l k)

-- What the clause of (l, k) says, by the kinds of terms that differ in it; C(l, k) is called the result.
pub record SetqMet (t : Tables) (l k x b : ℕ) : Type 0 where
  pub operand : Listed t b k
  pub assigned : Subset t (flow_set b k) (named_set t x k)
  pub returned : Subset t (flow_set b k) (flow_set l k)

pub record LetMet (t : Tables) (l k x b c : ℕ) : Type 0 where
  pub operand : Listed t b k
  pub entered : Enters t l k b x c

pub record IfMet (t : Tables) (l k a b c : ℕ) : Type 0 where
  pub condition : Listed t a k
  pub then : Listed t b k
  pub otherwise : Listed t c k
  pub then_returned : Subset t (flow_set b k) (flow_set l k)
  pub otherwise_returned : Subset t (flow_set c k) (flow_set l k)

pub record ApplyMet (p : Script) (t : Tables) (l k a b : ℕ) : Type 0 where
  pub operator : Listed t a k
  pub operand : Listed t b k
  pub called : Calls p t l k a b

-- both operands are listed, and the result holds a fact
pub record MakesMet (t : Tables) (l k a b f : ℕ) : Type 0 where
  pub first : Listed t a k
  pub second : Listed t b k
  pub made : Holds t (flow_set l k) f

pub record SameMet (t : Tables) (l k a b : ℕ) : Type 0 where
  pub first : Listed t a k
  pub second : Listed t b k
  pub unlike : Holds t (flow_set l k) (symbol_fact 0)
  pub alike : Holds t (flow_set l k) (symbol_fact 1)

pub record CarMet (p : Script) (t : Tables) (l k a : ℕ) : Type 0 where
  pub operand : Listed t a k
  pub returned : FirstHalves p t l k a

pub record CdrMet (p : Script) (t : Tables) (l k a : ℕ) : Type 0 where
  pub operand : Listed t a k
  pub returned : SecondHalves p t l k a

abbrev pub TermMet : Script → Tables → ℕ → ℕ → Term → Type 0
TermMet p t l k (Number n) = Holds t (flow_set l k) number_fact
TermMet p t l k (Quote s) = Holds t (flow_set l k) (symbol_fact s)
TermMet p t l k (Lambda x b) = Holds t (flow_set l k) (function_fact b)
TermMet p t l k (Variable x) = Subset t (named_set t x k) (flow_set l k)
TermMet p t l k (Setq x b) = SetqMet t l k x b
TermMet p t l k (Let x b c) = LetMet t l k x b c
TermMet p t l k (If a b c) = IfMet t l k a b c
TermMet p t l k (Apply a b) = ApplyMet p t l k a b
TermMet p t l k (Cons a b) = MakesMet t l k a b (pair_fact l k)
TermMet p t l k (Car a) = CarMet p t l k a
TermMet p t l k (Cdr a) = CdrMet p t l k a
TermMet p t l k (Add a b) = MakesMet t l k a b number_fact
TermMet p t l k (Same a b) = SameMet t l k a b

-- the clause of the pair (l, k) is met
abbrev pub PairMet : Script → Tables → ℕ → ℕ → Type 0
PairMet p t l k = TermMet p t l k (term p l)

pub record DefvarMet (t : Tables) (x r : ℕ) : Type 0 where
  pub root : Listed t r 0
  pub defined : Subset t (flow_set r 0) (top_set x)

-- the clause of a definition is met
abbrev pub DefinitionMet : Tables → Definition → Type 0
DefinitionMet t (Input x) = Holds t (top_set x) number_fact
DefinitionMet t (Defvar x r) = DefvarMet t x r
DefinitionMet t (Defun x y r) = Holds t (top_set x) (function_fact r)

abbrev pub DefinitionsMet : Tables → List Definition → Type 0
DefinitionsMet t [] = Unit {0}
DefinitionsMet t (d ∷ ds) = DefinitionMet t d × DefinitionsMet t ds

-- The tables are accepted: they are in due form and every clause is met, of each definition, of the entry and of each listed pair.
pub record Accepted (p : Script) (t : Tables) : Type 0 where
  pub form : DueForm p t
  pub definitions : DefinitionsMet t p.definitions
  pub entry_listed : Listed t (last p) 0
  pub pairs : (l k : ℕ) → Listed t l k → PairMet p t l k

-- ---- refusals
-- a need is met
abbrev pub Met : Tables → Need → Type 0
Met t (lists l k) = Listed t l k
Met t (has s f) = Holds t s f
Met t (within s u) = Subset t s u
Met t (exists k x b) = (j : ℕ) × Extends t k x b j

abbrev pub AllMet : Tables → List Part → Type 0
AllMet t [] = Unit {0}
AllMet t (d ∷ ds) = Met t d.need × AllMet t ds

-- Of these parts the first that is not met has number n: it is not met, and all before it are.
pub record FirstUnmet (t : Tables) (ds : List Part) (n : ℕ) : Type 0 where
  pub earlier : List Part
  pub need : Need
  pub later : List Part
  pub parts : ds ≡ earlier ++ (part n need ∷ later)
  pub met : AllMet t earlier
  pub unmet : Met t need → ⊥

-- the pair (m, j) comes before (l, k)
abbrev pub ComesBefore : ℕ → ℕ → ℕ → ℕ → Type 0
ComesBefore m j l k = (m < l) ⊎ ((m ≡ l) × (j < k))

-- A refusal tells the place and the number of the first part that is not met. Before it come the parts of its own clause that stand before it,
-- and the whole clauses that come before: of definitions in their order, numbered from 1, then of the entry, then of listed pairs by label and context.
pub data Refused (p : Script) (t : Tables) : Fault → Type 0 where
  at_definition : (earlier : List Definition) (d : Definition) (later : List Definition) (n : ℕ) → p.definitions ≡ earlier ++ (d ∷ later)
      → DefinitionsMet t earlier → FirstUnmet t (definition_clause d) n → Refused p t (UnmetClause (suc (length earlier)) 0 0 n)
  at_entry : DefinitionsMet t p.definitions → (Listed t (last p) 0 → ⊥) → Refused p t (UnmetClause (suc (length p.definitions)) 0 0 1)
  at_pair : (l k n : ℕ) → DefinitionsMet t p.definitions → Listed t (last p) 0 → Listed t l k
      → ((m j : ℕ) → ComesBefore m j l k → Listed t m j → PairMet p t m j)
      → FirstUnmet t (pair_clause p t l k) n → Refused p t (UnmetClause 0 l k n)

-- ---- what is proved, for every well-formed script
-- A check accepts exactly the tables that are accepted.
abbrev pub CheckAccepts : Type 0
CheckAccepts = (p : Script) → WellFormed p → (t : Tables) → (check_of p t ≡ Ok tt) ↔ Accepted p t

-- A check that refuses tells what is wrong with their form; or they are in due form, and it names the first part that is not met.
abbrev pub CheckRefuses : Type 0
CheckRefuses = (p : Script) → WellFormed p → (t : Tables) (f : Fault) → (check_of p t ≡ Err f) ↔ ((due_form p t ≡ Err f) ⊎ (DueForm p t × Refused p t f))

-- Of tables in due form the verdict is that they are accepted, exactly if they are,
abbrev pub VerdictAccepts : Type 0
VerdictAccepts = (p : Script) → WellFormed p → (t : Tables) → DueForm p t → (verdict p t ≡ Ok tt) ↔ Accepted p t

-- and else it names the first part that is not met.
abbrev pub VerdictRefuses : Type 0
VerdictRefuses = (p : Script) → WellFormed p → (t : Tables) → DueForm p t → (f : Fault) → (verdict p t ≡ Err f) ↔ Refused p t f
