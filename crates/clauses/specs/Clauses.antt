-- The clauses that a proposal has to meet: for each definition, for the entry and for each listed pair the parts, in the order in which they are tried.
use Rattle.std.specs.Prelude.{ℕ, zero, suc, ◌-◌, ◌/◌, ◌%◌, cond, List, [], ◌∷◌, ◌++◌, Some, None, Option, ◌==◌}
use Rattle.terms.specs.declared.term.Term.{Term}
use Rattle.terms.specs.declared.term.Term.TheVariants.{Number, Quote, Lambda, Variable, Setq, Let, If, Apply, Cons, Car, Cdr, Add, Same}
use Rattle.terms.specs.declared.term.Definition.{Definition}
use Rattle.terms.specs.declared.term.Definition.TheVariants.{Input, Defvar, Defun}
use Rattle.terms.specs.Script.{Script, last, term, parameter, cons_operands}
use Rattle.facts.specs.Numbering.{symbol_fact, number_fact, function_fact, pair_fact, flow_set, top_set, bound_set}
use Rattle.proposals.specs.Tables.{Tables, in_set, entry, extension}

-- What a part may need: that the pair (l, k) is listed; that a set holds a fact; that every fact of one set is in another;
-- that there is a row k[x:b], which is row k with b put at x.
pub data Need : Type 0 where
  lists : (l k : ℕ) → Need
  has : (set fact : ℕ) → Need
  within : (from into : ℕ) → Need
  exists : (k x b : ℕ) → Need

-- a part of a clause: its number, and what it needs
pub record Part : Type 0 where
  pub number : ℕ
  pub need : Need

abbrev pub part : ℕ → Need → Part
part n d = record { number = n; need = d }

-- The set of a binding of x with birthplace b: E(b), or T(x) for birthplace 0, which is the top level.
abbrev pub binding_set : ℕ → ℕ → ℕ
binding_set x b = cond (b == 0) (top_set x) (bound_set b)

-- B(x, k), the set of the binding of x that context k names: T(x) if row k has 0 at x, else E of that birthplace.
abbrev pub named_set : Tables → ℕ → ℕ → ℕ
named_set t x k = binding_set x (entry t k x)

-- Operands are listed in the context of their term.
abbrev pub operand : ℕ → ℕ → Part
operand o k = part 1 (lists o k)

-- The clause of (l, k) where the body c of a let or of a function, which binds x, is entered with the value of b. There is
-- k' = k[x:c]; (c, k') is listed; the value of b is bound; what the body returns, (l, k) returns. Without k' there is no more to try.
abbrev pub entered : ℕ → ℕ → ℕ → ℕ → Option ℕ → List Part
entered l k b c None = []
entered l k b c (Some k') =
    part 4 (lists c k')
    ∷ part 5 (within (flow_set b k) (bound_set c))
    ∷ part 6 (within (flow_set c k') (flow_set l k))
    ∷ []

abbrev pub enter : Tables → ℕ → ℕ → ℕ → ℕ → ℕ → List Part
enter t l k b x c = part 3 (exists k x c) ∷ entered l k b c (extension t k x c)

-- for each of the n facts from f on that the set holds, rising: its parts (shut, since n may be thousands)
unfoldable pub each_fact : Tables → ℕ → ℕ → ℕ → (ℕ → List Part) → List Part
each_fact t s f zero parts = []
each_fact t s f (suc n) parts = cond (in_set t s f) (parts f) [] ++ each_fact t s (suc f) n parts

-- Each function in the operator's set, with its parameter, is entered with the value of the operand b.
abbrev pub called : Tables → ℕ → ℕ → ℕ → ℕ → Option ℕ → List Part
called t l k b g None = []
called t l k b g (Some y) = enter t l k b y g

-- functions are the 256 facts from 64 on
abbrev pub calls : Script → Tables → ℕ → ℕ → ℕ → ℕ → List Part
calls p t l k a b = each_fact t (flow_set a k) (function_fact 0) 256 (λ f. called t l k b (f - function_fact 0) (parameter p (f - function_fact 0)))

-- Of each pair (c, j) in the operand's set, the half flows from the first or the second operand of c in context j.
abbrev pub first_half : ℕ → ℕ → ℕ → Option (ℕ × ℕ) → List Part
first_half l k j None = []
first_half l k j (Some operands) = part 6 (within (flow_set operands.0 j) (flow_set l k)) ∷ []

abbrev pub second_half : ℕ → ℕ → ℕ → Option (ℕ × ℕ) → List Part
second_half l k j None = []
second_half l k j (Some operands) = part 6 (within (flow_set operands.1 j) (flow_set l k)) ∷ []

-- pairs are the 4,096 facts from 512 on: the cons term and the context of the fact f
abbrev pub cons_of : ℕ → ℕ
cons_of f = (f - pair_fact 0 0) / 16

abbrev pub context_of : ℕ → ℕ
context_of f = (f - pair_fact 0 0) % 16

abbrev pub halves : Script → Tables → ℕ → ℕ → (ℕ → Option (ℕ × ℕ) → List Part) → List Part
halves p t a k half = each_fact t (flow_set a k) (pair_fact 0 0) 4096 (λ f. half (context_of f) (cons_operands (term p (cons_of f))))

-- The clause of the pair (l, k), where the term is that of l. Its set is C(l, k).
abbrev pub clause : Script → Tables → ℕ → ℕ → Term → List Part
clause p t l k (Number n) = part 2 (has (flow_set l k) number_fact) ∷ []
clause p t l k (Quote s) = part 2 (has (flow_set l k) (symbol_fact s)) ∷ []
clause p t l k (Lambda x b) = part 2 (has (flow_set l k) (function_fact b)) ∷ []
clause p t l k (Variable x) = part 6 (within (named_set t x k) (flow_set l k)) ∷ []
clause p t l k (Setq x b) =
    operand b k
    ∷ part 5 (within (flow_set b k) (named_set t x k))
    ∷ part 6 (within (flow_set b k) (flow_set l k))
    ∷ []
clause p t l k (Let x b c) = operand b k ∷ enter t l k b x c
clause p t l k (If a b c) =
    operand a k
    ∷ operand b k
    ∷ operand c k
    ∷ part 6 (within (flow_set b k) (flow_set l k))
    ∷ part 6 (within (flow_set c k) (flow_set l k))
    ∷ []
clause p t l k (Apply a b) = operand a k ∷ operand b k ∷ calls p t l k a b
clause p t l k (Cons a b) = operand a k ∷ operand b k ∷ part 2 (has (flow_set l k) (pair_fact l k)) ∷ []
clause p t l k (Car a) = operand a k ∷ halves p t a k (first_half l k)
clause p t l k (Cdr a) = operand a k ∷ halves p t a k (second_half l k)
clause p t l k (Add a b) = operand a k ∷ operand b k ∷ part 2 (has (flow_set l k) number_fact) ∷ []
clause p t l k (Same a b) =
    operand a k
    ∷ operand b k
    ∷ part 2 (has (flow_set l k) (symbol_fact 0))
    ∷ part 2 (has (flow_set l k) (symbol_fact 1))
    ∷ []

abbrev pub pair_clause : Script → Tables → ℕ → ℕ → List Part
pair_clause p t l k = clause p t l k (term p l)

-- The clause of a definition: what it puts at the top level is in the variable's set there; a defvar's root is listed in context 0.
abbrev pub definition_clause : Definition → List Part
definition_clause (Input x) = part 5 (has (top_set x) number_fact) ∷ []
definition_clause (Defvar x r) = part 1 (lists r 0) ∷ part 5 (within (flow_set r 0) (top_set x)) ∷ []
definition_clause (Defun x y r) = part 5 (has (top_set x) (function_fact r)) ∷ []

-- The entry term is listed in context 0.
abbrev pub entry_clause : Script → List Part
entry_clause p = part 1 (lists (last p) 0) ∷ []
