-- The numbers of facts and of sets, for the rules, the code and what is printed.
use Rattle.std.specs.Prelude.{◌≡◌, ℕ, ◌+◌, ◌*◌, ◌<◌, Some, None, Option, ◌≢◌}
use Rattle.facts.specs.declared.numbering.Fact.{Fact}
use Rattle.facts.specs.declared.numbering.Fact.TheVariants as fact
use Rattle.facts.specs.declared.numbering.Set.{Set}
use Rattle.facts.specs.declared.numbering.Set.TheVariants as set

-- Fact s below 32 is the symbol s.
abbrev pub symbol_fact : ℕ → ℕ
symbol_fact s = s

-- Fact 32 is 'a number'.
abbrev pub number_fact : ℕ
number_fact = 32

-- Fact 64 + g is the function with body g.
abbrev pub function_fact : ℕ → ℕ
function_fact g = 64 + g

-- Fact 512 + 16 c + k is a pair made by the cons term c in context k.
abbrev pub pair_fact : ℕ → ℕ → ℕ
pair_fact c k = 512 + 16 * c + k

abbrev pub fact_number : Fact → ℕ
fact_number (fact.Symbol s) = symbol_fact s
fact_number fact.Number = number_fact
fact_number (fact.Function g) = function_fact g
fact_number (fact.Pair c k) = pair_fact c k

-- A symbol is below 32 and a context below 16; bodies and terms are bytes.
abbrev pub ProperFact : Fact → Type 0
ProperFact (fact.Symbol s) = s < 32
ProperFact fact.Number = Unit {0}
ProperFact (fact.Function g) = g < 256
ProperFact (fact.Pair c k) = (c < 256) × (k < 16)

-- Such facts have numbers below 4,608, and no two have the same.
abbrev pub FactsApart : Type 0
FactsApart = (f g : Fact) → ProperFact f → ProperFact g → (fact_number f < 4608) × (fact_number f ≡ fact_number g → f ≡ g)

-- the fact that has the number n, or none if no such fact has it
abbrev pub FactNumbered : ℕ → Option Fact → Type 0
FactNumbered n None = (f : Fact) → ProperFact f → fact_number f ≢ n
FactNumbered n (Some f) = ProperFact f × (fact_number f ≡ n)

-- Set C(l, k), what flows to label l in context k, is 16 l + k.
abbrev pub flow_set : ℕ → ℕ → ℕ
flow_set l k = 16 * l + k

-- Set T(x), of the variable x at the top level, is 4,096 + x.
abbrev pub top_set : ℕ → ℕ
top_set x = 4096 + x

-- Set E(b), of the binder b, is 4,352 + b.
abbrev pub bound_set : ℕ → ℕ
bound_set b = 4352 + b

abbrev pub set_number : Set → ℕ
set_number (set.Flow l k) = flow_set l k
set_number (set.Top x) = top_set x
set_number (set.Bound b) = bound_set b

-- A context is below 16; labels, variables and binders are bytes.
abbrev pub ProperSet : Set → Type 0
ProperSet (set.Flow l k) = (l < 256) × (k < 16)
ProperSet (set.Top x) = x < 256
ProperSet (set.Bound b) = b < 256

-- Such sets have numbers below 4,608, and no two have the same.
abbrev pub SetsApart : Type 0
SetsApart = (s t : Set) → ProperSet s → ProperSet t → (set_number s < 4608) × (set_number s ≡ set_number t → s ≡ t)

-- the set that has the number n, or none if no such set has it
abbrev pub SetNumbered : ℕ → Option Set → Type 0
SetNumbered n None = (s : Set) → ProperSet s → set_number s ≢ n
SetNumbered n (Some s) = ProperSet s × (set_number s ≡ n)
