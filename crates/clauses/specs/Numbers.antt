-- What the number of a part tells.
use Rattle.std.specs.Prelude.{ℕ, List, [], ◌∷◌}
use Rattle.terms.specs.declared.term.Definition.{Definition}
use Rattle.terms.specs.Script.{Script}
use Rattle.facts.specs.Numbering.{flow_set, top_set}
use Rattle.proposals.specs.Tables.{Tables}
use Rattle.clauses.specs.Clauses.{lists, has, within, exists, Part, part, pair_clause, definition_clause, entry_clause}

-- In the clause of the pair (l, k): 1, an operand is listed in the context of its term; 2, the result holds a fact; 3, there is a
-- row for a body; 4, a pair is listed; 5, an operand's value flows to another set; 6, a set flows to the result. Which ones, the clauses say.
pub data Numbered (l k : ℕ) : Part → Type 0 where
  one : (o : ℕ) → Numbered l k (part 1 (lists o k))
  two : (f : ℕ) → Numbered l k (part 2 (has (flow_set l k) f))
  three : (x b : ℕ) → Numbered l k (part 3 (exists k x b))
  four : (c j : ℕ) → Numbered l k (part 4 (lists c j))
  five : (o u : ℕ) → Numbered l k (part 5 (within (flow_set o k) u))
  six : (s : ℕ) → Numbered l k (part 6 (within s (flow_set l k)))

-- In the clause of a definition and of the entry: 1, a root is listed in context 0; 5, a fact, or a root's value, is in the set of a variable at the top level.
pub data NumberedDefinition : Part → Type 0 where
  one_root : (r : ℕ) → NumberedDefinition (part 1 (lists r 0))
  five_fact : (x f : ℕ) → NumberedDefinition (part 5 (has (top_set x) f))
  five_value : (r x : ℕ) → NumberedDefinition (part 5 (within (flow_set r 0) (top_set x)))

abbrev pub EachPart : (Part → Type 0) → List Part → Type 0
EachPart P [] = Unit {0}
EachPart P (d ∷ ds) = P d × EachPart P ds

pub record PartNumbers : Type 0 where
  pub pairs : (p : Script) (t : Tables) (l k : ℕ) → EachPart (Numbered l k) (pair_clause p t l k)
  pub definitions : (d : Definition) → EachPart NumberedDefinition (definition_clause d)
  pub entries : (p : Script) → EachPart NumberedDefinition (entry_clause p)
