-- The reading of one definition, and of all of them in turn.
use Rattle.std.proofs.Common.{◌≡◌, ℕ, suc, ◌+◌, ◌<◌, ◌≤◌, Bool, true, false, cond, ◌&&◌, eqb, ltb, List, [], ◌∷◌, ◌++◌, map, length, get_or, take, drop, is_some, Some, None, Option, unwrap_or, sym, refl, ap, ◌∙◌}
use Rattle.std.proofs.lemmas.List.{map_more, drop_more, drop_all, take_all}
use Rattle.std.proofs.lemmas.Bool.{eq-eqb, and_right}
use Rattle.faults.specs.declared.fault.Fault.TheVariants.{WrongDefinitions}
use Rattle.terms.specs.declared.raw.RawDefinition.{RawDefinition}
use Rattle.terms.specs.declared.term.Definition.{Definition}
use Rattle.terms.specs.declared.term.Definition.TheVariants.{Input, Defvar, Defun}
use Rattle.terms.specs.declared.table.Table.{Table}
use Rattle.terms.specs.Syntax.{decode_definition, root_of}
use Rattle.terms.specs.Script.{first_at}
use Rattle.terms.specs.Table.{terms_in}
use Rattle.terms.specs.Form.{definition_right, definitions_right, roots, covers, script_right, definition_of, all_decode}
use Rattle.terms.specs.Reading.{root_read, definition_read, read_definition, defined_right, DefinitionsWrong}

-- the rows keep the rules, where the labels below a are covered
abbrev defined : (ℕ → ℕ) → ℕ → ℕ → List RawDefinition → ℕ → Bool
defined f v a rs l = all_decode rs && script_right f v a (map definition_of rs) l

abbrev after : (ℕ → ℕ) → ℕ → List RawDefinition → ℕ → Option (Definition × ℕ) → Bool
after f v rs l None = false
after f v rs l (Some d) = defined f v d.1 rs l

module _ (f : ℕ → ℕ) (v a : ℕ) (rs : List RawDefinition) (l : ℕ) where
  plain : (d : Definition) (x s y z : Bool) (b : ℕ) → x && (y && z) ≡ defined f v b rs l → x && ((s && y) && z) ≡ after f v rs l (cond s (Some (d, b)) None)
  plain d x true y z b e = e
  plain d x false y z b e = and_right x false refl

  rooted : (d : Definition) (x s y k z : Bool) (b : ℕ) → x && (y && z) ≡ defined f v b rs l
      → x && ((s && y) && (k && z)) ≡ after f v rs l (cond s (cond k (Some (d, b)) None) None)
  rooted d x true y true z b e = e
  rooted d x true y false z b e = ap (λ u. x && u) (and_right y false refl) ∙ and_right x false refl
  rooted d x false y k z b e = and_right x false refl

  read_by : (o : Option Definition)
      → (is_some o && all_decode rs) && script_right f v a (unwrap_or o (Input 0) ∷ map definition_of rs) l ≡ after f v rs l (definition_read f v a o)
  read_by None = refl
  read_by (Some (Input x)) = plain (Input x) (all_decode rs) (ltb x v) (definitions_right v (map definition_of rs)) (covers f a (roots (map definition_of rs) ++ (l ∷ [])) (suc l)) a refl
  read_by (Some (Defvar x c)) =
      rooted (Defvar x c) (all_decode rs) (ltb x v) (definitions_right v (map definition_of rs)) (eqb (f c) a) (covers f (suc c) (roots (map definition_of rs) ++ (l ∷ [])) (suc l)) (suc c) refl
  read_by (Some (Defun x y c)) =
      rooted (Defun x y c) (all_decode rs) (ltb x v && ltb y v) (definitions_right v (map definition_of rs)) (eqb (f c) a) (covers f (suc c) (roots (map definition_of rs) ++ (l ∷ [])) (suc l)) (suc c) refl

  one_more : (r : RawDefinition) → defined f v a (r ∷ rs) l ≡ after f v rs l (read_definition f v a r)
  one_more r = read_by (decode_definition r)

root_is : (f : ℕ → ℕ) (a : ℕ) (d e : Definition) (b : ℕ) (o : Option ℕ) → root_read f a d o ≡ Some (e, b) → d ≡ e
root_is f a d e b None h = ap (λ (o : Option (Definition × ℕ)). (unwrap_or o (d, 0)).0) h
root_is f a d e b (Some c) h = at (eqb (f c) a) h
  where
    at : (k : Bool) → cond {A = Option (Definition × ℕ)} k (Some (d, suc c)) None ≡ Some (e, b) → d ≡ e
    at true h = ap (λ (o : Option (Definition × ℕ)). (unwrap_or o (d, 0)).0) h
    at false h = absurd cc

read_is : (f : ℕ → ℕ) (v a : ℕ) (e : Definition) (b : ℕ) (o : Option Definition) → definition_read f v a o ≡ Some (e, b) → unwrap_or o (Input 0) ≡ e
read_is f v a e b None h = absurd cc
read_is f v a e b (Some d) h = at (definition_right v d) h
  where
    at : (k : Bool) → cond k (root_read f a d (root_of d)) None ≡ Some (e, b) → d ≡ e
    at true h = root_is f a d e b (root_of d) h
    at false h = absurd cc

-- the first i rows are read, and what is left decides whether all are right
pub record DefinitionsSoFar (rows : List RawDefinition) (table : Table) (i a : ℕ) (definitions : List Definition) : Type 0 where
  pub rest : defined_right rows table ≡ defined (first_at (terms_in table.nodes.items)) table.symbols a (drop i rows) (length table.nodes.items)
  pub read : definitions ≡ map definition_of (take i rows)

pub none_defined : (rows : List RawDefinition) (table : Table) → DefinitionsSoFar rows table 0 1 []
none_defined rows table = record { rest = refl; read = refl }

module _ (rows : List RawDefinition) (table : Table) (i a : ℕ) (definitions : List Definition) (r : RawDefinition) (lt : i < length rows) (sofar : DefinitionsSoFar rows table i a definitions) where
  -- the definition that the next row stands for
  abbrev next : Option (Definition × ℕ)
  next = read_definition (first_at (terms_in table.nodes.items)) table.symbols a (get_or rows i r)

  abbrev then : Option (Definition × ℕ) → Bool
  then = after (first_at (terms_in table.nodes.items)) table.symbols (drop (i + 1) rows) (length table.nodes.items)

  ahead : defined_right rows table ≡ then next
  ahead = sofar.rest ∙ ap (λ rs. defined (first_at (terms_in table.nodes.items)) table.symbols a rs (length table.nodes.items)) (drop_more rows i r lt)
      ∙ one_more (first_at (terms_in table.nodes.items)) table.symbols a (drop (i + 1) rows) (length table.nodes.items) (get_or rows i r)

  pub one_undefined : next ≡ None → DefinitionsWrong rows table WrongDefinitions
  one_undefined h = (ahead ∙ ap then h, refl)

  pub one_defined : (d : Definition) (b : ℕ) → next ≡ Some (d, b) → DefinitionsSoFar rows table (i + 1) b (definitions ++ (d ∷ []))
  one_defined d b h = record {
    rest = ahead ∙ ap then h;
    read = ap (λ ds. ds ++ (d ∷ [])) sofar.read
        ∙ ap (λ e. map definition_of (take i rows) ++ (e ∷ [])) (sym (read_is (first_at (terms_in table.nodes.items)) table.symbols a d b (decode_definition (get_or rows i r)) h)) ∙ sym (map_more definition_of rows i r lt);
  }

-- once all rows are read, they are right exactly where the entry begins at the first label that is not covered
pub all_defined : (rows : List RawDefinition) (table : Table) (i a : ℕ) (definitions : List Definition) → length rows ≤ i → DefinitionsSoFar rows table i a definitions
    → (eqb (first_at (terms_in table.nodes.items) (length table.nodes.items)) a ≡ defined_right rows table) × (definitions ≡ map definition_of rows)
all_defined rows table i a definitions ge sofar = (
  sym (sofar.rest ∙ ap (λ rs. defined (first_at (terms_in table.nodes.items)) table.symbols a rs (length table.nodes.items)) (drop_all i rows ge)
      ∙ at (eqb (first_at (terms_in table.nodes.items) (length table.nodes.items)) a)),
  sofar.read ∙ ap (map definition_of) (take_all i rows ge),
)
  where
    at : (k : Bool) → (k && eqb (suc (length table.nodes.items)) (suc (length table.nodes.items))) ≡ k
    at true = eq-eqb (suc (length table.nodes.items)) (suc (length table.nodes.items)) refl
    at false = refl
