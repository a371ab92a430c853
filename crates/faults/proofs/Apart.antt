-- no two faults have one name and the same places
use Rattle.std.proofs.Common.{◌≡◌, ℕ, zero, suc, ◌+◌, ◌*◌, Bool, true, false, not, ◌&&◌, cond, eqb, List, [], ◌∷◌, codes, sym, refl, ap, ◌∙◌, subst}
use Prim.Native.String.{String}
use Rattle.std.specs.Prelude.{Decides, nat_eq}
use Rattle.std.specs.Cmp.Lexicographic.{same_text, pointwise}
use Rattle.std.specs.Cmp.{both_ways}
use Rattle.std.specs.Cmp.Derive.{both_true}
use Rattle.std.proofs.lemmas.Bool.{and_parts, not-true, not-false}
use Rattle.std.proofs.Math.Bool.{and-true}
use Rattle.std.proofs.lemmas.Cmp.{nat_list_eq_equiv}
use Rattle.faults.specs.Places.{Place, named}
use Rattle.faults.specs.declared.places.Places.{Places}
use Rattle.faults.specs.declared.places.Places.TheVariants.{Nowhere, Index, Row, Label, Fact, Clause}
use Rattle.faults.specs.contracts.places.PlacesPartialEq.TheImpl as derived
use Rattle.faults.specs.Refusals.{stated, values, same_fault}
use Rattle.faults.specs.declared.fault.Fault.{Fault}
use Rattle.faults.specs.declared.fault.Fault.TheVariants.{ProgramSizes, WrongTerm, WrongDefinitions, ListOrder, WrongRow, WrongMask, WrongFact, UnmetClause, WrongMark, StoreLimit, RowUnderWay, NoRow, NotAnInput, MemoryLength, NoSuchVariable, StoreFull, StoreEmpty, VoidVariable, NotAFunction, NotAPair, NotANumber, NoFrameLeft, NoPairLeft}

-- a text as one number
abbrev packed : List ℕ → ℕ
packed [] = 0
packed (c ∷ cs) = c + 256 * packed cs

abbrev is : List ℕ → String → Bool
is n s = eqb (packed n) (packed (codes s))

abbrev value : ℕ → List ℕ → ℕ
value k [] = 0
value zero (n ∷ ns) = n
value (suc k) (n ∷ ns) = value k ns

-- the fault of the first row with the name n
abbrev pick : List ℕ → List (String × Fault) → Fault
pick n [] = NoRow
pick n (r ∷ rs) = cond (is n r.0) r.1 (pick n rs)

-- the fault that has the name n and the numbers ps as places
abbrev back : List ℕ → List ℕ → Fault
back n ps = pick n (
    ("program-sizes", ProgramSizes) ∷
    ("wrong-term", WrongTerm (value 0 ps)) ∷
    ("wrong-definitions", WrongDefinitions) ∷
    ("list-order", ListOrder (value 0 ps)) ∷
    ("wrong-row", WrongRow (value 0 ps)) ∷
    ("wrong-mask", WrongMask (value 0 ps)) ∷
    ("wrong-fact", WrongFact (value 0 ps) (value 1 ps)) ∷
    ("unmet-clause", UnmetClause (value 0 ps) (value 1 ps) (value 2 ps) (value 3 ps)) ∷
    ("wrong-mark", WrongMark (value 0 ps)) ∷
    ("store-limit", StoreLimit) ∷
    ("row-under-way", RowUnderWay) ∷
    ("no-row", NoRow) ∷
    ("not-an-input", NotAnInput) ∷
    ("memory-length", MemoryLength) ∷
    ("no-such-variable", NoSuchVariable) ∷
    ("store-full", StoreFull) ∷
    ("store-empty", StoreEmpty) ∷
    ("void-variable", VoidVariable (value 0 ps)) ∷
    ("not-a-function", NotAFunction (value 0 ps)) ∷
    ("not-a-pair", NotAPair (value 0 ps)) ∷
    ("not-a-number", NotANumber (value 0 ps)) ∷
    ("no-frame-left", NoFrameLeft (value 0 ps)) ∷
    ("no-pair-left", NoPairLeft (value 0 ps)) ∷ [])

back_stated : (f : Fault) → back (stated f).name (values (stated f).places) ≡ f
back_stated ProgramSizes = refl
back_stated (WrongTerm l) = refl
back_stated WrongDefinitions = refl
back_stated (ListOrder i) = refl
back_stated (WrongRow r) = refl
back_stated (WrongMask l) = refl
back_stated (WrongFact s n) = refl
back_stated (UnmetClause d l k p) = refl
back_stated (WrongMark l) = refl
back_stated StoreLimit = refl
back_stated RowUnderWay = refl
back_stated NoRow = refl
back_stated NotAnInput = refl
back_stated MemoryLength = refl
back_stated NoSuchVariable = refl
back_stated StoreFull = refl
back_stated StoreEmpty = refl
back_stated (VoidVariable l) = refl
back_stated (NotAFunction l) = refl
back_stated (NotAPair l) = refl
back_stated (NotANumber l) = refl
back_stated (NoFrameLeft l) = refl
back_stated (NoPairLeft l) = refl

stated_apart : (a b : Fault) → (stated a).name ≡ (stated b).name → values (stated a).places ≡ values (stated b).places → a ≡ b
stated_apart a b p q = sym (back_stated a) ∙ (λ i. back (p i) (q i)) ∙ back_stated b

-- the test tells whether two faults are equal
pub same_decides : (a b : Fault) → Decides (same_fault a b) (a ≡ b)
same_decides a b = (
  λ e. stated_apart a b (same_text _ _ (sym (and_parts _ _ e).0)) (same_text _ _ (sym (and_parts _ _ e).1)),
  λ e. subst (λ f. same_fault a f ≡ true) e (both_true (nat_list_eq_equiv.refl (stated a).name) (nat_list_eq_equiv.refl (values (stated a).places))),
)

-- ---- places

-- the kind of places, as the first name tells it, and then their numbers
abbrev key : List Place → List ℕ
key [] = []
key (p ∷ ps) = packed p.name ∷ values (p ∷ ps)

abbrev keyed : List ℕ → Places
keyed [] = Nowhere
keyed (k ∷ ns) =
    cond (eqb k (packed (codes "index"))) (Index (value 0 ns)) (
    cond (eqb k (packed (codes "row"))) (Row (value 0 ns)) (
    cond (eqb k (packed (codes "label"))) (Label (value 0 ns)) (
    cond (eqb k (packed (codes "set"))) (Fact (value 0 ns) (value 1 ns)) (
    cond (eqb k (packed (codes "definition"))) (Clause (value 0 ns) (value 1 ns) (value 2 ns) (value 3 ns)) Nowhere))))

keyed_named : (p : Places) → keyed (key (named p)) ≡ p
keyed_named Nowhere = refl
keyed_named (Index i) = refl
keyed_named (Row r) = refl
keyed_named (Label l) = refl
keyed_named (Fact s n) = refl
keyed_named (Clause d l k p) = refl

-- no two places have one key
key_apart : (p q : Places) → key (named p) ≡ key (named q) → p ≡ q
key_apart p q e = sym (keyed_named p) ∙ ap keyed e ∙ keyed_named q

-- what the derived `==` computes
abbrev same_places : Places → Places → Bool
same_places = derived.ghosts.eq

places_test : (p q : Places) → same_places p q ≡ pointwise nat_eq (key (named p)) (key (named q))
places_test Nowhere Nowhere = refl
places_test Nowhere (Index b) = refl
places_test Nowhere (Row b) = refl
places_test Nowhere (Label b) = refl
places_test Nowhere (Fact b0 b1) = refl
places_test Nowhere (Clause b0 b1 b2 b3) = refl
places_test (Index a) Nowhere = refl
places_test (Index a) (Index b) = sym (and-true (eqb a b))
places_test (Index a) (Row b) = refl
places_test (Index a) (Label b) = refl
places_test (Index a) (Fact b0 b1) = refl
places_test (Index a) (Clause b0 b1 b2 b3) = refl
places_test (Row a) Nowhere = refl
places_test (Row a) (Index b) = refl
places_test (Row a) (Row b) = sym (and-true (eqb a b))
places_test (Row a) (Label b) = refl
places_test (Row a) (Fact b0 b1) = refl
places_test (Row a) (Clause b0 b1 b2 b3) = refl
places_test (Label a) Nowhere = refl
places_test (Label a) (Index b) = refl
places_test (Label a) (Row b) = refl
places_test (Label a) (Label b) = sym (and-true (eqb a b))
places_test (Label a) (Fact b0 b1) = refl
places_test (Label a) (Clause b0 b1 b2 b3) = refl
places_test (Fact a0 a1) Nowhere = refl
places_test (Fact a0 a1) (Index b) = refl
places_test (Fact a0 a1) (Row b) = refl
places_test (Fact a0 a1) (Label b) = refl
places_test (Fact a0 a1) (Fact b0 b1) = ap (λ t. eqb a0 b0 && t) (sym (and-true (eqb a1 b1)))
places_test (Fact a0 a1) (Clause b0 b1 b2 b3) = refl
places_test (Clause a0 a1 a2 a3) Nowhere = refl
places_test (Clause a0 a1 a2 a3) (Index b) = refl
places_test (Clause a0 a1 a2 a3) (Row b) = refl
places_test (Clause a0 a1 a2 a3) (Label b) = refl
places_test (Clause a0 a1 a2 a3) (Fact b0 b1) = refl
places_test (Clause a0 a1 a2 a3) (Clause b0 b1 b2 b3) = λ i. eqb a0 b0 && (eqb a1 b1 && (eqb a2 b2 && sym (and-true (eqb a3 b3)) i))

places_decides : (p q : Places) → Decides (same_places p q) (p ≡ q)
places_decides p q = (
  λ e. key_apart p q (same_text _ _ (sym (sym (places_test p q) ∙ e))),
  λ e. subst (λ r. same_places p r ≡ true) e (places_test p p ∙ nat_list_eq_equiv.refl (key (named p))),
)

-- what the comparison of names and places tells
pub same_by : (a b : Fault) (p q : Places) → named p ≡ (stated a).places → named q ≡ (stated b).places → (stated a).name ≡ (stated b).name → same_places p q ≡ same_fault a b
same_by a b p q n m e = both_ways _ _
    (λ s. both_true (subst (λ k. pointwise nat_eq (stated a).name k ≡ true) e (nat_list_eq_equiv.refl (stated a).name))
    (subst (λ k. pointwise nat_eq (values (stated a).places) k ≡ true) (ap values (sym n ∙ ap named ((places_decides p q).0 s) ∙ m)) (nat_list_eq_equiv.refl (values (stated a).places))))
    (λ s. (places_decides p q).1 (key_apart p q (ap key (n ∙ ap (λ f. (stated f).places) ((same_decides a b).0 s) ∙ sym m))))

-- the names k and m are compared first
module _ (a b : Fault) (k m : List ℕ) (r : Bool) (of_a : k ≡ (stated a).name) (of_b : m ≡ (stated b).name) (e : r ≡ not (pointwise nat_eq k m)) where
  pub names_differ : r ≡ true → false ≡ same_fault a b
  names_differ t = sym (ap (λ x. x && pointwise nat_eq (values (stated a).places) (values (stated b).places))
      ((λ i. pointwise nat_eq (sym of_a i) (sym of_b i)) ∙ not-true (pointwise nat_eq k m) (sym e ∙ t)))

  pub names_agree : r ≡ false → (stated a).name ≡ (stated b).name
  names_agree f = sym of_a ∙ same_text k m (sym (not-false (pointwise nat_eq k m) (sym e ∙ f))) ∙ of_b
