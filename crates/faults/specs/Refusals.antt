-- what each fault states, and how it is printed
use Rattle.std.specs.Prelude.{◌≡◌, Decides, ℕ, Bool, nat_eq, List, [], ◌∷◌, ◌++◌, codes, decimal}
use Rattle.std.specs.Cmp.{IsEquivalence, and_equiv}
use Rattle.std.specs.Cmp.Lexicographic.{pointwise, on_texts_equal}
use Rattle.std.specs.Ordering.{eq_of_both, on}
use Prim.Native.String.{String}
use Rattle.faults.specs.Places.{Place, at, listed}
use Rattle.faults.specs.declared.fault.Fault.{Fault}
use Rattle.faults.specs.declared.fault.Fault.TheVariants.{ProgramSizes, WrongTerm, WrongDefinitions, ListOrder, WrongRow, WrongMask, WrongFact, UnmetClause, WrongMark, StoreLimit, RowUnderWay, NoRow, NotAnInput, MemoryLength, NoSuchVariable, StoreFull, StoreEmpty, VoidVariable, NotAFunction, NotAPair, NotANumber, NoFrameLeft, NoPairLeft}

pub record Refusal : Type 0 where
  pub number : ℕ
  pub name : List ℕ
  pub places : List Place

abbrev refusal : ℕ → String → List Place → Refusal
refusal n s ps = record { number = n; name = codes s; places = ps }

-- the place is 0 where the rules name none
abbrev pub stated : Fault → Refusal
stated ProgramSizes = refusal 5 "program-sizes" (at "label" 0 ∷ [])
stated (WrongTerm l) = refusal 5 "wrong-term" (at "label" l ∷ [])
stated WrongDefinitions = refusal 5 "wrong-definitions" (at "label" 0 ∷ [])
stated (ListOrder i) = refusal 9 "list-order" (at "index" i ∷ [])
stated (WrongRow r) = refusal 10 "wrong-row" (at "row" r ∷ [])
stated (WrongMask l) = refusal 11 "wrong-mask" (at "label" l ∷ [])
stated (WrongFact s n) = refusal 12 "wrong-fact" (at "set" s ∷ at "fact" n ∷ [])
stated (UnmetClause d l k p) = refusal 13 "unmet-clause" (at "definition" d ∷ at "label" l ∷ at "context" k ∷ at "part" p ∷ [])
stated (WrongMark l) = refusal 20 "wrong-mark" (at "label" l ∷ [])
stated StoreLimit = refusal 21 "store-limit" (at "place" 0 ∷ [])
stated RowUnderWay = refusal 22 "row-under-way" (at "place" 0 ∷ [])
stated NoRow = refusal 23 "no-row" (at "place" 0 ∷ [])
stated NotAnInput = refusal 24 "not-an-input" (at "place" 0 ∷ [])
stated MemoryLength = refusal 26 "memory-length" (at "place" 0 ∷ [])
stated NoSuchVariable = refusal 27 "no-such-variable" (at "place" 0 ∷ [])
stated StoreFull = refusal 28 "store-full" (at "place" 0 ∷ [])
stated StoreEmpty = refusal 29 "store-empty" (at "place" 0 ∷ [])
stated (VoidVariable l) = refusal 40 "void-variable" (at "label" l ∷ [])
stated (NotAFunction l) = refusal 41 "not-a-function" (at "label" l ∷ [])
stated (NotAPair l) = refusal 42 "not-a-pair" (at "label" l ∷ [])
stated (NotANumber l) = refusal 43 "not-a-number" (at "label" l ∷ [])
stated (NoFrameLeft l) = refusal 44 "no-frame-left" (at "label" l ∷ [])
stated (NoPairLeft l) = refusal 45 "no-pair-left" (at "label" l ∷ [])

-- the numbers of the places
abbrev pub values : List Place → List ℕ
values [] = []
values (p ∷ ps) = p.value ∷ values ps

-- whether two faults are the same: one name, and the same numbers as places
abbrev pub same_fault : Fault → Fault → Bool
same_fault = eq_of_both (on (λ f. (stated f).name) (pointwise nat_eq)) (on (λ f. values (stated f).places) (pointwise nat_eq))

pub same_fault_equiv : IsEquivalence same_fault
same_fault_equiv = and_equiv (on_texts_equal (λ f. (stated f).name)) (on_texts_equal (λ f. values (stated f).places))

-- That test tells exactly whether they are equal.
abbrev pub SameDecides : Type 0
SameDecides = (a b : Fault) → Decides (same_fault a b) (a ≡ b)

abbrev pub text : Refusal → List ℕ
text r = decimal r.number ++ (codes " " ++ (r.name ++ (codes " " ++ listed r.places)))
