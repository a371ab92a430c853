-- the named places of a fault, and how they are printed
use Rattle.std.specs.Prelude.{ℕ, List, [], ◌∷◌, ◌++◌, codes, decimal}
use Prim.Native.String.{String}
use Rattle.faults.specs.declared.places.Places.{Places}
use Rattle.faults.specs.declared.places.Places.TheVariants.{Nowhere, Index, Row, Label, Fact, Clause}

pub record Place : Type 0 where
  pub name : List ℕ
  pub value : ℕ

abbrev pub at : String → ℕ → Place
at s n = record { name = codes s; value = n }

abbrev pub named : Places → List Place
named Nowhere = at "place" 0 ∷ []
named (Index i) = at "index" i ∷ []
named (Row r) = at "row" r ∷ []
named (Label l) = at "label" l ∷ []
named (Fact s n) = at "set" s ∷ at "fact" n ∷ []
named (Clause d l k p) = at "definition" d ∷ at "label" l ∷ at "context" k ∷ at "part" p ∷ []

-- the name and the value of each place, all parted by spaces
abbrev pub listed : List Place → List ℕ
listed [] = []
listed (p ∷ []) = p.name ++ (codes " " ++ decimal p.value)
listed (p ∷ q ∷ ps) = p.name ++ (codes " " ++ (decimal p.value ++ (codes " " ++ listed (q ∷ ps))))
