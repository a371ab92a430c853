-- One of two things of a kind, or both.
use Rattle.zebraclamp.specs.declared.findings.sides.Sides.{Sides}
use Rattle.zebraclamp.specs.declared.findings.sides.Sides.TheVariants.{One, Both}

-- P of the one, or Q of the two
abbrev pub MatchSides : {S : Type 0} → Sides S → (S → Type 0) → (S → S → Type 0) → Type 0
MatchSides (One s) P Q = P s
MatchSides (Both s t) P Q = Q s t
