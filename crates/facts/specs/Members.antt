-- The facts of a set, one by one.
use Rattle.std.specs.Prelude.{ℕ, ◌-◌, Bool, List}
use Rattle.facts.specs.declared.members.Members.{Members}
use Rattle.facts.specs.Table.{holds, all_of}

-- the facts of set s, in rising order
abbrev pub facts_of : (ℕ → ℕ → Bool) → ℕ → List ℕ
facts_of h s = all_of (holds h s) 0 4608

-- those that an iterator has left; m tells what a fact table means
abbrev pub facts_left : {F : Type 0} → (F → ℕ → ℕ → Bool) → Members F → List ℕ
facts_left m it = all_of (holds (m it.facts.now) it.set) it.from (4608 - it.from)
