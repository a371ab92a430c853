use Rattle.std.proofs.Common.{ℕ}
use Rattle.terms.specs.declared.Program.{Program}
use Rattle.terms.specs.Model.{model}
use Rattle.owners.specs.Laws.{Owned}
use Rattle.owners.proofs.Turns.{well_formed}
use Rattle.owners.proofs.Laws.{owned}
use Rattle.owners.proofs.walk.find_owners.Goals as goal

law : (p : Program) (l : ℕ) → Owned (model p) l
law p l = owned (model p) (well_formed p) l

pub returns-then-owners-ne256-clause-owned : goal.returns-then-owners-ne256-clause-owned
returns-then-owners-ne256-clause-owned g c = law c.args.program.now

pub returns-then-limit-lt255-clause-owned : goal.returns-then-limit-lt255-clause-owned
returns-then-limit-lt255-clause-owned g c = law c.args.program.now

pub returns-clause-owned : goal.returns-clause-owned
returns-clause-owned g c = law c.args.program.now
