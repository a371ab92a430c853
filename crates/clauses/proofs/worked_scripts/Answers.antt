use Rattle.clauses.proofs.Worked.{worked}
use Rattle.clauses.proofs.worked_scripts.Goals as goal

pub returns : goal.returns
returns c = worked
