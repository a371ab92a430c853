use Rattle.terms.proofs.Progress.{TermsSoFar}
use Rattle.terms.proofs.table.Table.read.Given as goal

abbrev pub invariant-loop-row : goal.invariant-loop-row
invariant-loop-row l = TermsSoFar l.rows l.fn.self.symbols l.row-index l.self
