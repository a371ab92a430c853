use Rattle.terms.proofs.Defined.{DefinitionsSoFar}
use Rattle.terms.proofs.table.Table.read_definitions.Given as goal

abbrev pub invariant-loop-row : goal.invariant-loop-row
invariant-loop-row l = DefinitionsSoFar l.rows l.self l.row-index l.covered l.definitions.items
