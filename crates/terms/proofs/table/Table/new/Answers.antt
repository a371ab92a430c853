use Rattle.std.proofs.Common.{sym, subst}
use Rattle.terms.specs.Table.{Begun}
use Rattle.terms.proofs.Progress.{none_begun}
use Rattle.terms.proofs.table.Table.new.Goals as goal

pub invariant_of-result : goal.invariant_of-result
invariant_of-result c = record { begun = subst Begun (sym c.new.ensures) none_begun }
