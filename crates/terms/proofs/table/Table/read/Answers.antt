use Rattle.std.proofs.Common.{refl}
use Rattle.std.proofs.lemmas.Result.{err_from_is_err_and}
use Rattle.terms.proofs.Progress.{none_read, one_wrong, one_read}
use Rattle.terms.proofs.table.Table.read.Goals as goal

pub loop-row-init : goal.loop-row-init
loop-row-init c = none_read _ _ _ c.requires.0 refl

pub returns-in_err-read_term : goal.returns-in_err-read_term
returns-in_err-read_term c =
    let p = err_from_is_err_and c.from_residual.result c.from_residual.ensures.1 in
    rw (p.1, p.2) (one_wrong _ _ _ _ _ c.loop-row-test.true c.loop-row.invariant _ c.in_err-read_term.ensures)

pub loop-row-preserved : goal.loop-row-preserved
loop-row-preserved c = one_read _ _ _ _ _ c.loop-row-test.true c.loop-row.invariant _ c.in_ok-read_term.ensures
