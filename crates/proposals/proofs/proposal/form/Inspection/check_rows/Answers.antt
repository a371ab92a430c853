use Rattle.std.proofs.Common.{sym, arith}
use Rattle.proposals.proofs.Verdicts.{row_wrong, rows_right}
use Rattle.proposals.proofs.proposal.form.Inspection.check_rows.Goals as goal

pub returns-then-not-row_right : goal.returns-then-not-row_right
returns-then-not-row_right g c =
    row_wrong _ _ _ (rw (sym c.contexts-row-end.ensures) c.loop-row-test.true) (sym c.if-not-row_right.ensures) c.loop-row.invariant

pub returns : goal.returns
returns g c = rows_right _ _ (λ k l. c.loop-row.invariant k (omega (arith, c.contexts-row-end.ensures)))
