use Rattle.std.proofs.Common.{sym, arith, below_more}
use Rattle.proposals.proofs.Verdicts.{mask_wrong, masks_right}
use Rattle.proposals.proofs.proposal.form.Inspection.check_masks.Goals as goal

pub returns-then-not-mask_right : goal.returns-then-not-mask_right
returns-then-not-mask_right g c = mask_wrong _ _ _ (omega arith) (sym c.if-not-mask_right.ensures) c.loop-label.invariant

pub returns-else-not-mask_right : goal.returns-else-not-mask_right
returns-else-not-mask_right g c =
    masks_right _ _ (λ k l. below_more _ _ c.loop-label.invariant (sym c.if-not-mask_right.ensures) k (omega arith))
