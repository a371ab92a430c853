use Rattle.std.proofs.Common.{◌∙◌}
use Rattle.proposals.proofs.Memory.{entry_is, entry_past}
use Rattle.proposals.proofs.proposal.Proposal.entry.Goals as goal

pub returns-then-variable-lt32 : goal.returns-then-variable-lt32
returns-then-variable-lt32 g c =
    rw (c.from.ensures, c.from-then-variable-lt32.ensures) at c.number.ensures ∙ entry_is _ _ _ c.if-variable-lt32.true

pub returns-else-variable-lt32 : goal.returns-else-variable-lt32
returns-else-variable-lt32 g c = entry_past _ _ _ c.if-variable-lt32.false
