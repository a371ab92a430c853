use Rattle.std.proofs.Common.{◌/◌, ◌^◌, ◌∙◌}
use lib.Bits.{and_mask}
use Rattle.std.proofs.lemmas.Bool.{le-ltb}
use Rattle.proposals.proofs.Memory.{listed_is, listed_past}
use Rattle.proposals.proofs.proposal.Proposal.listed.Goals as goal

pub returns-then-context-lt16 : goal.returns-then-context-lt16
returns-then-context-lt16 g c =
    rw (and_mask (c.number.result / 2 ^ c.args.context) 1, c.number.ensures, c.from.ensures) (listed_is _ _ _ c.if-context-lt16.true)

pub returns-else-context-lt16 : goal.returns-else-context-lt16
returns-else-context-lt16 g c = le-ltb _ _ c.if-context-lt16.false ∙ listed_past _ _ _ c.if-context-lt16.false
