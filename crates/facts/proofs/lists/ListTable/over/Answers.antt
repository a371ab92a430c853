use Rattle.facts.proofs.Rising.{rises_accepted}
use Rattle.facts.proofs.lists.ListTable.over.Goals as goal

pub invariant_of-result : goal.invariant_of-result
invariant_of-result c = record { rising = rises_accepted _ c.in_ok-accepted.ensures }
