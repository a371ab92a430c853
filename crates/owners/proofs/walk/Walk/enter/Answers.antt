use Rattle.std.proofs.Common.{rules}
use Rattle.std.proofs.lemmas.List.{reverse-append}
use Rattle.owners.proofs.Turns.{binds_more}
use Rattle.owners.proofs.walk.Walk.enter.Goals as goal

pub invariant_of-self : goal.invariant_of-self
invariant_of-self g c = let more = binds_more c.args.self.now _ _ _ _ _ c.bind.ensures c.requires c.in-Some.ensures in search (rules, reverse-append)
