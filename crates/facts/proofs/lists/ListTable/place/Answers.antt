use Rattle.std.proofs.Common.{rules, tests, ltb}
use Rattle.std.proofs.lemmas.List.Sorted.{IsPartitionPoint-from_clause}
use Rattle.facts.proofs.Rising.{parted, placed}
use Rattle.facts.proofs.lists.ListTable.place.Goals as goal

pub returns : goal.returns
returns c =
    let up = c.args.self.now.rising in
    placed _ up _ _ c.partition_point.ensures.bound (IsPartitionPoint-from_clause (λ y. ltb y c.args.n) _ _ c.partition_point.ensures.partitioned (parted _ up c.args.n) (λ a r f k. search (rules, tests)))
