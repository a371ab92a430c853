use Rattle.std.proofs.Common.{Some, None, arith, rules, tests}
use Rattle.facts.proofs.Firsts.{found_in_range}
use Rattle.facts.proofs.Rising.{ruled}
use Rattle.facts.proofs.lists.accepted.Goals as goal

pub returns-in-Some : goal.returns-in-Some
returns-in-Some c =
    ruled _ c.if-numbers-gt-LONGEST.false (Some c.in-Some.index) (found_in_range _ c.find.new.self _ _ c.in-Some.ensures.ran (omega arith) (λ x b q k. search (rules, tests)))

pub returns-in-None : goal.returns-in-None
returns-in-None c =
    ruled _ c.if-numbers-gt-LONGEST.false None (found_in_range _ c.find.new.self _ _ c.in-None.ensures.ran (omega arith) (λ x b q k. search (rules, tests)))
