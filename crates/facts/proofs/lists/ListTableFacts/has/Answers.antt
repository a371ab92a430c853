use Rattle.std.proofs.Common.{sym, rules, tests}
use Rattle.facts.specs.Lists.{in_list}
use Rattle.facts.proofs.Firsts.{has_by}
use Rattle.facts.proofs.Rising.{found}
use Rattle.facts.proofs.lists.ListTableFacts.has.Goals as goal

pub returns : goal.returns
returns c =
    has_by (in_list c.args.self.now.numbers.now) _ _ _ _ _ c.member_number.ensures c.is_some_and.ensures (λ n _ _ e q. rw (sym e) (search (rules, tests, found _ c.args.self.now.rising n)))
