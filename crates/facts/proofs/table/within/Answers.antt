use Rattle.std.proofs.Common.{rules, tests}
use Rattle.std.proofs.lemmas.Bool.Decides.{Decides-at}
use Rattle.std.proofs.lemmas.Iterator.Consumers.{YieldsList-from_first}
use Rattle.std.proofs.lemmas.Iterator.Search.{all_from_yields_List}
use Rattle.facts.specs.Table.{holds}
use Rattle.facts.specs.Members.{facts_left}
use Rattle.facts.proofs.Listing.{within_all}
use Rattle.facts.proofs.table.within.Goals as goal

pub returns : goal.returns
returns g c =
    let m = g.F.Facts.members in
    let h = m c.args.facts.now in
    Decides-at _ _ (all_from_yields_List (holds h c.args.b) c.all.new.self _ _ c.all.ensures.ran (YieldsList-from_first (λ x. x) (facts_left m) _ c.of.ensures) (λ x b q k. search (rules, tests))) (within_all h c.args.a c.args.b)
