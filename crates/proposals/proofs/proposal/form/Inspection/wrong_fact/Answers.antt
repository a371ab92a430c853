use Rattle.std.proofs.Common.{not, sym, ◌∙◌, rules, tests}
use Rattle.std.proofs.lemmas.Iterator.Consumers.{YieldsList-from_first}
use Rattle.std.proofs.lemmas.Iterator.Adapters.{option_map_id}
use Rattle.std.proofs.lemmas.Iterator.Search.{find_from_yields_List}
use Rattle.facts.specs.Members.{facts_left}
use Rattle.facts.proofs.Listing.{find_first}
use Rattle.proposals.specs.DueForm.{fact_right, wrong_fact}
use Rattle.proposals.specs.Model.{script, inspected}
use Rattle.proposals.proofs.proposal.form.Inspection.wrong_fact.Goals as goal

pub returns : goal.returns
unfolding wrong_fact
returns g c =
    let m = g.F.Facts.members in
    let i = c.args.self.now in
    let f = find_from_yields_List (λ k. not (fact_right (script i) (inspected m i) k)) c.find.new.self _ _ c.find.ensures.ran (YieldsList-from_first (λ x. x) (facts_left m) _ c.of.ensures) (λ x b q k. search (rules, tests)) in
    sym (option_map_id _) ∙ f ∙ find_first _ _ 0 4608
