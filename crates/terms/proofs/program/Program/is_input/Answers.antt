use Rattle.std.proofs.Common.{◌∙◌, rules}
use Rattle.std.proofs.lemmas.Iterator.{YieldsList-from_slice}
use Rattle.std.proofs.lemmas.Iterator.Search.{any_from_yields_List}
use Rattle.terms.specs.Script.{takes_input, is_input}
use Rattle.terms.proofs.Lookups.{any_input}
use Rattle.terms.proofs.program.Program.is_input.Goals as goal

pub returns : goal.returns
unfolding is_input
returns c =
    let ds = c.args.self.now.definitions.items in
    any_from_yields_List (λ d. takes_input d c.args.variable) _ _ _ c.any.ensures.ran (YieldsList-from_slice ds (search rules)) (λ x b q k. search rules)
    ∙ any_input ds c.args.variable
