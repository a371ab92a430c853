use Rattle.std.proofs.Common.{◌≡◌, rules}
use Rattle.std.specs.Option.{MatchOption}
use Rattle.std.specs.Slice.{IsItemAt}
use Rattle.terms.specs.declared.term.Term.TheVariants.{Quote}
use Rattle.terms.proofs.Lookups.{above_is}
use Rattle.terms.proofs.program.Program.above.Goals as goal

pub returns : goal.returns
returns c =
    let ns = c.args.self.now.table.nodes.items in
    let found : IsItemAt ns c.args.label c.get.result = search rules in
    let e : MatchOption c.get.result (c.map_or.result ≡ Quote 0) (λ x. c.map_or.result ≡ x.now.term) = search rules in
    above_is ns c.args.label _ _ found e
