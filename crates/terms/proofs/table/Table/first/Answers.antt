use Rattle.std.proofs.Common.{◌≡◌, ◌∙◌, unwrap_or, rules}
use Rattle.std.specs.Prelude.{option_map}
use Rattle.terms.specs.declared.table.Node.{Node}
use Rattle.terms.specs.Table.{node_at}
use Rattle.terms.proofs.Lookups.{first_is}
use Rattle.terms.proofs.table.Table.first.Goals as goal

pub returns : goal.returns
returns c =
    let t = c.args.self.now in
    let e : c.map_or.result ≡ unwrap_or (option_map (λ (n : Node). n.first) (node_at t.nodes.items c.args.label)) 0 = search rules in
    e ∙ first_is t.nodes.items t.begun c.args.label
