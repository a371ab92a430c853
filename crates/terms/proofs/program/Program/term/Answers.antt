use Rattle.std.proofs.Common.{◌≡◌, ◌∙◌, rules}
use Rattle.std.specs.Prelude.{option_map}
use Rattle.terms.specs.declared.table.Node.{Node}
use Rattle.terms.specs.Table.{node_at}
use Rattle.terms.proofs.Lookups.{term_is}
use Rattle.terms.proofs.program.Program.term.Goals as goal

pub returns : goal.returns
returns c =
    let p = c.args.self.now in
    let e : c.map.result ≡ option_map (λ (n : Node). n.term) (node_at p.table.nodes.items c.args.label) = search rules in
    e ∙ term_is p.table.nodes.items p.table.symbols p.definitions.items c.args.label
