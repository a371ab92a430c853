use Rattle.std.proofs.Common.{sym, rules}
use Rattle.terms.specs.Model.{model}
use Rattle.terms.proofs.Lookups.{last_is}
use Rattle.terms.proofs.Formed.{facts_of}
use Rattle.terms.proofs.program.Program.last.Goals as goal

pub returns : goal.returns
returns c =
    let p = c.args.self.now in
    record { label = rw (sym (last_is p.table.nodes.items p.table.symbols p.definitions.items)) (search rules); formed = facts_of (model p) p.formed }
