use Rattle.std.proofs.Common.{◌∙◌}
use Rattle.terms.proofs.Formed.{facts_of}
use Rattle.proposals.proofs.Memory.{few_rows}
use Rattle.proposals.proofs.Named.{at_fact, at_none}
use Rattle.proposals.proofs.proposal.form.Inspection.fact_right.Goals as goal

pub returns-in-Ok : goal.returns-in-Ok
returns-in-Ok g c =
    let i = c.args.self.now in
    c.names.ensures ∙ at_fact _ (facts_of _ i.program.now.formed) _ (few_rows _ i.proposal.now.few) _ _ c.in-Ok.ensures

pub returns-in-Err : goal.returns-in-Err
returns-in-Err g c =
    let i = c.args.self.now in at_none _ (facts_of _ i.program.now.formed) _ (few_rows _ i.proposal.now.few) _ c.in-Err.ensures
