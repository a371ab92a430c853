use Rattle.std.proofs.Common.{rules, tests}
use Rattle.terms.proofs.Formed.{facts_of}
use Rattle.proposals.proofs.Rows.{entry_read}
use Rattle.proposals.proofs.proposal.form.Inspection.entry_right.Goals as goal

pub returns-else-birthplace-eq0 : goal.returns-else-birthplace-eq0
returns-else-birthplace-eq0 g c =
    entry_read _ (facts_of _ c.args.self.now.program.now.formed) _ _ _ _ c.entry-birthplace.ensures c.if-birthplace-eq0.false _ _ _ c.try_from.ensures c.is_ok_and.ensures (λ l q. search (rules, tests))
