use Rattle.facts.proofs.Listing.{left_none, left_some}
use Rattle.facts.proofs.members.MembersIterator.next.Goals as goal

pub returns-in_err-fact-clause-steps : goal.returns-in_err-fact-clause-steps
returns-in_err-fact-clause-steps g c =
    let s = c.args.self.now in
    let e = left_none (g.F.Facts.members s.facts.now) s.set s.from c.in_err-fact.ensures.smallest in
    rw c.from_residual.ensures (e, e)

pub returns-clause-steps : goal.returns-clause-steps
returns-clause-steps g c =
    let s = c.args.self.now in left_some (g.F.Facts.members s.facts.now) s.set s.from _ c.in_ok-fact.ensures.smallest
