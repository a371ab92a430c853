use Rattle.std.proofs.Common.{arith, rules, tests}
use Rattle.facts.proofs.Firsts.{next_by, next_no_more}
use Rattle.facts.proofs.Rising.{next_there, next_past}
use Rattle.facts.proofs.lists.ListTableFacts.next.Goals as goal

pub returns-in_err-start : goal.returns-in_err-start
returns-in_err-start c = rw c.from_residual.ensures (next_no_more _ _ _ c.in_err-start.ensures)

pub returns-in_err-number : goal.returns-in_err-number
returns-in_err-number c =
    rw c.from_residual-in_err-number.ensures (next_by _ _ _ _ (next_past _ _ _ _ c.args.self.now.rising c.in_ok-start.ensures.0 (rw c.in_ok-start.ensures.2 at c.place.ensures) c.in_err-number.ensures.lookup.3))

pub returns : goal.returns
returns c =
    let at = c.in_ok-number.ensures.lookup.3 in
    next_by _ _ _ _ (next_there _ _ _ _ c.args.self.now.rising c.in_ok-start.ensures.0 (rw c.in_ok-start.ensures.2 at c.place.ensures) at.0 _ (omega (arith, c.from.ensures, at.1 0, c.in_ok-start.ensures.2)) _ c.then.ensures.variant _ c.then.ensures.some (λ f k. search (rules, tests)))
