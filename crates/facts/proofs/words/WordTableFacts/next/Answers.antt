use Rattle.std.proofs.Common.{◌+◌, ◌*◌, arith, rules}
use Rattle.facts.proofs.Firsts.{next_by, next_none, next_no_more}
use Rattle.facts.proofs.Scan.{first_after, none_before, first_later}
use Rattle.facts.proofs.words.WordTableFacts.next.Goals as goal

pub returns-in_err-start : goal.returns-in_err-start
returns-in_err-start c = rw c.from_residual.ensures (next_no_more _ _ _ c.in_err-start.ensures)

pub returns-then-rest-ne0 : goal.returns-then-rest-ne0
returns-then-rest-ne0 c =
    let at = c.in_ok-start.ensures in
    next_by _ _ _ _ (first_after _ _ _ _ at.0 at.1 at.2 (search rules) c.if-rest-ne0.true)

pub returns-in_err-w : goal.returns-in_err-w
returns-in_err-w c =
    let at = c.in_ok-start.ensures in
    rw c.from_residual-in_err-w.ensures (next_none _ _ _ (λ k lo hi. none_before _ _ _ _ at.0 at.1 at.2 c.if-rest-ne0.false (72 * (c.from.result + 1)) c.in_err-w.ensures k lo hi (omega (arith, c.from.ensures))))

pub returns : goal.returns
returns c =
    let at = c.in_ok-start.ensures in
    let here = c.in_ok-w.ensures in
    next_by _ _ _ _ (first_later _ _ _ _ at.0 at.1 at.2 c.if-rest-ne0.false _ here.3 here.0 (omega (arith, here.1, c.from.ensures)) here.2 (search rules))
