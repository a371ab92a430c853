use Rattle.std.proofs.Common.{Err, ap, ◌∙◌}
use Rattle.std.proofs.lemmas.Result.{err_from_is_err_and}
use Rattle.shallow.specs.Trail.{unwound}
use Rattle.shallow.proofs.Trails.{unbind_refused, unbind_sound, unbind_done}
use Rattle.shallow.proofs.shallow.ShallowStore.unbind.Goals as goal

pub returns-in_err-newest : goal.returns-in_err-newest
returns-in_err-newest g c =
    let s = c.args.self.now in
    let p = err_from_is_err_and c.from_residual.result c.from_residual.ensures.1 in
    ap (λ v. (v, unwound s.cells.things c.pop.new.self s.top.things)) (p.1 ∙ ap Err p.2)
    ∙ unbind_refused s.cells.things s.trail s.top.things s.sound _ _ c.pop.ensures _ c.in_err-newest.was

pub invariant_of-self-2 : goal.invariant_of-self-2
invariant_of-self-2 g c =
    let s = c.args.self.now in
    record { sound = unbind_sound s.cells.things s.trail s.top.things s.sound _ _ c.pop.ensures c.in_ok-newest.newest c.in_ok-newest.was _ c.set.ensures }

pub returns : goal.returns
returns g c =
    let s = c.args.self.now in
    unbind_done s.cells.things s.trail s.top.things s.sound _ _ c.pop.ensures c.in_ok-newest.newest c.in_ok-newest.was _ c.set.ensures
