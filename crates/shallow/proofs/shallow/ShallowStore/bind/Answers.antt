use Rattle.std.proofs.Common.{Err, ap, ◌∙◌}
use Rattle.std.proofs.lemmas.Result.{err_from_is_err_and}
use Rattle.shallow.specs.Trail.{unwound}
use Rattle.stores.proofs.Calls.{known}
use Rattle.shallow.proofs.Trails.{bind_refused, bind_sound, bind_done}
use Rattle.shallow.proofs.shallow.ShallowStore.bind.Goals as goal

pub returns-in_err-push : goal.returns-in_err-push
returns-in_err-push g c =
    let s = c.args.self.now in
    let p = err_from_is_err_and c.from_residual-in_err-push.result c.from_residual-in_err-push.ensures.1 in
    ap (λ v. (v, unwound s.cells.things c.push.new.self s.top.things)) (p.1 ∙ ap Err p.2)
    ∙ bind_refused s.cells.things s.trail s.top.things s.sound c.args.variable c.args.thing c.args.birthplace _ _ _
    (known _ _ c.check_variable.ensures c.in_ok-check_variable.was) c.at-covered.ensures c.push.ensures _ c.in_err-push.was

pub invariant_of-self-2 : goal.invariant_of-self-2
invariant_of-self-2 g c =
    let s = c.args.self.now in
    record {
      sound = bind_sound s.cells.things s.trail s.top.things s.sound c.args.variable c.args.thing c.args.birthplace _ _ _
          (known _ _ c.check_variable.ensures c.in_ok-check_variable.was) c.at-covered.ensures c.push.ensures c.in_ok-push.was _ s.cells.sized c.give.ensures;
    }

pub returns : goal.returns
returns g c =
    let s = c.args.self.now in
    bind_done s.cells.things s.trail s.top.things s.sound c.args.variable c.args.thing c.args.birthplace _ _ _
    (known _ _ c.check_variable.ensures c.in_ok-check_variable.was) c.at-covered.ensures c.push.ensures c.in_ok-push.was _ s.cells.sized c.give.ensures
