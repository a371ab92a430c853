use Rattle.std.proofs.Common.{sym, ◌∙◌}
use Rattle.stores.proofs.Calls.{known}
use Rattle.shallow.proofs.Trails.{put_sound, put_cell, put_top}
use Rattle.shallow.proofs.shallow.ShallowStore.put.Goals as goal

pub invariant_of-self-in-Some : goal.invariant_of-self-in-Some
invariant_of-self-in-Some g c =
    let s = c.args.self.now in
    record {
      sound = put_sound s.cells.things s.trail s.top.things s.sound c.args.variable c.args.thing (known _ _ c.check_variable.ensures c.in_ok-check_variable.was) s.cells.sized
          (c.in-Some.field-0-0, c.in-Some.birthplace) (sym c.at.ensures ∙ c.in-Some.is) _ c.give-in-Some.ensures;
    }

pub returns-in-Some : goal.returns-in-Some
returns-in-Some g c =
    let s = c.args.self.now in
    put_cell s.cells.things s.trail s.top.things s.sound c.args.variable c.args.thing (known _ _ c.check_variable.ensures c.in_ok-check_variable.was) s.cells.sized
    (c.in-Some.field-0-0, c.in-Some.birthplace) (sym c.at.ensures ∙ c.in-Some.is) _ c.give-in-Some.ensures

pub returns-in-None : goal.returns-in-None
returns-in-None g c =
    let s = c.args.self.now in
    put_top s.cells.things s.trail s.top.things s.sound c.args.variable c.args.thing (known _ _ c.check_variable.ensures c.in_ok-check_variable.was)
    _ (sym c.at.ensures ∙ c.in-None.is) c.give.ensures
