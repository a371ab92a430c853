use Rattle.std.proofs.Common.{Ok, ap, ◌∙◌}
use Rattle.stores.proofs.Calls.{known}
use Rattle.shallow.proofs.Lengths.{formed}
use Rattle.shallow.proofs.Trails.{look_cell, look_top}
use Rattle.shallow.proofs.shallow.ShallowStore.look.Goals as goal

pub returns-in_err-check_variable-clause-formed : goal.returns-in_err-check_variable-clause-formed
returns-in_err-check_variable-clause-formed g c = let s = c.args.self.now in formed s.cells.things s.trail s.top.things s.sound s.top.sized

pub returns-in-Some : goal.returns-in-Some
returns-in-Some g c =
    let s = c.args.self.now in
    record {
      answer = look_cell s.cells.things s.trail s.top.things s.sound c.args.variable _ (known _ _ c.check_variable.ensures c.in_ok-check_variable.was) c.in-Some.ensures;
      formed = formed s.cells.things s.trail s.top.things s.sound s.top.sized;
    }

pub returns-in-None : goal.returns-in-None
returns-in-None g c =
    let s = c.args.self.now in
    record {
      answer = ap Ok c.outermost.ensures
          ∙ look_top s.cells.things s.trail s.top.things s.sound c.args.variable (known _ _ c.check_variable.ensures c.in_ok-check_variable.was) c.in-None.ensures;
      formed = formed s.cells.things s.trail s.top.things s.sound s.top.sized;
    }
