use Rattle.std.proofs.Common.{rules, arith}
use Rattle.terms.specs.Model.{model}
use Rattle.owners.proofs.Turns.{well_formed}
use Rattle.owners.proofs.Opened.{room, scopes_down}
use Rattle.owners.proofs.Owning.{noticed_is}
use Rattle.owners.proofs.walk.Walk.visit.Goals as goal

pub enter-requires : goal.enter-requires
enter-requires g c =
    let program = c.args.self.now.program.now in room (model program) (well_formed program) c.args.label _ _ c.leave.ensures.scopes c.requires

pub returns-clause-owner : goal.returns-clause-owner
returns-clause-owner g c =
    let program = c.args.self.now.program.now in
    let down = scopes_down (model program) (well_formed program) c.args.label (omega arith) in
    let noticed = noticed_is (model program) (well_formed program) c.args.label in
    search rules

pub returns-clause-scopes : goal.returns-clause-scopes
returns-clause-scopes g c =
    let program = c.args.self.now.program.now in
    let down = scopes_down (model program) (well_formed program) c.args.label (omega arith) in
    search rules
