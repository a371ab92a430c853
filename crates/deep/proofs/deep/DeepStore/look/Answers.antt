use Rattle.std.proofs.Common.{Ok, ap, ◌∙◌}
use Rattle.stores.proofs.Calls.{known}
use Rattle.deep.proofs.Places.{look_bound, look_free}
use Rattle.deep.proofs.deep.DeepStore.look.Goals as goal

pub returns-in-Some-clause-answer : goal.returns-in-Some-clause-answer
returns-in-Some-clause-answer g c =
    let s = c.args.self.now in
    look_bound s.bindings s.top.things c.args.variable (known _ _ c.check_variable.ensures c.in_ok-check_variable.was) c.in-Some.bound c.in-Some.ensures.binding

pub returns-in-None-clause-answer : goal.returns-in-None-clause-answer
returns-in-None-clause-answer g c =
    let s = c.args.self.now in
    ap Ok c.outermost.ensures ∙ look_free s.bindings s.top.things c.args.variable (known _ _ c.check_variable.ensures c.in_ok-check_variable.was) c.in-None.ensures.binding
