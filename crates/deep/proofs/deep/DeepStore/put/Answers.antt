use Rattle.std.proofs.Common.{Ok, ap, ◌∙◌}
use Rattle.stores.proofs.Calls.{known}
use Rattle.deep.specs.Records.{held}
use Rattle.deep.proofs.Places.{put_bound, put_free}
use Rattle.deep.proofs.deep.DeepStore.put.Goals as goal

pub returns-in-Some : goal.returns-in-Some
returns-in-Some g c =
    let s = c.args.self.now in
    ap (λ v. (Ok tt, held v s.top.things)) c.set.ensures
    ∙ put_bound s.bindings s.top.things c.args.variable (known _ _ c.check_variable.ensures c.in_ok-check_variable.was) c.in-Some.place c.in-Some.binding c.args.thing
    c.in-Some.ensures.place c.in-Some.ensures.binding

pub returns-in-None : goal.returns-in-None
returns-in-None g c =
    let s = c.args.self.now in
    ap (λ v. (Ok tt, held s.bindings v)) c.give.ensures
    ∙ put_free s.bindings s.top.things c.args.variable (known _ _ c.check_variable.ensures c.in_ok-check_variable.was) c.args.thing c.in-None.ensures.binding
