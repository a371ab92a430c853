use Rattle.std.proofs.Common.{ap, ◌∙◌}
use Rattle.std.proofs.lemmas.List.{drop-set-add}
use Rattle.stores.specs.Stack.{set_of}
use Rattle.stores.proofs.stack.Stack.set.Goals as goal

pub returns-then-index-len : goal.returns-then-index-len
returns-then-index-len g c =
    let list = drop-set-add c.self.inside.free c.self.inside.memory.now c.args.index c.args.item in
    ap (λ l. record { items = l; free = c.self.inside.free }) list ∙ ap (λ s. set_of s c.args.index c.args.item) c.self.view_is
