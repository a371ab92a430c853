use Rattle.std.proofs.Common.{◌≡◌, Some, ap, ◌∙◌, rules}
use Rattle.std.specs.Option.{MatchOption}
use Rattle.terms.specs.Script.{or_else, binds, bound_by, defun_parameter}
use Rattle.terms.proofs.Lookups.{or_else_is}
use Rattle.terms.proofs.program.Program.binder.Goals as goal

pub returns : goal.returns
unfolding binds
returns c =
    let ds = c.args.self.now.definitions.items in
    let e : MatchOption c.bound.result (c.or_else.result ≡ defun_parameter ds c.args.label) (λ x. c.or_else.result ≡ Some x) = search rules in
    or_else_is _ _ _ e ∙ ap (λ o. or_else o (defun_parameter ds c.args.label)) (c.bound.ensures ∙ ap bound_by c.above.ensures)
