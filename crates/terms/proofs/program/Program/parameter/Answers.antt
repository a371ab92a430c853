use Rattle.std.proofs.Common.{◌≡◌, Some, ap, ◌∙◌, rules}
use Rattle.std.specs.Option.{MatchOption}
use Rattle.terms.specs.Script.{or_else, parameter, lambda_variable, defun_parameter}
use Rattle.terms.proofs.Lookups.{or_else_is}
use Rattle.terms.proofs.program.Program.parameter.Goals as goal

pub returns : goal.returns
unfolding parameter
returns c =
    let ds = c.args.self.now.definitions.items in
    let e : MatchOption c.parameter.result (c.or_else.result ≡ defun_parameter ds c.args.body) (λ x. c.or_else.result ≡ Some x) = search rules in
    or_else_is _ _ _ e ∙ ap (λ o. or_else o (defun_parameter ds c.args.body)) (c.parameter.ensures ∙ ap lambda_variable c.above.ensures)
