use Rattle.std.proofs.Common.{find, option_map, sym, ap, ◌∙◌}
use Rattle.deep.proofs.Places.{of, item_found, none_found}
use Rattle.deep.proofs.deep.Deep.newest.Goals as goal

pub returns-in_err-place-clause-binding : goal.returns-in_err-place-clause-binding
returns-in_err-place-clause-binding g c =
    ap (λ o. option_map (λ p. p.1) o) c.from_residual.ensures ∙ none_found (of c.args.variable) c.as_slice-bindings.result.now (sym c.in_err-place.was ∙ c.place.ensures)
    ∙ ap (find (of c.args.variable)) c.as_slice-bindings.ensures

pub returns-clause-binding : goal.returns-clause-binding
returns-clause-binding g c =
    item_found (of c.args.variable) c.as_slice-bindings.result.now c.in_ok-place.place c.index-bindings-place.result (sym c.in_ok-place.was ∙ c.place.ensures) c.index-bindings-place.is
    ∙ ap (find (of c.args.variable)) c.as_slice-bindings.ensures
