use Rattle.std.proofs.Common.{sym}
use Rattle.std.proofs.lemmas.Result.{err_from_is_err_and}
use Rattle.terms.proofs.Makes.{read_with, wrong_with, wrong_sizes, wrong_term, wrong_definitions, right_program, made_formed}
use Rattle.terms.proofs.Laws.{exactly, first}
use Rattle.terms.proofs.program.Program.make.Goals as goal

pub returns-then-not-sizes_right : goal.returns-then-not-sizes_right
returns-then-not-sizes_right c = record { result = wrong_sizes _ _ _ (sym c.if-not-sizes_right.ensures); exactly = exactly _ _ _; first = first _ _ _ }

pub returns-in_err-read : goal.returns-in_err-read
returns-in_err-read c =
    let p = err_from_is_err_and c.from_residual.result c.from_residual.ensures.1 in
    record { result = rw (p.1, p.2) (wrong_term _ _ _ (sym c.if-not-sizes_right.ensures) _ (wrong_with c.args.terms.now _ _ _ c.new-table.ensures.1 c.in_err-read.ensures)); exactly = exactly _ _ _; first = first _ _ _ }

pub returns-in_err-definitions : goal.returns-in_err-definitions
returns-in_err-definitions c =
    let p = err_from_is_err_and c.from_residual-in_err-definitions.result c.from_residual-in_err-definitions.ensures.1 in
    record {
      result = rw (p.1, p.2) (wrong_definitions _ _ _ (sym c.if-not-sizes_right.ensures) _ (read_with _ _ _ _ c.new-table.ensures.1 c.in_ok-read.ensures) _ c.in_err-definitions.ensures);
      exactly = exactly _ _ _;
      first = first _ _ _;
    }

pub invariant_of-result : goal.invariant_of-result
invariant_of-result c =
    record { formed = made_formed _ _ _ (sym c.if-not-sizes_right.ensures) _ (read_with _ _ _ _ c.new-table.ensures.1 c.in_ok-read.ensures) _ c.in_ok-definitions.ensures }

pub returns : goal.returns
returns c =
    record {
      result = right_program _ _ _ (sym c.if-not-sizes_right.ensures) _ (read_with _ _ _ _ c.new-table.ensures.1 c.in_ok-read.ensures) _ c.in_ok-definitions.ensures;
      exactly = exactly _ _ _;
      first = first _ _ _;
    }
