use Rattle.std.proofs.Common.{refl}
use Rattle.terms.specs.Script.{term_at, first_at, spans, binds, parameter}
use Rattle.terms.specs.Examples.{dynamic, closure}
use Rattle.terms.specs.Form.{term_right, program_of}
use Rattle.owners.specs.Owners.{least, some_of, owner, captured}
use Rattle.trials.proofs.tests.worked.Goals as goal

pub returns : goal.returns
unfolding dynamic closure term_at first_at spans binds parameter term_right program_of least some_of owner captured
returns c = record {
  closure_made = refl;
  closure_owner = refl;
  closure_captured = refl;
  dynamic_made = refl;
  dynamic_first = refl;
  dynamic_binder = refl;
  dynamic_body = refl;
  dynamic_let = refl;
  dynamic_free = refl;
  no_terms = refl;
  too_few_symbols = refl;
  first_wrong = refl;
}
