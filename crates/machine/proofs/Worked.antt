-- The worked rows compute.
use Rattle.std.proofs.Common.{refl}
use Rattle.terms.specs.Script.{last, term_at, first_at, spans, binds, parameter, is_input}
use Rattle.owners.specs.Owners.{least, some_of, owner, captured}
use Rattle.machine.specs.Open.{owns_captured}
use Rattle.terms.specs.Examples.{dynamic, closure}
use Rattle.machine.specs.Worked.{car_of_nil, counting_up, void, call_of_number, sum_with_nil, wrong_defvar, Worked}

pub worked : Worked
unfolding last term_at first_at spans binds parameter is_input least some_of owner captured owns_captured dynamic closure car_of_nil counting_up void call_of_number sum_with_nil wrong_defvar
worked = record {
  rows = refl;
  rows_marked = refl;
  twelfth = refl;
  told = refl;
  stopped = refl;
  fed = refl;
  voided = refl;
  no_function = refl;
  no_number = refl;
  again = refl;
  captured = refl;
  no_byte = refl;
  no_binder = refl;
  short = refl;
  small = refl;
  begun = refl;
}
