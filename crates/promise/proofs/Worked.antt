-- The worked script: its premises are met, and its rows compute.
use Rattle.std.proofs.Common.{refl}
use Rattle.terms.specs.Script.{last, term_at, first_at, spans, binds, parameter, is_input}
use Rattle.owners.specs.Owners.{least, some_of, owner, captured}
use Rattle.proposals.specs.Counting.{every}
use Rattle.proposals.specs.Tables.{contexts, entry, listed}
use Rattle.clauses.specs.Marks.{keeps_own, seen_by_own, marked, marks_of}
use Rattle.terms.specs.Examples.{dynamic}
use Rattle.clauses.specs.Worked.{dynamic_tables}
use Rattle.clauses.proofs.Worked as clauses
use Rattle.machine.proofs.Worked as machine
use Rattle.promise.specs.Lies.{number, function}
use Rattle.promise.specs.Promise.{no_marks}
use Rattle.promise.specs.Worked.{Worked}
use Rattle.promise.proofs.Theorem.{promise}

pub worked : Worked
unfolding last term_at first_at spans binds parameter is_input least some_of owner captured every contexts entry listed keeps_own seen_by_own marked marks_of dynamic dynamic_tables no_marks
worked = record {
  verdicts = clauses.worked;
  rows = machine.worked;
  formed = clauses.formed;
  accepted = clauses.accepted;
  promises = promise dynamic clauses.formed dynamic_tables clauses.accepted;
  plain = refl;
  with_marks = refl;
  read_x = record { variable = 2; occurrence = refl; context = 2; in_list = refl; names = refl; lies = number refl };
  read_f = record { variable = 3; occurrence = refl; context = 1; in_list = refl; names = refl; lies = function refl };
}
