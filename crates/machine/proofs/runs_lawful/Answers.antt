use Rattle.machine.proofs.runs_lawful.Goals as goal
use Rattle.machine.proofs.Rows.{refused_same}
use Rattle.machine.proofs.Steps.{runs_are_steps, reads_newest, assigns_newest, scopes_close}
use Rattle.machine.proofs.Opening.{begins_by_rule}
use Rattle.machine.proofs.Worked.{worked}

pub returns : goal.returns
returns c = record {
  refused = refused_same;
  runs = runs_are_steps;
  reads = reads_newest;
  assigns = assigns_newest;
  scopes = scopes_close;
  begins = begins_by_rule;
  worked = worked;
}
