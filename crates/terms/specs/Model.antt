-- The script that a program stands for.
use Rattle.std.specs.Prelude.{Ok, Err, Result}
use Rattle.faults.specs.declared.fault.Fault.{Fault}
use Rattle.terms.specs.declared.program.Program.{Program}
use Rattle.terms.specs.Script.{Script}
use Rattle.terms.specs.Table.{script_in}

abbrev pub model : Program → Script
model p = script_in p.table.nodes.items p.table.symbols p.definitions.items

-- what a call that makes a program made
abbrev pub made_script : Result Program Fault → Result Script Fault
made_script (Ok p) = Ok (model p)
made_script (Err e) = Err e
