use Rattle.machine.proofs.store_suffices.Goals as goal
use Rattle.machine.proofs.Rows.{always_orderly, never_more, never_declined}

pub returns : goal.returns
returns c = record { orderly = always_orderly; bindings = never_more; declined = never_declined }
