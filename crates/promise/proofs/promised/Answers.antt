use Rattle.promise.proofs.promised.Goals as goal
use Rattle.promise.proofs.Theorem.{promise, passed_promise, always_finds}
use Rattle.promise.proofs.Worked.{worked}

pub returns : goal.returns
returns c = record { promise = promise; passed = passed_promise; found = always_finds; worked = worked }
