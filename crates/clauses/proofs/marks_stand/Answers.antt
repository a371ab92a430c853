use Rattle.clauses.proofs.Marking.{marks_exact, marks_bytes}
use Rattle.clauses.proofs.marks_stand.Goals as goal

pub returns : goal.returns
returns c = record { exact = marks_exact; bytes = marks_bytes }
