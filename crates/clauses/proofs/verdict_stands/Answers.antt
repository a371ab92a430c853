use Rattle.clauses.proofs.Verdicts.{check_accepts, check_refuses, verdict_accepts, verdict_refuses}
use Rattle.clauses.proofs.Numbers.{part_numbers}
use Rattle.clauses.proofs.verdict_stands.Goals as goal

pub returns : goal.returns
returns c = record { whole = check_accepts; refusals = check_refuses; accepts = verdict_accepts; refuses = verdict_refuses; numbers = part_numbers }
