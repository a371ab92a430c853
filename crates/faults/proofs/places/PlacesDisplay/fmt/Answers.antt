-- what an arm writes is the text of its case
use Rattle.std.proofs.Common.{sym, ap}
use Rattle.std.specs.Fmt.{digits}
use Rattle.faults.specs.Places.{named, listed}
use Rattle.faults.specs.declared.places.Places.{Places}
use Rattle.faults.proofs.places.PlacesDisplay.fmt.Goals as goal
use Rattle.std.proofs.Output.{has_written_of_eq}

pub returns-in-Nowhere-clause-writes : goal.returns-in-Nowhere-clause-writes
unfolding digits
returns-in-Nowhere-clause-writes g c = λ p ok. has_written_of_eq g.W.Write.write_str_gives _ _ _ _ (sym (ap (λ (q : Places). listed (named q)) c.in-Nowhere.is)) (c.write.ensures.writes p ok)
