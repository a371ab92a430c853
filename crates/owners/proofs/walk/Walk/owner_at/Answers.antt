use Rattle.std.proofs.Common.{rules}
use Rattle.owners.proofs.Turns.{looks}
use Rattle.owners.proofs.walk.Walk.owner_at.Goals as goal

pub returns-in_err-found : goal.returns-in_err-found
returns-in_err-found g c = let found = looks c.args.self.now c.args.label _ c.in-Some.ensures in search rules

pub returns : goal.returns
returns g c = let found = looks c.args.self.now c.args.label _ c.in-Some.ensures in search rules
