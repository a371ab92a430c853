use Rattle.shallow.proofs.Lengths.{formed}
use Rattle.shallow.proofs.Trails.{counted}
use Rattle.shallow.proofs.shallow.ShallowStore.count.Goals as goal

pub returns : goal.returns
returns g c = let s = c.args.self.now in record { answer = let k = counted s.cells.things s.trail s.top.things s.sound in cc; formed = formed s.cells.things s.trail s.top.things s.sound s.top.sized }
