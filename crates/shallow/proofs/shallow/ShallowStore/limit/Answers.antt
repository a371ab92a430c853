use Rattle.shallow.proofs.Lengths.{formed}
use Rattle.shallow.proofs.shallow.ShallowStore.limit.Goals as goal

pub returns-clause-formed : goal.returns-clause-formed
returns-clause-formed g c = let s = c.args.self.now in formed s.cells.things s.trail s.top.things s.sound s.top.sized
