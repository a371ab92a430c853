use Rattle.shallow.proofs.Trails.{sound_none, unwound_none}
use Rattle.shallow.proofs.shallow.ShallowStore.clear.Goals as goal

pub invariant_of-self : goal.invariant_of-self
invariant_of-self g c = record { sound = sound_none _ _ _ c.clear.ensures c.filled-self.ensures }

pub returns : goal.returns
returns g c = unwound_none _ _ _ c.clear.ensures _ c.filled-self-2.ensures
