use Rattle.shallow.proofs.Trails.{sound_none, unwound_none}
use Rattle.shallow.proofs.shallow.Shallow.over.Goals as goal

pub invariant_of-result : goal.invariant_of-result
invariant_of-result g c = record { sound = sound_none _ _ _ c.over-trail.ensures c.filled-cells.ensures }

pub returns : goal.returns
returns g c = unwound_none _ _ _ c.over-trail.ensures _ c.filled-top.ensures
