use Rattle.stores.proofs.Laws.{lawful}
use Rattle.stores.proofs.shadow.shadowed.Goals as goal

pub returns-in_err-bind-clause-laws : goal.returns-in_err-bind-clause-laws
returns-in_err-bind-clause-laws g c = lawful g.row.S-Thing.Denot

pub returns-clause-laws : goal.returns-clause-laws
returns-clause-laws g c = lawful g.row.S-Thing.Denot
