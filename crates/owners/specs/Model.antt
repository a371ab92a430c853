-- The list of open scopes in memory, the innermost first.
use Rattle.std.specs.Prelude.{List, reverse}
use Rattle.arrayvec.specs.ArrayVec.{ArrayVec}
use Rattle.owners.specs.declared.scope.Scope.{Scope}

abbrev pub open_scopes : ArrayVec Scope → List Scope
open_scopes v = reverse v.items
