use Rattle.std.proofs.Common.{rules}
use Rattle.terms.proofs.Lookups.{found_in}
use Rattle.terms.proofs.program.Program.defun.Goals as goal

pub returns : goal.returns
returns c =
    let ds = c.args.self.now.definitions.items in
    found_in ds c.args.body c.find_map.result (λ e k d lt. search rules) (λ y e. search rules)
