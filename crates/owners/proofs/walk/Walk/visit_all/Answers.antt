use Rattle.std.proofs.Common.{rules, arith, ◌≡◌, suc, ◌-◌, ◌≤◌, set, sym, ap, ◌∙◌}
use Rattle.terms.specs.Model.{model}
use Rattle.owners.specs.Scoping.{owner_at}
use Rattle.owners.proofs.Opened.{no_scopes}
use Rattle.owners.proofs.Noting.{BothNoted, first_noted, note_some, note_none, last_noted}
use Rattle.owners.proofs.walk.Walk.visit_all.Goals as goal
use Rattle.owners.proofs.walk.Walk.visit_all.Goals.{in-Some, in_default}

pub loop-label-init : goal.loop-label-init
loop-label-init g c =
    let p = model c.args.self.now.program.now in
    let none = no_scopes p c.last-label.ensures.formed in
    let noted = first_noted p _ _ _ c.last-label.ensures.label c.requires.1.0 c.requires.1.1 in
    search rules

pub loop-label-preserved : goal.loop-label-preserved
loop-label-preserved g c =
    let p = model c.args.self.now.program.now in
    let l = c.loop-label.label in
    let low : 1 ≤ l = c.loop-label-test.true in
    let down : l ≡ suc (l - 1) = omega arith in
    let stood = c.loop-label.invariant in
    let at : c.in_ok-owner.field-0 ≡ owner_at p l = search rules in
    let noted : BothNoted p (l - 1) c.match-branch-2.owners c.match-branch-2.captured = elim c.match-branch-2.branch [
      | in-Some w ↦ note_some p l w.in-Some.owner _ _ _ _ (sym w.in-Some.is ∙ at) low (omega arith) w.owners-is (w.captured-is ∙ ap (set c.loop-label.captured l) w.from.ensures) stood.2
      | in_default w ↦ rw (w.owners-is, w.captured-is) (note_none p l _ _ (sym w.in_default.is ∙ at) stood.2)
    ] in
    search rules

pub returns-clause-owners : goal.returns-clause-owners
returns-clause-owners g c = (last_noted (model c.args.self.now.program.now) _ _ _ (omega arith) c.loop-label.invariant.2).0

pub returns-clause-captured : goal.returns-clause-captured
returns-clause-captured g c = (last_noted (model c.args.self.now.program.now) _ _ _ (omega arith) c.loop-label.invariant.2).1
