use Rattle.std.proofs.Common.{Err, refl, sym, ◌∙◌}
use Rattle.faults.specs.declared.fault.Fault.TheVariants.{MemoryLength}
use Rattle.terms.proofs.Formed.{facts_of}
use Rattle.proposals.proofs.Laws.{memory_lengths, memory_wrong, no_memory, wrong_rows, wrong_masks, past_masks, due_since, refusal, made}
use Rattle.proposals.proofs.proposal.Proposal.over.Goals as goal

pub returns-then-rows-ne0 : goal.returns-then-rows-ne0
returns-then-rows-ne0 g c =
    refusal _ _ (facts_of _ c.args.program.now.formed) g.F.Facts.members (Err MemoryLength) MemoryLength refl (no_memory _ _ (memory_wrong _ c.then-rows-ne0.either))

pub returns-in_err-check_rows : goal.returns-in_err-check_rows
returns-in_err-check_rows g c =
    let m = memory_lengths _ c.if-rows-ne0.false c.if-rows-lt32.false c.if-rows-gt512.false c.if-masks-ne256.false in
    refusal _ _ (facts_of _ c.args.program.now.formed) g.F.Facts.members _ _ c.from_residual.ensures.1 (wrong_rows _ _ m _ c.in_err-check_rows.ensures)

pub returns-in_err-check_masks : goal.returns-in_err-check_masks
returns-in_err-check_masks g c =
    let m = memory_lengths _ c.if-rows-ne0.false c.if-rows-lt32.false c.if-rows-gt512.false c.if-masks-ne256.false in
    refusal _ _ (facts_of _ c.args.program.now.formed) g.F.Facts.members _ _ c.from_residual-in_err-check_masks.ensures.1 (wrong_masks _ _ m c.in_ok-check_rows.ensures _ c.in_err-check_masks.ensures)

pub returns-in_err-check_facts : goal.returns-in_err-check_facts
returns-in_err-check_facts g c =
    let m = memory_lengths _ c.if-rows-ne0.false c.if-rows-lt32.false c.if-rows-gt512.false c.if-masks-ne256.false in
    refusal _ _ (facts_of _ c.args.program.now.formed) g.F.Facts.members _ _ c.from_residual-in_err-check_facts.ensures.1 (past_masks _ _ m c.in_ok-check_rows.ensures c.in_ok-check_masks.ensures ∙ sym c.in_err-check_facts.ensures)

pub returns : goal.returns
returns g c =
    let m = memory_lengths _ c.if-rows-ne0.false c.if-rows-lt32.false c.if-rows-gt512.false c.if-masks-ne256.false in
    let d = past_masks _ _ m c.in_ok-check_rows.ensures c.in_ok-check_masks.ensures ∙ sym c.in_ok-check_facts.ensures in
    record { verdict = made _ _ d; exactly = due_since _ _ d }
