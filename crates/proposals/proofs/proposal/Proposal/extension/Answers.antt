use Rattle.std.proofs.Common.{sym, rules, tests, arith}
use Rattle.facts.proofs.Firsts.{found_in_range}
use Rattle.proposals.proofs.Rows.{found, extension_outside}
use Rattle.proposals.proofs.proposal.Proposal.extension.Goals as goal

pub returns-then-context-contexts : goal.returns-then-context-contexts
returns-then-context-contexts g c = extension_outside _ _ _ _ (rw (sym c.contexts.ensures) c.then-context-contexts.either)

pub returns : goal.returns
returns g c =
    found _ _ _ _ (rw (sym c.contexts.ensures) c.if-context-contexts.false) (omega arith) _ (found_in_range _ c.find.new.self _ _ c.find.ensures.ran (omega (arith, c.contexts-2.ensures)) (λ x b q k. search (rules, tests)))
