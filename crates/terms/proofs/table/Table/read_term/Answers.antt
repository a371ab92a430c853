use Rattle.std.proofs.Common.{◌≡◌, suc, ◌+◌, length, None, Some, sym, refl, ap, subst, arith, rules}
use Rattle.terms.specs.Syntax.{children, decode}
use Rattle.terms.specs.Script.{first_at}
use Rattle.terms.specs.Table.{terms_in, Begun}
use Rattle.terms.specs.Reading.{named, opening, with_first, next_read}
use Rattle.terms.proofs.Progress.{one_begun}
use Rattle.terms.proofs.Rows.{node_read, not_opened}
use Rattle.faults.specs.declared.fault.Fault.TheVariants.{WrongTerm}
use Rattle.terms.proofs.table.Table.read_term.Goals as goal

pub returns-in_default-opening : goal.returns-in_default-opening
returns-in_default-opening c =
    let t = c.args.self.now in
    let f = first_at (terms_in t.nodes.items) in
    let e : named t.symbols (decode c.args.row) ≡ Some c.in-Some.term = search rules in
    let l : c.last-label.result + 1 ≡ suc (length t.nodes.items) = omega (arith, c.last-label.ensures) in
    let o : opening f (children c.in-Some.term) (c.last-label.result + 1) ≡ None = search rules in
    (not_opened f t.symbols (suc (length t.nodes.items)) c.args.row c.in-Some.term e (subst (λ m. opening f (children c.in-Some.term) m ≡ None) l o), ap WrongTerm l)

pub invariant_of-self : goal.invariant_of-self
invariant_of-self c =
    let t = c.args.self.now in
    let f = first_at (terms_in t.nodes.items) in
    let e : named t.symbols (decode c.args.row) ≡ Some c.in-Some.term = search rules in
    let l : c.last-label.result + 1 ≡ suc (length t.nodes.items) = omega (arith, c.last-label.ensures) in
    let o : opening f (children c.in-Some.term) (c.last-label.result + 1) ≡ Some c.in-Some-opening.first = search rules in
    let q : next_read t c.args.row ≡ Some (with_first c.in-Some.term c.in-Some-opening.first) =
    node_read f t.symbols (suc (length t.nodes.items)) c.args.row c.in-Some.term e c.in-Some-opening.first (subst (λ m. opening f (children c.in-Some.term) m ≡ Some c.in-Some-opening.first) l o) in
    record { begun = subst Begun (sym c.push.ensures.items) (one_begun t.nodes.items t.symbols c.args.row _ t.begun q) }

pub returns : goal.returns
returns c =
    let t = c.args.self.now in
    let f = first_at (terms_in t.nodes.items) in
    let e : named t.symbols (decode c.args.row) ≡ Some c.in-Some.term = search rules in
    let l : c.last-label.result + 1 ≡ suc (length t.nodes.items) = omega (arith, c.last-label.ensures) in
    let o : opening f (children c.in-Some.term) (c.last-label.result + 1) ≡ Some c.in-Some-opening.first = search rules in
    let q : next_read t c.args.row ≡ Some (with_first c.in-Some.term c.in-Some-opening.first) =
    node_read f t.symbols (suc (length t.nodes.items)) c.args.row c.in-Some.term e c.in-Some-opening.first (subst (λ m. opening f (children c.in-Some.term) m ≡ Some c.in-Some-opening.first) l o) in
    record { node = with_first c.in-Some.term c.in-Some-opening.first; is = q; nodes = c.push.ensures.items; symbols = refl }
