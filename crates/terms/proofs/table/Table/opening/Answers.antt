use Rattle.std.proofs.Common.{◌≡◌, None, Some, length, slice_index_or, rules}
use Rattle.terms.specs.Script.{first_at}
use Rattle.terms.specs.Table.{terms_in}
use Rattle.terms.specs.Reading.{passed}
use Rattle.terms.proofs.Openings.{opened}
use Rattle.terms.proofs.table.Table.opening.Goals as goal

pub returns : goal.returns
returns c =
    let f = first_at (terms_in c.args.self.now.nodes.items) in
    let n : length c.children.result ≡ 3 = search rules in
    let third : passed f (slice_index_or c.children.result 2 None) c.args.label ≡ Some c.in_ok-next.next = search rules in
    let second : passed f (slice_index_or c.children.result 1 None) c.in_ok-next.next ≡ Some c.in_ok-next-2.next = search rules in
    let first : c.passed-3.result ≡ passed f (slice_index_or c.children.result 0 None) c.in_ok-next-2.next = search rules in
    search (rules, opened f c.children.result c.args.label _ _ n third second)
