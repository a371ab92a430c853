-- How far the reading of the rows has come.
use Rattle.std.proofs.Common.{◌≡◌, ℕ, suc, ◌+◌, ◌<◌, ◌≤◌, Bool, cond, ◌&&◌, List, [], ◌∷◌, ◌++◌, map, length, get_or, take, drop, replicate, is_some, Some, None, unwrap_or, sym, refl, ap, ◌∙◌, inl, inr, add-one, arith}
use Rattle.std.proofs.lemmas.List.{get_or-replicate, get_or_past, get_or_append_left, map_more, get_or-map, drop_more, drop_all, take_all, length-map, length-append, length-take-le, map-append, take-append-drop}
use Rattle.std.proofs.Math.Seq.{get_or-append_seam}
use Rattle.std.proofs.lemmas.Bool.{cases_lt, cases_eq, cases_Bool, cond-true, cond-false}
use Rattle.faults.specs.declared.fault.Fault.{Fault}
use Rattle.faults.specs.declared.fault.Fault.TheVariants.{WrongTerm}
use Rattle.terms.specs.declared.raw.RawTerm.{RawTerm}
use Rattle.terms.specs.declared.term.Term.{Term}
use Rattle.terms.specs.declared.term.Term.TheVariants.{Quote}
use Rattle.terms.specs.declared.table.Node.{Node}
use Rattle.terms.specs.declared.table.Table.{Table}
use Rattle.terms.specs.Syntax.{decode}
use Rattle.terms.specs.Script.{term_at, first_at}
use Rattle.terms.specs.Table.{terms_in, Begun}
use Rattle.terms.specs.Form.{term_right, term_of, wrong_from}
use Rattle.terms.specs.Reading.{with_first, read_term, next_read, NextRead, NextWrong, NamesWrong, TermsRead}
use Rattle.terms.proofs.Firsts.{first_zero, first_past, first_under}
use Rattle.terms.proofs.Rows.{read_is}

-- a row that is read after the terms us, where ts are those and what the row stands for
module _ (us : List Term) (v : ℕ) (r : RawTerm) (n : Node) (h : read_term (first_at us) v r (suc (length us)) ≡ Some n) where
  abbrev then : List Term
  then = us ++ (term_of r ∷ [])

  as_read : read_term (first_at us) v r (suc (length us)) ≡ cond (is_some (decode r) && term_right v then (suc (length us))) (Some (with_first (term_at then (suc (length us))) (first_at then (suc (length us))))) None
  unfolding term_at
  as_read = read_is v then (suc (length us)) (omega arith) (omega (arith, length-append us (term_of r ∷ []))) (first_at us) (λ c lt. sym (first_under us (term_of r ∷ []) c (omega arith))) r
      (get_or-append_seam us (term_of r) [] (Quote 0))

  pub node_is : n ≡ with_first (term_of r) (first_at then (suc (length us)))
  unfolding term_at
  node_is = elim (cases_Bool (is_some (decode r) && term_right v then (suc (length us)))) [
    | inl q ↦ (let k : Some (with_first (term_at then (suc (length us))) (first_at then (suc (length us)))) ≡ Some n = sym (as_read ∙ cond-true _ _ _ q) ∙ h in
        sym (ap (λ o. unwrap_or {T = Node} o n) k) ∙ ap (λ t. with_first t (first_at then (suc (length us)))) (get_or-append_seam us (term_of r) [] (Quote 0)))
    | inr q ↦ (absurd (let k : None ≡ Some n = sym (as_read ∙ cond-false _ _ _ q) ∙ h in cc))
  ]

pub none_begun : Begun []
none_begun l = elim (cases_lt 0 l) [
  | inl h ↦ (get_or_past (0 ∷ []) l 0 h ∙ sym (first_past [] l h))
  | inr h ↦ (let z : l ≡ 0 = omega arith in ap (λ k. get_or (0 ∷ []) k 0) z ∙ sym (first_zero []) ∙ ap (first_at []) (sym z))
]

-- a table with one more node, which is read after the others, has the first label of each term
pub one_begun : (ns : List Node) (v : ℕ) (r : RawTerm) (n : Node) → Begun ns → read_term (first_at (terms_in ns)) v r (suc (length ns)) ≡ Some n → Begun (ns ++ (n ∷ []))
one_begun ns v r n begun h l =
    let us = terms_in ns in
    let long : length us ≡ length ns = length-map ns _ in
    let e : n ≡ with_first (term_of r) (first_at (us ++ (term_of r ∷ [])) (suc (length us))) =
    node_is us v r n (ap (λ k. read_term (first_at us) v r (suc k)) long ∙ h) in
    let split : terms_in (ns ++ (n ∷ [])) ≡ us ++ (term_of r ∷ []) = map-append _ ns (n ∷ []) ∙ ap (λ (m : Node). us ++ (m.term ∷ [])) e in
    let firsts : 0 ∷ map (λ (m : Node). m.first) (ns ++ (n ∷ [])) ≡ (0 ∷ map (λ (m : Node). m.first) ns) ++ (n.first ∷ []) = ap (λ xs. 0 ∷ xs) (map-append _ ns (n ∷ [])) in
    let many : length (0 ∷ map (λ (m : Node). m.first) ns) ≡ suc (length ns) = ap suc (length-map ns _) in
    ap (λ xs. get_or xs l 0) firsts ∙ elim (cases_lt l (suc (length ns))) [
      | inl lt ↦ (get_or_append_left (0 ∷ map (λ (m : Node). m.first) ns) (n.first ∷ []) 0 l (omega arith) ∙ begun l ∙ sym (first_under us (term_of r ∷ []) l (omega arith)))
      | inr ge ↦ (elim (cases_eq l (suc (length ns))) [
        | inl q ↦ (ap (λ k. get_or ((0 ∷ map (λ (m : Node). m.first) ns) ++ (n.first ∷ [])) k 0) (q ∙ sym many)
            ∙ get_or-append_seam (0 ∷ map (λ (m : Node). m.first) ns) n.first [] 0 ∙ ap (λ (m : Node). m.first) e
            ∙ ap (first_at (us ++ (term_of r ∷ []))) (ap suc long ∙ sym q))
        | inr ne ↦ (get_or_past ((0 ∷ map (λ (m : Node). m.first) ns) ++ (n.first ∷ [])) l 0 (omega (arith, length-append (0 ∷ map (λ (m : Node). m.first) ns) (n.first ∷ []), many))
            ∙ sym (first_past (us ++ (term_of r ∷ [])) l (omega (arith, length-append us (term_of r ∷ []), long))))
      ])
    ] ∙ ap (λ ts. first_at ts l) (sym split)

-- the first i rows are read, and what is left decides which label is wrong
pub record TermsSoFar (rows : List RawTerm) (v i : ℕ) (table : Table) : Type 0 where
  pub read : terms_in table.nodes.items ≡ map term_of (take i rows)
  pub symbols : table.symbols ≡ v
  pub rest : wrong_from v (map term_of rows) 1 rows ≡ wrong_from v (map term_of rows) (suc i) (drop i rows)

zeros : (c : ℕ) → ◌≡◌ {A = ℕ} (get_or (replicate 256 0) c 0) 0
zeros c = elim (cases_lt c 256) [ inl h ↦ (get_or-replicate 256 c 0 0 h) | inr h ↦ (get_or_past (replicate 256 0) c 0 h) ]

pub none_read : (rows : List RawTerm) (v : ℕ) (table : Table) → table.nodes.items ≡ [] → table.symbols ≡ v → TermsSoFar rows v 0 table
none_read rows v table none is = record { read = ap terms_in none; symbols = is; rest = refl }

module _ (rows : List RawTerm) (v i : ℕ) (table : Table) (d : RawTerm) (lt : i < length rows) (sofar : TermsSoFar rows v i table) where
  ts : List Term
  ts = map term_of rows

  at_i : term_at ts (suc i) ≡ term_of (get_or rows i d)
  unfolding ts term_at
  at_i = get_or-map term_of rows i d (Quote 0) lt

  pub long : length table.nodes.items ≡ i
  long = sym (length-map table.nodes.items _) ∙ ap length sofar.read ∙ length-map (take i rows) term_of ∙ length-take-le i rows (omega arith)

  split : terms_in table.nodes.items ++ map term_of (drop i rows) ≡ map term_of rows
  split = ap (λ us. us ++ map term_of (drop i rows)) sofar.read ∙ sym (map-append term_of (take i rows) (drop i rows)) ∙ ap (map term_of) (take-append-drop i rows)

  same : (c : ℕ) → c < suc i → first_at (terms_in table.nodes.items) c ≡ first_at (map term_of rows) c
  same c h = sym (first_under (terms_in table.nodes.items) (map term_of (drop i rows)) c (omega (arith, long, length-map table.nodes.items (λ (n : Node). n.term)))) ∙ ap (λ us. first_at us c) split

  right : Bool
  right = is_some (decode (get_or rows i d)) && term_right v ts (suc i)

  is : next_read table (get_or rows i d) ≡ cond right (Some (with_first (term_at ts (suc i)) (first_at ts (suc i)))) None
  unfolding ts right
  is = (λ j. read_term (first_at (terms_in table.nodes.items)) (sofar.symbols j) (get_or rows i d) (suc (long j)))
      ∙ read_is v ts (suc i) (omega arith) (omega (arith, length-map rows term_of)) (first_at (terms_in table.nodes.items)) same (get_or rows i d) at_i

  ahead : wrong_from v ts 1 rows ≡ cond right (wrong_from v ts (suc (suc i)) (drop (i + 1) rows)) (Some (suc i))
  unfolding ts right
  ahead = sofar.rest ∙ ap (wrong_from v ts (suc i)) (drop_more rows i d lt)

  pub one_wrong : (e : Fault) → NextWrong table (get_or rows i d) e → NamesWrong rows v e
  unfolding ts right
  one_wrong e w = elim (cases_Bool right) [
    | inl t ↦ (absurd (let k : Some (with_first (term_at ts (suc i)) (first_at ts (suc i))) ≡ None = sym (is ∙ cond-true right _ _ t) ∙ w.0 in
        cc))
    | inr t ↦ (suc i, ahead ∙ cond-false right _ _ t, w.1 ∙ ap (λ n. WrongTerm (suc n)) long)
  ]

  pub one_read : (new : Table) → NextRead table (get_or rows i d) new → TermsSoFar rows v (i + 1) new
  unfolding ts right
  one_read new w = elim (cases_Bool right) [
    | inr q ↦ (absurd (let k : None ≡ Some w.node = sym (is ∙ cond-false right _ _ q) ∙ w.is in
        cc))
    | inl q ↦ (let k : Some (with_first (term_at ts (suc i)) (first_at ts (suc i))) ≡ Some w.node = sym (is ∙ cond-true right _ _ q) ∙ w.is in
        let e : w.node.term ≡ term_of (get_or rows i d) = sym (ap (λ o. (unwrap_or {T = Node} o w.node).term) k) ∙ at_i in
        record {
          read = ap terms_in w.nodes ∙ map-append _ table.nodes.items (w.node ∷ []) ∙ ap (λ us. us ++ (w.node.term ∷ [])) sofar.read
              ∙ ap (λ t. map term_of (take i rows) ++ (t ∷ [])) e ∙ sym (map_more term_of rows i d lt);
          symbols = w.symbols ∙ sofar.symbols;
          rest = ahead ∙ cond-true right _ _ q ∙ ap (λ m. wrong_from v ts m (drop (i + 1) rows)) (ap suc (sym (add-one i)));
        })
  ]

pub all_read : (rows : List RawTerm) (v i : ℕ) (table : Table) → length rows ≤ i → TermsSoFar rows v i table → TermsRead rows v table
all_read rows v i table ge sofar = record {
  right = sofar.rest ∙ ap (wrong_from v (map term_of rows) (suc i)) (drop_all i rows ge);
  read = sofar.read ∙ ap (map term_of) (take_all i rows ge);
  symbols = sofar.symbols;
}
