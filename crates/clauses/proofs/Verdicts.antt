-- The verdict accepts exactly what is accepted, and refuses exactly with the first part that is not met.
use Rattle.std.proofs.Common.{◌≡◌, ℕ, suc, ◌+◌, ◌<◌, ◌≤◌, true, ltb, List, [], ◌∷◌, ◌++◌, length, Ok, Err, sym, refl, ap, ◌∙◌, subst, inl, inr, ⊎_elim, arith}
use Rattle.std.proofs.lemmas.Bool.{and_parts, cases_Bool, cond-true, cond-false, both_ways, ltb-true}
use Rattle.faults.specs.declared.fault.Fault.{Fault}
use Rattle.faults.specs.declared.fault.Fault.TheVariants.{UnmetClause}
use Rattle.terms.specs.declared.term.Definition.{Definition}
use Rattle.terms.specs.Script.{Script, last, term}
use Rattle.terms.specs.WellFormed.{WellFormed}
use Rattle.proposals.specs.Tables.{Tables, listed}
use Rattle.proposals.specs.DueForm.{before, due_form}
use Rattle.proposals.specs.Laws.{DueForm}
use Rattle.proposals.proofs.Laws.{due_since, since_due}
use Rattle.clauses.specs.Clauses.{pair_clause, definition_clause, entry_clause}
use Rattle.clauses.specs.Verdict.{tried, definitions_verdict, pair_verdict, in_turn, label_verdict, verdict}
use Rattle.clauses.specs.Acceptance.{Listed, PairMet, DefinitionsMet, Accepted, AllMet, FirstUnmet, ComesBefore, Refused, at_definition, at_entry, at_pair, CheckAccepts, CheckRefuses, VerdictAccepts, VerdictRefuses}
use Rattle.clauses.proofs.Counts.{ok_err, err_same, before_ok, before_err, before_first, before_next, turn_ok, ok_turn, Turned, turn_err, err_turn}
use Rattle.clauses.proofs.Meeting.{tried_ok, ok_tried, Tried, tried_err, err_tried}
use Rattle.clauses.proofs.Terms.{term_out, term_in, definition_out, definition_in}

-- ---- definitions and the entry
module _ (p : Script) (t : Tables) where
  definitions_out : (i : ℕ) (ds : List Definition) → definitions_verdict p t i ds ≡ Ok tt → DefinitionsMet t ds × Listed t (last p) 0
  definitions_out i [] e = (tt, (tried_ok t (UnmetClause i 0 0) (entry_clause p) e).0)
  definitions_out i (d ∷ ds) e =
      let q = before_ok (tried t (UnmetClause i 0 0) (definition_clause d)) (definitions_verdict p t (suc i) ds) e in
      let r = definitions_out (suc i) ds q.1 in
      ((definition_out t d (tried_ok t (UnmetClause i 0 0) (definition_clause d) q.0), r.0), r.1)

  definition_ok : (i : ℕ) (d : Definition) (ds : List Definition) → AllMet t (definition_clause d)
      → definitions_verdict p t i (d ∷ ds) ≡ definitions_verdict p t (suc i) ds
  definition_ok i d ds h = before_next (tried t (UnmetClause i 0 0) (definition_clause d)) (definitions_verdict p t (suc i) ds) (ok_tried t (UnmetClause i 0 0) (definition_clause d) h)

  definitions_in : (i : ℕ) (ds : List Definition) → DefinitionsMet t ds → Listed t (last p) 0 → definitions_verdict p t i ds ≡ Ok tt
  definitions_in i [] h e = ok_tried t (UnmetClause i 0 0) (entry_clause p) (e, tt)
  definitions_in i (d ∷ ds) h e = definition_ok i d ds (definition_in t d h.0) ∙ definitions_in (suc i) ds h.1 e

  -- where the definitions, numbered from i on, are refused
  data Undefined (i : ℕ) (ds : List Definition) (f : Fault) : Type 0 where
    in_definition : (earlier : List Definition) (d : Definition) (later : List Definition) (n : ℕ) → ds ≡ earlier ++ (d ∷ later)
        → DefinitionsMet t earlier → FirstUnmet t (definition_clause d) n → f ≡ UnmetClause (i + length earlier) 0 0 n → Undefined i ds f
    in_entry : DefinitionsMet t ds → (Listed t (last p) 0 → ⊥) → f ≡ UnmetClause (i + length ds) 0 0 1 → Undefined i ds f

  number : (i j : ℕ) (n : ℕ) (f : Fault) → i ≡ j → f ≡ UnmetClause i 0 0 n → f ≡ UnmetClause j 0 0 n
  number i j n f e q = subst (λ m. f ≡ UnmetClause m 0 0 n) e q

  later_too : (i : ℕ) (d : Definition) (ds : List Definition) (f : Fault) → AllMet t (definition_clause d) → Undefined (suc i) ds f → Undefined i (d ∷ ds) f
  later_too i d ds f h (in_definition es e ls n split met first is) =
      in_definition (d ∷ es) e ls n (ap (λ (xs : List Definition). d ∷ xs) split) (definition_out t d h, met) first
      (number (suc i + length es) (i + suc (length es)) n f (omega arith) is)
  later_too i d ds f h (in_entry met unlisted is) =
      in_entry (definition_out t d h, met) unlisted (number (suc i + length ds) (i + suc (length ds)) 1 f (omega arith) is)

  undefined_out : (i : ℕ) (ds : List Definition) (f : Fault) → definitions_verdict p t i ds ≡ Err f → Undefined i ds f
  undefined_out i [] f e = elim (cases_Bool (listed t (last p) 0)) [
    | inl q ↦ (absurd (ok_err (sym (ok_tried t (UnmetClause i 0 0) (entry_clause p) (q, tt)) ∙ e)))
    | inr q ↦ (in_entry tt (both_ways (listed t (last p) 0) q)
        (number i (i + 0) 1 f (omega arith) (err_same (sym e ∙ cond-false (listed t (last p) 0) (Ok tt) (Err (UnmetClause i 0 0 1)) q))))
  ]
  undefined_out i (d ∷ ds) f e = elim (before_err (tried t (UnmetClause i 0 0) (definition_clause d)) (definitions_verdict p t (suc i) ds) f e) [
    | inl q ↦ (let r = tried_err t (UnmetClause i 0 0) (definition_clause d) f q in
        in_definition [] d ds r.number refl tt r.first (number i (i + 0) r.number f (omega arith) r.fails))
    | inr q ↦ (later_too i d ds f (tried_ok t (UnmetClause i 0 0) (definition_clause d) q.0) (undefined_out (suc i) ds f q.1))
  ]

  definition_refused : (i j : ℕ) (es : List Definition) (d : Definition) (ls : List Definition) (n : ℕ) → i + length es ≡ j
      → DefinitionsMet t es → FirstUnmet t (definition_clause d) n → definitions_verdict p t i (es ++ (d ∷ ls)) ≡ Err (UnmetClause j 0 0 n)
  definition_refused i j [] d ls n same met first =
      let s : i ≡ j = omega arith in
      subst (λ m. before (tried t (UnmetClause i 0 0) (definition_clause d)) (definitions_verdict p t (suc i) ls) ≡ Err (UnmetClause m 0 0 n)) s
      (before_first (tried t (UnmetClause i 0 0) (definition_clause d)) (definitions_verdict p t (suc i) ls) _ (err_tried t (UnmetClause i 0 0) (definition_clause d) n first))
  definition_refused i j (e ∷ es) d ls n same met first =
      definition_ok i e (es ++ (d ∷ ls)) (definition_in t e met.0) ∙ definition_refused (suc i) j es d ls n (omega arith) met.1 first

  entry_refused : (i j : ℕ) (ds : List Definition) → i + length ds ≡ j → DefinitionsMet t ds → (Listed t (last p) 0 → ⊥)
      → definitions_verdict p t i ds ≡ Err (UnmetClause j 0 0 1)
  entry_refused i j [] same met unlisted = elim (cases_Bool (listed t (last p) 0)) [
    | inl q ↦ absurd (unlisted q)
    | inr q ↦ (let s : i ≡ j = omega arith in
        subst (λ m. tried t (UnmetClause i 0 0) (entry_clause p) ≡ Err (UnmetClause m 0 0 1)) s (cond-false (listed t (last p) 0) (Ok tt) (Err (UnmetClause i 0 0 1)) q))
  ]
  entry_refused i j (d ∷ ds) same met unlisted = definition_ok i d ds (definition_in t d met.0) ∙ entry_refused (suc i) j ds (omega arith) met.1 unlisted

-- a listed pair has a context below 16
listed_below : (t : Tables) (l k : ℕ) → listed t l k ≡ true → k < 16
unfolding listed
listed_below t l k e = ltb-true k 16 (and_parts (ltb k 16) _ e).0

module _ (p : Script) (W : WellFormed p) (t : Tables) (D : DueForm p t) where
  -- ---- a pair, if it is listed
  pair_out : (l k : ℕ) → pair_verdict p t l k ≡ Ok tt → Listed t l k → PairMet p t l k
  pair_out l k e h =
      term_out p W t D l k (term p l) (tried_ok t (UnmetClause 0 l k) (pair_clause p t l k) (sym (cond-true (listed t l k) (tried t (UnmetClause 0 l k) (pair_clause p t l k)) (Ok tt) h) ∙ e))

  pair_in : (l k : ℕ) → (Listed t l k → PairMet p t l k) → pair_verdict p t l k ≡ Ok tt
  pair_in l k h = elim (cases_Bool (listed t l k)) [
    | inl q ↦ (cond-true (listed t l k) (tried t (UnmetClause 0 l k) (pair_clause p t l k)) (Ok tt) q ∙ ok_tried t (UnmetClause 0 l k) (pair_clause p t l k) (term_in p W t D l k (term p l) (h q)))
    | inr q ↦ (cond-false (listed t l k) (tried t (UnmetClause 0 l k) (pair_clause p t l k)) (Ok tt) q)
  ]

  pair_refuses : (l k : ℕ) (f : Fault) → pair_verdict p t l k ≡ Err f → Listed t l k × Tried t (UnmetClause 0 l k) (pair_clause p t l k) f
  pair_refuses l k f e = elim (cases_Bool (listed t l k)) [
    | inl q ↦ (q, tried_err t (UnmetClause 0 l k) (pair_clause p t l k) f (sym (cond-true (listed t l k) (tried t (UnmetClause 0 l k) (pair_clause p t l k)) (Ok tt) q) ∙ e))
    | inr q ↦ (absurd (ok_err (sym (cond-false (listed t l k) (tried t (UnmetClause 0 l k) (pair_clause p t l k)) (Ok tt) q) ∙ e)))
  ]

  pair_refused : (l k n : ℕ) → Listed t l k → FirstUnmet t (pair_clause p t l k) n → pair_verdict p t l k ≡ Err (UnmetClause 0 l k n)
  pair_refused l k n h first =
      cond-true (listed t l k) (tried t (UnmetClause 0 l k) (pair_clause p t l k)) (Ok tt) h ∙ err_tried t (UnmetClause 0 l k) (pair_clause p t l k) n first

  -- ---- a label
  label_out : (l : ℕ) → label_verdict p t l ≡ Ok tt → (k : ℕ) → Listed t l k → PairMet p t l k
  label_out l e k h = pair_out l k (turn_ok (pair_verdict p t l) 0 16 e k (omega arith) (omega (arith, listed_below t l k h))) h

  label_in : (l : ℕ) → ((k : ℕ) → Listed t l k → PairMet p t l k) → label_verdict p t l ≡ Ok tt
  label_in l h = ok_turn (pair_verdict p t l) 0 16 (λ k low high. pair_in l k (h k))

  -- ---- all labels
  labels_out : in_turn (label_verdict p t) 1 (last p) ≡ Ok tt → (l k : ℕ) → Listed t l k → PairMet p t l k
  labels_out e l k h =
      let q = D.listed_labels l k h in
      label_out l (turn_ok (label_verdict p t) 1 (last p) e l q.0 (omega (arith, q.1))) k h

  labels_in : ((l k : ℕ) → Listed t l k → PairMet p t l k) → in_turn (label_verdict p t) 1 (last p) ≡ Ok tt
  labels_in h = ok_turn (label_verdict p t) 1 (last p) (λ l low high. label_in l (h l))

  -- ---- acceptance
  accepted_out : verdict p t ≡ Ok tt → Accepted p t
  unfolding verdict
  accepted_out e =
      let q = before_ok (definitions_verdict p t 1 p.definitions) (in_turn (label_verdict p t) 1 (last p)) e in
      let d = definitions_out p t 1 p.definitions q.0 in
      record { form = D; definitions = d.0; entry_listed = d.1; pairs = labels_out q.1 }

  accepted_in : Accepted p t → verdict p t ≡ Ok tt
  unfolding verdict
  accepted_in A =
      before_next (definitions_verdict p t 1 p.definitions) (in_turn (label_verdict p t) 1 (last p)) (definitions_in p t 1 p.definitions A.definitions A.entry_listed)
      ∙ labels_in A.pairs

  -- ---- refusals
  refused_among : (f : Fault) → Undefined p t 1 p.definitions f → Refused p t f
  refused_among f (in_definition es d ls n split met first is) =
      subst (Refused p t) (sym (number p t (1 + length es) (suc (length es)) n f (omega arith) is)) (at_definition es d ls n split met first)
  refused_among f (in_entry met unlisted is) =
      subst (Refused p t) (sym (number p t (1 + length p.definitions) (suc (length p.definitions)) 1 f (omega arith) is)) (at_entry met unlisted)

  refused_pair : (f : Fault) → DefinitionsMet t p.definitions → Listed t (last p) 0 → Turned (label_verdict p t) 1 (last p) f → Refused p t f
  refused_pair f met entered r =
      let l = r.at in
      let s = turn_err (pair_verdict p t l) 0 16 f r.refuses in
      let k = s.at in
      let q = pair_refuses l k f s.refuses in
      subst (Refused p t) (sym q.1.fails) (at_pair l k q.1.number met entered q.0 (earlier l k r.passes s.passes) q.1.first)
    where
      earlier : (l k : ℕ) → ((m : ℕ) → 1 ≤ m → m < l → label_verdict p t m ≡ Ok tt) → ((j : ℕ) → 0 ≤ j → j < k → pair_verdict p t l j ≡ Ok tt)
          → (m j : ℕ) → ComesBefore m j l k → Listed t m j → PairMet p t m j
      earlier l k labels pairs m j (inl lt) h = label_out m (labels m (D.listed_labels m j h).0 lt) j h
      earlier l k labels pairs m j (inr q) h = pair_out m j (subst (λ u. pair_verdict p t u j ≡ Ok tt) (sym q.0) (pairs j (omega arith) q.1)) h

  refused_out : (f : Fault) → verdict p t ≡ Err f → Refused p t f
  unfolding verdict
  refused_out f e = elim (before_err (definitions_verdict p t 1 p.definitions) (in_turn (label_verdict p t) 1 (last p)) f e) [
    | inl q ↦ refused_among f (undefined_out p t 1 p.definitions f q)
    | inr q ↦ (let d = definitions_out p t 1 p.definitions q.0 in refused_pair f d.0 d.1 (turn_err (label_verdict p t) 1 (last p) f q.1))
  ]

  refused_in : (f : Fault) → Refused p t f → verdict p t ≡ Err f
  unfolding verdict
  refused_in _ (at_definition es d ls n split met first) =
      before_first (definitions_verdict p t 1 p.definitions) (in_turn (label_verdict p t) 1 (last p)) _
      (ap (definitions_verdict p t 1) split ∙ definition_refused p t 1 (suc (length es)) es d ls n (omega arith) met first)
  refused_in _ (at_entry met unlisted) =
      before_first (definitions_verdict p t 1 p.definitions) (in_turn (label_verdict p t) 1 (last p)) _
      (entry_refused p t 1 (suc (length p.definitions)) p.definitions (omega arith) met unlisted)
  refused_in _ (at_pair l k n met entered h earlier first) =
      let q = D.listed_labels l k h in
      before_next (definitions_verdict p t 1 p.definitions) (in_turn (label_verdict p t) 1 (last p)) (definitions_in p t 1 p.definitions met entered)
      ∙ err_turn (label_verdict p t) 1 (last p) (UnmetClause 0 l k n) (record {
        at = l;
        low = q.0;
        high = omega (arith, q.1);
        refuses = err_turn (pair_verdict p t l) 0 16 (UnmetClause 0 l k n) (record {
          at = k;
          low = omega arith;
          high = omega (arith, listed_below t l k h);
          refuses = pair_refused l k n h first;
          passes = λ j low lt. pair_in l j (earlier l j (inr (refl, lt)));
        });
        passes = λ m low lt. label_in m (λ j. earlier m j (inl lt));
      })

pub verdict_accepts : VerdictAccepts
verdict_accepts p W t D = (accepted_out p W t D, accepted_in p W t D)

pub verdict_refuses : VerdictRefuses
verdict_refuses p W t D f = (refused_out p W t D f, refused_in p W t D f)

pub check_accepts : CheckAccepts
check_accepts p W t = (
  (λ e. let q = before_ok (due_form p t) (verdict p t) e in accepted_out p W t (due_since p t q.0) q.1),
  (λ A. before_next (due_form p t) (verdict p t) (since_due p t W A.form) ∙ accepted_in p W t A.form A),
)

pub check_refuses : CheckRefuses
check_refuses p W t f = (
  (λ e. ⊎_elim inl (λ q. let D = due_since p t q.0 in inr (D, refused_out p W t D f q.1)) (before_err (due_form p t) (verdict p t) f e)),
  (λ r. ⊎_elim (before_first (due_form p t) (verdict p t) f) (λ q. before_next (due_form p t) (verdict p t) (since_due p t W q.0) ∙ refused_in p W t q.0 f q.1) r),
)
