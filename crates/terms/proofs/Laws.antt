-- Programs are made exactly from the rows of well-formed scripts, and a refused label is the first that is wrong.
use Rattle.std.proofs.Common.{◌≡◌, ℕ, suc, ◌+◌, ◌<◌, ◌≤◌, Bool, true, false, cond, ◌&&◌, List, [], ◌∷◌, map, length, get_or, is_some, Some, None, Ok, Err, Option, Result, unwrap_or, sym, refl, ap, ◌∙◌, subst, inl, inr, add-zero, one-add, arith}
use lib.ListN.{get_or-map}
use Rattle.std.proofs.lemmas.List.{length-map}
use Rattle.std.proofs.lemmas.Bool.{cases_Bool, cases_eq, cond-true, cond-false, and_parts, and_from, both_ways}
use Rattle.faults.specs.declared.fault.Fault.{Fault}
use Rattle.faults.specs.declared.fault.Fault.TheVariants.{ProgramSizes, WrongTerm}
use Rattle.terms.specs.declared.raw.RawTerm.{RawTerm}
use Rattle.terms.specs.declared.raw.RawDefinition.{RawDefinition}
use Rattle.terms.specs.declared.term.Term.{Term}
use Rattle.terms.specs.declared.term.Term.TheVariants.{Quote}
use Rattle.terms.specs.Syntax.{row, row_of, decode, row_of_definition}
use Rattle.terms.specs.Script.{Script, last, term_at, first_at}
use Rattle.terms.specs.Form.{sizes_right, term_right, terms_right, script_right, well_formed, term_of, script_of, wrong_from, all_decode, judged, program_of}
use Rattle.terms.specs.WellFormed.{WellFormed}
use Rattle.terms.specs.Laws.{Written, Exactly, row_at, FirstWrong}
use Rattle.terms.proofs.Makes.{sizes, terms_right_at, formed_of}
use Rattle.terms.proofs.Formed.{names_at, begins_at, covered_at, right_since, facts_of, formed_since}
use Rattle.terms.proofs.Written.{row_written, definitions_written, cover_bytes, term_back, definitions_back}

-- P of each element with its label, from l on
abbrev Along : {X : Type 0} → (ℕ → X → Type 0) → ℕ → List X → Type 0
Along P l [] = Unit {0}
Along P l (x ∷ xs) = P l x × Along P (suc l) xs

along : {X : Type 0} (P : ℕ → X → Type 0) (d : X) (l : ℕ) (xs : List X) → ((i : ℕ) → i < length xs → P (l + i) (get_or xs i d)) → Along P l xs
along P d l [] h = tt
along P d l (x ∷ xs) h = (
  subst (λ m. P m x) (add-zero l) (h 0 (omega arith)),
  along P d (suc l) xs (λ i lt. let e : l + suc i ≡ suc l + i = omega arith in subst (λ m. P m (get_or xs i d)) e (h (suc i) (omega arith))),
)

labelled : {X : Type 0} (P : ℕ → X → Type 0) (d : X) (xs : List X) → ((i : ℕ) → i < length xs → P (suc i) (get_or xs i d)) → Along P 1 xs
labelled P d xs h = along P d 1 xs (λ i lt. subst (λ m. P m (get_or xs i d)) (sym (one-add i)) (h i lt))

module _ (v : ℕ) (ts : List Term) where
  abbrev right : RawTerm → ℕ → Bool
  right r l = is_some (decode r) && term_right v ts l

  rows_written : (l : ℕ) (rs : List RawTerm) → wrong_from v ts l rs ≡ None → rs ≡ map row_of (map term_of rs)
  rows_written l [] h = refl
  rows_written l (r ∷ rs) h = elim (cases_Bool (right r l)) [
    | inl q ↦ (let e = row_written r (and_parts _ _ q).0 in let es = rows_written (suc l) rs (sym (cond-true _ _ (Some l) q) ∙ h) in cc)
    | inr q ↦ (absurd (let k : Some l ≡ None = sym (cond-false _ (wrong_from v ts (suc l) rs) _ q) ∙ h in cc))
  ]

  -- terms that keep the rules are read from their rows, and none of these is wrong
  rows_back : (l : ℕ) (us : List Term) → Along (λ m t. (decode (row_of t) ≡ Some t) × (term_right v ts m ≡ true)) l us
      → (wrong_from v ts l (map row_of us) ≡ None) × (map term_of (map row_of us) ≡ us)
  rows_back l [] h = (refl, refl)
  rows_back l (t ∷ us) h =
      let e : term_of (row_of t) ≡ t = ap (λ o. unwrap_or o (Quote 0)) h.0.0 in
      let b = rows_back (suc l) us h.1 in
      let es = b.1 in
      (cond-true _ _ _ (and_from _ _ (ap is_some h.0.0) h.0.1) ∙ b.0, cc)

  first_wrong : (at : ℕ → RawTerm) (l n : ℕ) (rs : List RawTerm) → Along (λ m r. at m ≡ r) l rs → wrong_from v ts l rs ≡ Some n
      → (l ≤ n) × (n < l + length rs) × (right (at n) n ≡ false) × ((m : ℕ) → l ≤ m → m < n → right (at m) m ≡ true)
  first_wrong at l n [] s h = absurd cc
  first_wrong at l n (r ∷ rs) s h =
      let k : cond (right (at l) l) (wrong_from v ts (suc l) rs) (Some l) ≡ Some n = ap (λ u. cond (right u l) (wrong_from v ts (suc l) rs) (Some l)) s.0 ∙ h in
      elim (cases_Bool (right (at l) l)) [
        | inl q ↦ (let b = first_wrong at (suc l) n rs s.1 (sym (cond-true _ _ _ q) ∙ k) in (
          omega (arith, b.0),
          omega (arith, b.1),
          b.2,
          λ m low lt. elim (cases_eq m l) [
            | inl e ↦ (subst (λ i. right (at i) i ≡ true) (sym e) q)
            | inr ne ↦ (b.3 m (omega arith) lt)
          ],
        ))
        | inr q ↦ (let j : Some l ≡ Some n = sym (cond-false _ _ _ q) ∙ k in let e : l ≡ n = cc in
            (omega arith, omega arith, subst (λ i. right (at i) i ≡ false) e q, λ m low lt. absurd (omega arith)))
      ]

-- ---- what an answer comes from
sized_first : (b : Bool) (x e : Result Script Fault) → cond b x (Err ProgramSizes) ≡ e → (Err ProgramSizes ≡ e → ⊥) → (b ≡ true) × (x ≡ e)
sized_first true x e h n = (refl, h)
sized_first false x e h n = absurd (n h)

judged_ok : (o : Option ℕ) (ok : Bool) (s p : Script) → judged o ok s ≡ Ok p → (o ≡ None) × (ok ≡ true) × (s ≡ p)
judged_ok (Some l) ok s p h = absurd cc
judged_ok None true s p h = (refl, refl, cc)
judged_ok None false s p h = absurd cc

judged_wrong : (o : Option ℕ) (ok : Bool) (s : Script) (l : ℕ) → judged o ok s ≡ Err (WrongTerm l) → o ≡ Some l
judged_wrong (Some m) ok s l h = cc
judged_wrong None true s l h = absurd cc
judged_wrong None false s l h = absurd cc

-- the rows that are written for a well-formed script make it
made : (p : Script) → WellFormed p → program_of (map row_of p.terms) p.symbols (map row_of_definition p.definitions) ≡ Ok p
unfolding program_of well_formed term_at last
made p w =
    let ts = p.terms in
    let f = and_parts (sizes_right (length ts) p.symbols (length p.definitions)) _ (formed_since p w) in
    let g = and_parts (terms_right p.symbols ts (length ts)) _ f.1 in
    let back = rows_back p.symbols ts 1 ts (labelled _ (Quote 0) ts (λ i lt.
    let low : 1 ≤ suc i = omega arith in
    let high : suc i ≤ length ts = lt in (
      term_back (get_or ts i (Quote 0)) p.symbols _ _ (suc i) w.few_symbols (omega (arith, w.few_terms)) (λ x. w.names (suc i) x low high) (w.covered (suc i) low high),
      terms_right_at p.symbols ts (length ts) g.0 (suc i) low high,
    ))) in
    let defined = definitions_back p.symbols p.definitions (length ts ∷ []) w.few_symbols w.defined (cover_bytes _ 1 _ (suc (length ts)) (omega (arith, w.few_terms)) w.rooted) in
    rw (length-map ts row_of, length-map p.definitions row_of_definition, back.1, defined.1)
    (cond-true _ _ _ f.0
    ∙ ap (λ o. judged o (all_decode (map row_of_definition p.definitions) && script_right (first_at ts) p.symbols 1 p.definitions (length ts)) p) back.0
    ∙ cond-true _ _ _ (and_from _ _ defined.0 g.1))

module _ (rows : List RawTerm) (v : ℕ) (ds : List RawDefinition) where
  pub exactly : Exactly rows v ds
  unfolding program_of
  exactly p = (
    (λ h.
        let s = sized_first _ _ (Ok p) h (λ e. cc) in
        let j = judged_ok _ _ _ p s.1 in
        let d = and_parts (all_decode ds) _ j.1 in
        subst (Written rows v ds) j.2 (record {
          terms_written = rows_written v (map term_of rows) 1 rows j.0;
          symbols_written = refl;
          definitions_written = definitions_written ds d.0;
          formed = facts_of (script_of rows v ds) (formed_of rows v ds s.0 j.0 d.1);
        })),
    λ w. cc (made p w.formed),
  )

  pub first : FirstWrong rows v ds
  unfolding program_of term_at
  first l h =
      let s = sized_first _ _ (Err (WrongTerm l)) h (λ e. cc) in
      let ts = map term_of rows in
      let few = sizes (length rows) v (length ds) s.0 in
      let b = first_wrong v ts (row_at rows) 1 l rows (labelled _ (row 0 0 0 0) rows (λ i lt. refl)) (judged_wrong _ _ _ l s.1) in
      let high : l ≤ length rows = omega (arith, b.1) in
      record {
        low = b.0;
        high = high;
        wrong = λ w. both_ways _ b.2 (and_from _ _
            (ap (λ r. is_some (decode r)) w.written ∙ ap is_some (term_back (term_at ts l) v _ _ l few.3 (omega (arith, few.1)) w.names w.covered))
            (right_since v ts l w.names w.begins w.covered));
        before = λ m low lt.
            let within : m ≤ length ts = rw length-map (omega arith) in
            let keeps : (k : ℕ) → 1 ≤ k → k ≤ m → term_right v ts k ≡ true = λ k a e. (and_parts (is_some (decode (row_at rows k))) _ (b.3 k a (omega arith))).1 in
            record {
              written = row_written (row_at rows m) (and_parts _ _ (b.3 m low lt)).0 ∙ ap row_of (sym (get_or-map term_of (row 0 0 0 0 ∷ rows) m (row 0 0 0 0)));
              names = λ x. names_at v ts m within keeps m x low (omega arith);
              begins = begins_at v ts m within keeps m low (omega arith);
              covered = covered_at v ts m within keeps m low (omega arith);
            };
      }
