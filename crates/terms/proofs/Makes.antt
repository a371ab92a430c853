-- What the readings make.
use Rattle.std.proofs.Common.{◌≡◌, ℕ, zero, suc, ◌+◌, ◌<◌, ◌≤◌, true, false, cond, ◌&&◌, eqb, leb, List, [], ◌∷◌, map, length, is_some, Some, None, Ok, Err, sym, refl, ap, ◌∙◌, subst, inl, inr, arith}
use Rattle.std.proofs.lemmas.List.{length-map}
use Rattle.std.proofs.lemmas.Bool.{cases_Bool, cases_eq, cond-true, cond-false, and_parts, and_from, leb-true}
use Rattle.faults.specs.declared.fault.Fault.{Fault}
use Rattle.faults.specs.declared.fault.Fault.TheVariants.{ProgramSizes, WrongDefinitions}
use Rattle.terms.specs.declared.raw.RawTerm.{RawTerm}
use Rattle.terms.specs.declared.raw.RawDefinition.{RawDefinition}
use Rattle.terms.specs.declared.term.Term.{Term}
use Rattle.terms.specs.declared.term.Definition.{Definition}
use Rattle.terms.specs.Syntax.{decode}
use Rattle.terms.specs.declared.table.Table.{Table}
use Rattle.terms.specs.Script.{first_at}
use Rattle.terms.specs.Table.{script_in}
use Rattle.terms.specs.Form.{sizes_right, term_right, terms_right, script_right, covers, well_formed, term_of, definition_of, script_of, wrong_from, all_decode, judged, program_of}
use Rattle.terms.specs.Reading.{TermsRead, NamesWrong, defined_right, DefinitionsRead, DefinitionsWrong}

wrong_none : (v : ℕ) (ts : List Term) (l : ℕ) (rs : List RawTerm) → wrong_from v ts l rs ≡ None → (m : ℕ) → l ≤ m → m < l + length rs → term_right v ts m ≡ true
wrong_none v ts l [] h m low high = absurd (omega arith)
wrong_none v ts l (r ∷ rs) h m low high = elim (cases_Bool (is_some (decode r) && term_right v ts l)) [
  | inr q ↦ (absurd (let k : Some l ≡ None = sym (cond-false _ (wrong_from v ts (suc l) rs) (Some l) q) ∙ h in cc))
  | inl q ↦ (elim (cases_eq m l) [
    | inl e ↦ (subst (λ k. term_right v ts k ≡ true) (sym e) (and_parts _ _ q).1)
    | inr n ↦ (wrong_none v ts (suc l) rs (sym (cond-true _ (wrong_from v ts (suc l) rs) (Some l) q) ∙ h) m (omega arith) (omega arith))
  ])
]

pub terms_right_all : (v : ℕ) (ts : List Term) (n : ℕ) → ((m : ℕ) → 1 ≤ m → m ≤ n → term_right v ts m ≡ true) → terms_right v ts n ≡ true
terms_right_all v ts zero h = refl
terms_right_all v ts (suc n) h = and_from _ _ (h (suc n) (omega arith) (omega arith)) (terms_right_all v ts n (λ m a b. h m a (omega arith)))

pub terms_right_at : (v : ℕ) (ts : List Term) (n : ℕ) → terms_right v ts n ≡ true → (m : ℕ) → 1 ≤ m → m ≤ n → term_right v ts m ≡ true
terms_right_at v ts zero h m a b = absurd (omega arith)
terms_right_at v ts (suc n) h m a b =
    let q = and_parts (term_right v ts (suc n)) (terms_right v ts n) h in
    elim (cases_eq m (suc n)) [ inl e ↦ (subst (λ k. term_right v ts k ≡ true) (sym e) q.0) | inr k ↦ (terms_right_at v ts n q.1 m a (omega arith)) ]

pub sizes : (a v n : ℕ) → sizes_right a v n ≡ true → (1 ≤ a) × (a ≤ 255) × (2 ≤ v) × (v ≤ 32) × (n ≤ 31)
sizes a v n h =
    let s0 = and_parts (leb 1 a) _ h in
    let s1 = and_parts (leb a 255) _ s0.1 in
    let s2 = and_parts (leb 2 v) _ s1.1 in
    let s3 = and_parts (leb v 32) _ s2.1 in
    (leb-true 1 a s0.0, leb-true a 255 s1.0, leb-true 2 v s2.0, leb-true v 32 s3.0, leb-true n 31 s3.1)

-- whether children or roots cover the labels does not depend on where first labels are kept
covers_same : (f g : ℕ → ℕ) → ((c : ℕ) → f c ≡ g c) → (a : ℕ) (cs : List ℕ) (z : ℕ) → covers f a cs z ≡ covers g a cs z
covers_same f g e a [] z = refl
covers_same f g e a (c ∷ cs) z = ap (λ m. eqb m a && covers f (suc c) cs z) (e c) ∙ ap (λ b. eqb (g c) a && b) (covers_same f g e (suc c) cs z)

-- the table was told how many symbols there are
pub read_with : (rows : List RawTerm) (v w : ℕ) (table : Table) → w ≡ v → TermsRead rows w table → TermsRead rows v table
read_with rows v w table e read = subst (λ u. TermsRead rows u table) e read

pub wrong_with : (rows : List RawTerm) (v w : ℕ) (fault : Fault) → w ≡ v → NamesWrong rows w fault → NamesWrong rows v fault
wrong_with rows v w fault e wrong = subst (λ u. NamesWrong rows u fault) e wrong

module _ (rows : List RawTerm) (v : ℕ) (ds : List RawDefinition) where
  pub wrong_sizes : sizes_right (length rows) v (length ds) ≡ false → Err ProgramSizes ≡ program_of rows v ds
  unfolding program_of
  wrong_sizes h = sym (cond-false _ _ _ h)

  module _ (sized : sizes_right (length rows) v (length ds) ≡ true) where
    pub wrong_term : (e : Fault) → NamesWrong rows v e → Err e ≡ program_of rows v ds
    unfolding program_of
    wrong_term e w =
        ap Err w.2 ∙ sym (cond-true _ _ _ sized ∙ ap (λ o. judged o (all_decode ds && script_right (first_at (map term_of rows)) v 1 (map definition_of ds) (length rows)) (script_of rows v ds)) w.1)

    pub formed_of : wrong_from v (map term_of rows) 1 rows ≡ None → script_right (first_at (map term_of rows)) v 1 (map definition_of ds) (length rows) ≡ true → well_formed (script_of rows v ds) ≡ true
    unfolding well_formed
    formed_of none ok =
        rw (length-map rows term_of, length-map ds definition_of)
        (and_from _ _ sized (and_from _ _ (terms_right_all v (map term_of rows) (length rows) (λ m a b. wrong_none v (map term_of rows) 1 rows none m a (omega arith))) ok))

    module _ (table : Table) (read : TermsRead rows v table) where
      long : length table.nodes.items ≡ length rows
      long = sym (length-map table.nodes.items _) ∙ ap length read.read ∙ length-map rows term_of

      right_is : defined_right ds table ≡ (all_decode ds && script_right (first_at (map term_of rows)) v 1 (map definition_of ds) (length rows))
      right_is = λ i. all_decode ds && script_right (first_at (read.read i)) (read.symbols i) 1 (map definition_of ds) (long i)

      made_is : program_of rows v ds ≡ cond (defined_right ds table) (Ok (script_of rows v ds)) (Err WrongDefinitions)
      unfolding program_of
      made_is = cond-true _ _ _ sized ∙ ap (λ o. judged o (all_decode ds && script_right (first_at (map term_of rows)) v 1 (map definition_of ds) (length rows)) (script_of rows v ds)) read.right ∙ ap (λ b. cond b (Ok (script_of rows v ds)) (Err WrongDefinitions)) (sym right_is)

      pub wrong_definitions : (e : Fault) → DefinitionsWrong ds table e → Err e ≡ program_of rows v ds
      wrong_definitions e w = ap Err w.1 ∙ sym (made_is ∙ cond-false _ _ _ w.0)

      module _ (definitions : List Definition) (defined : DefinitionsRead ds table definitions) where
        pub script_is : script_in table.nodes.items table.symbols definitions ≡ script_of rows v ds
        script_is = λ i. record { terms = read.read i; symbols = read.symbols i; definitions = defined.1 i }

        pub right_program : Ok (script_in table.nodes.items table.symbols definitions) ≡ program_of rows v ds
        right_program = ap Ok script_is ∙ sym (made_is ∙ cond-true _ _ _ defined.0)

        pub made_formed : well_formed (script_in table.nodes.items table.symbols definitions) ≡ true
        made_formed = ap well_formed script_is ∙ formed_of read.right (and_parts (all_decode ds) _ (sym right_is ∙ defined.0)).1
