-- Rows entry by entry, the row that extends another, and an entry that is no binder.
use Rattle.std.proofs.Common.{◌≡◌, ℕ, ◌<◌, ◌≤◌, Bool, true, false, not, ◌&&◌, ◌||◌, ltb, ◌⊎◌, is_some, Some, None, Option, Ok, Err, Result, MatchResult, sym, refl, ap, ◌∙◌, ⊎_elim, arith}
use Rattle.std.specs.Result.{OkIff}
use Rattle.std.proofs.lemmas.Bool.{eq-eqb, ne_eqb, lt-ltb, le-ltb, cond-true, cond-false, and_from, and_left, and_right, or_from, not_from_true, not_from_false, cases_lt}
use Rattle.terms.specs.Script.{Script, binds, binds_variable}
use Rattle.terms.specs.WellFormed.{WellFormed}
use Rattle.terms.proofs.Nesting.{binder_label}
use Rattle.facts.specs.Table.{first_of}
use Rattle.facts.proofs.Firsts.{first_at, first_none}
use Rattle.proposals.specs.Tables.{Tables, contexts, entry, listed, same_rows, entry_with, extends, extension}
use Rattle.proposals.specs.DueForm.{zero_row, entry_right, entries_right, new_row, may_list, mask_right}
use Rattle.proposals.proofs.Counts.{every_from, every_not}

module _ (t : Tables) where
  pub zero_not : (k x : ℕ) → x < 32 → (entry t k x ≡ 0 → ⊥) → false ≡ zero_row t k
  zero_not k x h d = sym (every_not 32 _ x h (ne_eqb _ _ d))

  pub zero_all : (k : ℕ) → ((x : ℕ) → x < 32 → entry t k x ≡ 0) → true ≡ zero_row t k
  zero_all k h = sym (every_from 32 _ (λ x l. eq-eqb _ _ (h x l)))

  pub same_not : (j k x : ℕ) → x < 32 → (entry t j x ≡ entry t k x → ⊥) → false ≡ same_rows t j k
  unfolding same_rows
  same_not j k x h d = sym (every_not 32 _ x h (ne_eqb _ _ d))

  pub same_all : (j k : ℕ) → ((x : ℕ) → x < 32 → entry t j x ≡ entry t k x) → true ≡ same_rows t j k
  unfolding same_rows
  same_all j k h = sym (every_from 32 _ (λ x l. eq-eqb _ _ (h x l)))

  pub old_row : (k j : ℕ) → j < k → same_rows t j k ≡ true → false ≡ new_row t k
  old_row k j h e = sym (every_not k _ j h (not_from_true _ e))

  pub no_old_row : (k : ℕ) → ((j : ℕ) → j < k → same_rows t j k ≡ false) → true ≡ new_row t k
  no_old_row k h = sym (every_from k _ (λ j l. not_from_false _ (h j l)))

  module _ (k x b : ℕ) where
    pub extends_not : (j y : ℕ) → y < 32 → (entry t j y ≡ entry_with t k x b y → ⊥) → false ≡ extends t k x b j
    unfolding extends
    extends_not j y h d = sym (every_not 32 _ y h (ne_eqb _ _ d))

    pub extends_all : (j : ℕ) → ((y : ℕ) → y < 32 → entry t j y ≡ entry_with t k x b y) → true ≡ extends t k x b j
    unfolding extends
    extends_all j h = sym (every_from 32 _ (λ y l. eq-eqb _ _ (h y l)))

    pub found : k < contexts t → x < 32 → (o : Option ℕ) → o ≡ first_of (extends t k x b) 0 (contexts t) → o ≡ extension t k x b
    unfolding extension
    found hk hx o e = e ∙ sym (cond-true (ltb k (contexts t) && ltb x 32) _ None (and_from _ _ (lt-ltb _ _ hk) (lt-ltb _ _ hx)))

    pub extension_at : k < contexts t → x < 32 → (j : ℕ) → j < contexts t → extends t k x b j ≡ true → ((i : ℕ) → i < j → extends t k x b i ≡ false) → Some j ≡ extension t k x b
    extension_at hk hx j h e before = found hk hx (Some j) (first_at _ 0 _ j (omega arith) (omega arith) e (λ i _ l. before i l))

    pub extension_none : k < contexts t → x < 32 → ((i : ℕ) → i < contexts t → extends t k x b i ≡ false) → None ≡ extension t k x b
    extension_none hk hx h = found hk hx None (first_none _ 0 _ (λ i _ l. h i (omega arith)))

    pub extension_outside : (contexts t ≤ k) ⊎ ((k < contexts t) × (31 < x)) → None ≡ extension t k x b
    unfolding extension
    extension_outside o =
        sym (cond-false (ltb k (contexts t) && ltb x 32) _ None (⊎_elim (λ l. and_left _ _ (le-ltb _ _ l)) (λ l. and_right (ltb k (contexts t)) _ (le-ltb _ _ (omega (arith, l.1)))) o))

  module _ (p : Script) where
    pub mask_not : (l k : ℕ) → k < 16 → listed t l k ≡ true → may_list p t l k ≡ false → false ≡ mask_right p t l
    mask_not l k h e d = sym (every_not 16 _ k h (or_from _ _ (not_from_true _ e) d))

    pub mask_all : (l : ℕ) → ((k : ℕ) → k < 16 → (not (listed t l k) || may_list p t l k) ≡ true) → true ≡ mask_right p t l
    mask_all l h = sym (every_from 16 _ h)

    pub entries_not : (k x : ℕ) → x < 32 → entry_right p t k x ≡ false → false ≡ entries_right p t k
    entries_not k x h e = sym (every_not 32 _ x h e)

    pub entries_all : (k : ℕ) → ((x : ℕ) → x < 32 → entry_right p t k x ≡ true) → true ≡ entries_right p t k
    entries_all k h = sym (every_from 32 _ h)

-- no label above 255 is a binder
pub no_binder : (p : Script) → WellFormed p → (b x : ℕ) → 255 < b → binds_variable (binds p b) x ≡ false
no_binder p w b x h = at (binds p b) refl
  where
    at : (o : Option ℕ) → binds p b ≡ o → binds_variable o x ≡ false
    at None e = refl
    at (Some y) e = absurd (omega (arith, w.few_terms, (binder_label p w b (ap is_some e)).1))

pub entry_wrong : (p : Script) → WellFormed p → (t : Tables) (k x : ℕ) → (entry t k x ≡ 0 → ⊥) → 255 < entry t k x → false ≡ entry_right p t k x
entry_wrong p w t k x d h = sym (or_from _ _ (ne_eqb _ _ d) (no_binder p w _ x h))

-- the code's way to each answer, where the entry is n
pub entry_read : (p : Script) → WellFormed p → (t : Tables) (k x n : ℕ) → n ≡ entry t k x → (n ≡ 0 → ⊥) → {E : Type 0} (r : Result ℕ E) (b : Bool) (Q : ℕ → Type 0)
    → OkIff r (n < 256) n → MatchResult r Q (λ _. b ≡ false) → ((l : ℕ) → Q l → b ≡ binds_variable (binds p l) x) → b ≡ entry_right p t k x
entry_read p w t k x n e d (Ok l) b Q o m at =
    at l m ∙ ap (λ i. binds_variable (binds p i) x) (o.1 ∙ e) ∙ sym (ap (λ (z : Bool). z || binds_variable (binds p (entry t k x)) x) (ne_eqb _ _ (λ z. d (e ∙ z))))
entry_read p w t k x n e d (Err f) b Q o m at = m ∙ entry_wrong p w t k x (λ z. d (e ∙ z)) (⊎_elim (λ l. absurd (o (omega (arith, l)))) (λ l. omega (arith, l, e)) (cases_lt n 256))
