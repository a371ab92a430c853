-- Open is refused by the rule of mark bytes, and names the first wrong one.
use Rattle.std.proofs.Common.{◌≡◌, ℕ, zero, suc, ◌+◌, ◌<◌, ◌≤◌, Bool, true, false, cond, ◌&&◌, eqb, ltb, List, [], ◌∷◌, length, get_or, is_some, Some, None, Ok, Err, Option, sym, refl, ap, ◌∙◌, subst, inl, inr, arith}
use Rattle.std.proofs.lemmas.Bool.{cases_Bool, cases_eq, cases_lt, cond-true, cond-false, eqb-true, eqb-false, eq-eqb, ltb-true, ltb-false, le-ltb, or_parts, or_cases, or_left, or_right, or_from, and_parts, and_from, and_left, and_right, not-true, not-false, not_from_true, not_from_false, both_ways, false≢true}
use Rattle.faults.specs.declared.fault.Fault.TheVariants.{StoreLimit, MemoryLength}
use Rattle.terms.specs.Script.{Script, binds, occurs}
use Rattle.terms.specs.WellFormed.{WellFormed}
use Rattle.stores.specs.Meaning.{Meaning, clear_of}
use Rattle.owners.specs.Owners.{some_of, owner, captured}
use Rattle.owners.proofs.Laws.{owned}
use Rattle.values.specs.declared.value.Value.{Value}
use Rattle.machine.specs.Open.{owns_captured, wrong_mark, first_wrong, opened, opens_over, open_of}
use Rattle.machine.specs.Laws.{Markable, RightMark, Begins, wrong_length, wrong_byte, small_store, begun, BeginsByRule}
use Rattle.machine.proofs.Variables.{none_some, past_end}

some_false : (n c : ℕ) (f : ℕ → Bool) → some_of n c f ≡ false → (g : ℕ) → c ≤ g → g < c + n → f g ≡ false
unfolding some_of
some_false zero c f e g low high = absurd (omega arith)
some_false (suc n) c f e g low high =
    let q = or_parts (f c) (some_of n (suc c) f) e in
    elim (cases_eq g c) [ inl i ↦ (ap f i ∙ q.0) | inr i ↦ some_false n (suc c) f q.1 g (omega arith) (omega arith) ]

some_none : (n c : ℕ) (f : ℕ → Bool) → ((g : ℕ) → f g ≡ false) → some_of n c f ≡ false
unfolding some_of
some_none zero c f h = refl
some_none (suc n) c f h = or_from (f c) _ (h c) (some_none n (suc c) f h)

-- the first wrong byte
record First (p : Script) (l : ℕ) (bytes : List ℕ) (b : ℕ) : Type 0 where
  pub at : ℕ
  pub is : b ≡ l + at
  pub within : at < length bytes
  pub wrong : wrong_mark p b (get_or bytes at 0) ≡ true
  pub before : (i : ℕ) → i < at → wrong_mark p (l + i) (get_or bytes i 0) ≡ false

first_none : (p : Script) (l : ℕ) (bytes : List ℕ) → first_wrong p l bytes ≡ None → (i : ℕ) → i < length bytes → wrong_mark p (l + i) (get_or bytes i 0) ≡ false
first_none p l [] e i h = absurd (omega arith)
first_none p l (b ∷ bs) e i h = elim (cases_Bool (wrong_mark p l b)) [
  | inl q ↦ absurd (none_some (sym e ∙ cond-true (wrong_mark p l b) (Some l) _ q))
  | inr q ↦ at i h q (first_none p (suc l) bs (sym (cond-false (wrong_mark p l b) (Some l) _ q) ∙ e))
]
  where
    at : (i : ℕ) → i < length (b ∷ bs) → wrong_mark p l b ≡ false → ((j : ℕ) → j < length bs → wrong_mark p (suc l + j) (get_or bs j 0) ≡ false) → wrong_mark p (l + i) (get_or (b ∷ bs) i 0) ≡ false
    at zero h q ih = let z : l ≡ l + 0 = omega arith in subst (λ k. wrong_mark p k b ≡ false) z q
    at (suc i) h q ih = let z : suc l + i ≡ l + suc i = omega arith in subst (λ k. wrong_mark p k (get_or bs i 0) ≡ false) z (ih i (omega arith))

first_some : (p : Script) (l : ℕ) (bytes : List ℕ) (b : ℕ) → first_wrong p l bytes ≡ Some b → First p l bytes b
first_some p l [] b e = absurd (none_some e)
first_some p l (c ∷ cs) b e = elim (cases_Bool (wrong_mark p l c)) [
  | inl q ↦ (
      let same : l ≡ b = let k : Some l ≡ Some b = sym (cond-true (wrong_mark p l c) (Some l) _ q) ∙ e in cc in
      record { at = 0; is = omega arith; within = omega arith; wrong = subst (λ k. wrong_mark p k c ≡ true) same q; before = λ i h. absurd (omega arith) })
  | inr q ↦ (let r = first_some p (suc l) cs b (sym (cond-false (wrong_mark p l c) (Some l) _ q) ∙ e) in
      record { at = suc r.at; is = omega (arith, r.is); within = omega (arith, r.within); wrong = r.wrong; before = λ i h. earlier r.at r.before i h q })
]
  where
    earlier : (a : ℕ) → ((i : ℕ) → i < a → wrong_mark p (suc l + i) (get_or cs i 0) ≡ false) → (i : ℕ) → i < suc a → wrong_mark p l c ≡ false → wrong_mark p (l + i) (get_or (c ∷ cs) i 0) ≡ false
    earlier a f zero h q = let z : l ≡ l + 0 = omega arith in subst (λ k. wrong_mark p k c ≡ false) z q
    earlier a f (suc i) h q = let z : suc l + i ≡ l + suc i = omega arith in subst (λ k. wrong_mark p k (get_or cs i 0) ≡ false) z (f i (omega arith))

all_right : (p : Script) (l : ℕ) (bytes : List ℕ) → ((i : ℕ) → i < length bytes → wrong_mark p (l + i) (get_or bytes i 0) ≡ false) → first_wrong p l bytes ≡ None
all_right p l [] h = refl
all_right p l (b ∷ bs) h =
    let z : l + 0 ≡ l = omega arith in
    cond-false (wrong_mark p l b) _ _ (subst (λ k. wrong_mark p k b ≡ false) z (h 0 (omega arith)))
    ∙ all_right p (suc l) bs (λ i s. let y : l + suc i ≡ suc l + i = omega arith in subst (λ k. wrong_mark p k (get_or bs i 0) ≡ false) y (h (suc i) (omega arith)))

module _ (p : Script) (W : WellFormed p) where
  -- what has no label here is no occurrence
  past : (l : ℕ) → 256 ≤ l → captured p l ≡ false
  past l h = elim (cases_Bool (captured p l)) [
    | inr q ↦ q
    | inl q ↦ absurd (((owned p W l).captures q).0 ((owned p W l).other_terms (ap occurs (past_end p l (omega (arith, W.few_terms))))))
  ]

  free_out : (b : ℕ) → owns_captured p b ≡ false → (l : ℕ) → owner p l ≡ b → captured p l ≡ false
  unfolding owns_captured
  free_out b e l o = elim (cases_lt l 256) [
    | inr h ↦ past l h
    | inl h ↦ (
        let q = some_false 256 0 (λ l. eqb (owner p l) b && captured p l) e l (omega arith) (omega arith) in
        elim (cases_Bool (captured p l)) [ inr c ↦ c | inl c ↦ absurd (both_ways (eqb (owner p l) b && captured p l) q (and_from _ _ (eq-eqb (owner p l) b o) c)) ])
  ]

  free_in : (b : ℕ) → ((l : ℕ) → owner p l ≡ b → captured p l ≡ false) → owns_captured p b ≡ false
  unfolding owns_captured
  free_in b h = some_none 256 0 _ (λ l. elim (cases_Bool (eqb (owner p l) b)) [
    | inl e ↦ and_right (eqb (owner p l) b) _ (h l (eqb-true (owner p l) b e))
    | inr e ↦ and_left _ (captured p l) e
  ])

  bound_by : (b : ℕ) (o : Option ℕ) → binds p b ≡ o → is_some o ≡ true → owns_captured p b ≡ false → Markable p b
  bound_by b None e s f = absurd (false≢true s)
  bound_by b (Some x) e s f = record { variable = x; binder = e; uncaptured = free_out b f }

  right_out : (b byte : ℕ) → wrong_mark p b byte ≡ false → RightMark p b byte
  right_out b byte e = elim (or_cases (eqb byte 0) _ (not-false _ e)) [
    | inl q ↦ inl (eqb-true byte 0 q)
    | inr q ↦ (
        let r = and_parts (eqb byte 1) _ q in
        let s = and_parts (is_some (binds p b)) _ r.1 in
        inr (eqb-true byte 1 r.0, bound_by b (binds p b) refl s.0 (not-true _ s.1)))
  ]

  right_in : (b byte : ℕ) → RightMark p b byte → wrong_mark p b byte ≡ false
  right_in b byte (inl e) = not_from_true _ (or_left (eqb byte 0) _ (eq-eqb byte 0 e))
  right_in b byte (inr m) = not_from_true _ (or_right (eqb byte 0) _ (and_from _ _ (eq-eqb byte 1 m.0) (and_from _ _ (ap is_some m.1.binder) (not_from_false _ (free_in b m.1.uncaptured)))))

  module _ (bytes : List ℕ) (m : Meaning Value) where
    begins_with : length bytes ≡ 256 → (o : Option ℕ) → first_wrong p 0 bytes ≡ o → Begins p bytes m (opens_over m o)
    begins_with size (Some b) e =
        let f = first_some p 0 bytes b e in
        let z : b ≡ f.at = omega (arith, f.is) in
        wrong_byte b size (omega (arith, f.within, z))
        (λ i h. right_out i (get_or bytes i 0) (let y : 0 + i ≡ i = omega arith in subst (λ k. wrong_mark p k (get_or bytes i 0) ≡ false) y (f.before i (omega (arith, z)))))
        (λ r. both_ways (wrong_mark p b (get_or bytes b 0)) (right_in b (get_or bytes b 0) r) (subst (λ k. wrong_mark p b (get_or bytes k 0) ≡ true) (sym z) f.wrong))
    begins_with size None e = go (ltb m.limit 255) refl
      where
        right : (i : ℕ) → i < 256 → RightMark p i (get_or bytes i 0)
        right i h = right_out i (get_or bytes i 0) (let y : 0 + i ≡ i = omega arith in subst (λ k. wrong_mark p k (get_or bytes i 0) ≡ false) y (first_none p 0 bytes e i (omega arith)))

        go : (d : Bool) → ltb m.limit 255 ≡ d → Begins p bytes m (cond d (Err StoreLimit, m) (Ok (opened m), clear_of m))
        go true q = small_store size right (ltb-true m.limit 255 q)
        go false q = begun size right (ltb-false m.limit 255 q)

    -- where all is right the run begins
    pub opens_right : length bytes ≡ 256 → ((i : ℕ) → i < 256 → RightMark p i (get_or bytes i 0)) → 255 ≤ m.limit → open_of p bytes m ≡ (Ok (opened m), clear_of m)
    opens_right size right many =
        cond-true (eqb (length bytes) 256) _ _ (eq-eqb (length bytes) 256 size)
        ∙ ap (opens_over m) (all_right p 0 bytes (λ i h. let z : i ≡ 0 + i = omega arith in subst (λ k. wrong_mark p k (get_or bytes i 0) ≡ false) z (right_in i (get_or bytes i 0) (right i (omega arith)))))
        ∙ cond-false (ltb m.limit 255) _ _ (le-ltb m.limit 255 many)

    begins : Begins p bytes m (open_of p bytes m)
    begins = go (eqb (length bytes) 256) refl
      where
        go : (d : Bool) → eqb (length bytes) 256 ≡ d → Begins p bytes m (cond d (opens_over m (first_wrong p 0 bytes)) (Err MemoryLength, m))
        go true q = begins_with (eqb-true (length bytes) 256 q) (first_wrong p 0 bytes) refl
        go false q = wrong_length (eqb-false (length bytes) 256 q)

pub begins_by_rule : BeginsByRule
begins_by_rule p W bytes m = begins p W bytes m
