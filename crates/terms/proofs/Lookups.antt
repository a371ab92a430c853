-- Reading a term out of memory.
use Rattle.std.proofs.Common.{◌≡◌, ℕ, zero, suc, ◌+◌, ◌-◌, ◌<◌, Bool, ◌||◌, leb, List, [], ◌∷◌, map, length, get_or, take, drop, Bor, Some, None, Option, unwrap_or, sym, refl, ap, ◌∙◌, inl, inr, arith}
use Rattle.std.specs.Prelude.{slice_get, option_map}
use Rattle.std.specs.Option.{MatchOption}
use Rattle.std.specs.Slice.{IsItemAt}
use Rattle.std.specs.List.{list_any}
use native.Mathlib.Nat.{sub-zero}
use Rattle.std.proofs.lemmas.List.{length-map, get_or-map, get_or_past, drop_more}
use Rattle.std.proofs.lemmas.Option.{slice_get-map, slice_get-get_or, slice_get_past, unwrap_or-slice_get}
use Rattle.std.proofs.lemmas.Bool.{cases_lt, cond-true, cond-false, and_from, and_right, le-leb, lt-leb}
use Rattle.terms.specs.declared.term.Term.{Term}
use Rattle.terms.specs.declared.term.Term.TheVariants.{Quote}
use Rattle.terms.specs.declared.term.Definition.{Definition}
use Rattle.terms.specs.declared.table.Node.{Node}
use Rattle.terms.specs.Script.{Script, last, term_at, term, find_term, first_at, or_else, parameter_for, defun_parameter, takes_input, input_among}
use Rattle.terms.specs.Table.{terms_in, node_at, Begun, script_in}

read_by : {X Y : Type 0} (v : X → Y) (xs : List X) (i : ℕ) (d : Y) → get_or (map v xs) i d ≡ unwrap_or (option_map v (slice_get xs i)) d
read_by v xs i d = sym (unwrap_or-slice_get (map v xs) i d) ∙ ap (λ o. unwrap_or o d) (slice_get-map v xs i)

module _ (ns : List Node) where
  pub first_is : Begun ns → (l : ℕ) → unwrap_or (option_map (λ (n : Node). n.first) (node_at ns l)) 0 ≡ first_at (terms_in ns) l
  first_is begun zero = begun 0
  first_is begun (suc l) = sym (read_by (λ (n : Node). n.first) ns l 0) ∙ begun (suc l)

  pub above_is : (l : ℕ) (o : Option (Bor Node)) (t : Term) → IsItemAt ns l o → MatchOption o (t ≡ Quote 0) (λ x. t ≡ x.now.term) → t ≡ term_at (terms_in ns) (suc l)
  unfolding term_at
  above_is l None t h e = e ∙ sym (get_or_past (terms_in ns) l (Quote 0) (omega (arith, h.3, length-map ns (λ (n : Node). n.term))))
  above_is l (Some x) t h e = e ∙ ap (λ (n : Node). n.term) h.1 ∙ sym (get_or-map (λ (n : Node). n.term) ns l x.now (Quote 0) h.3.0)

  module _ (v : ℕ) (ds : List Definition) where
    pub last_is : length ns ≡ last (script_in ns v ds)
    unfolding last
    last_is = sym (length-map ns _)

    pub term_is : (l : ℕ) → option_map (λ (n : Node). n.term) (node_at ns l) ≡ find_term (script_in ns v ds) l
    unfolding term_at last
    term_is zero = refl
    term_is (suc l) = elim (cases_lt l (length (terms_in ns))) [
      | inl lt ↦ (sym (slice_get-map (λ (n : Node). n.term) ns l) ∙ slice_get-get_or (terms_in ns) l (Quote 0) lt
          ∙ sym (cond-true _ _ _ (and_from _ _ (le-leb 1 (suc l) (omega arith)) (le-leb (suc l) (length (terms_in ns)) lt))))
      | inr ge ↦ (sym (slice_get-map (λ (n : Node). n.term) ns l) ∙ slice_get_past (terms_in ns) l ge
          ∙ sym (cond-false _ _ _ (and_right (leb 1 (suc l)) _ (lt-leb (suc l) (length (terms_in ns)) (omega arith)))))
    ]

-- a part from the start
pub front : {X : Type 0} (xs : List X) (n : ℕ) → take (n - 0) (drop 0 xs) ≡ take n xs
front xs n = ap (λ k. take k xs) (sub-zero n)

-- a turn of the search among definitions
module _ (ds : List Definition) (i : ℕ) (d : Definition) (lt : i < length ds) where
  pub parameter_turn : (b : ℕ) → defun_parameter ds b ≡ defun_parameter (drop i ds) b → (o : Option ℕ) → o ≡ parameter_for (get_or ds i d) b
      → defun_parameter ds b ≡ or_else o (defun_parameter (drop (i + 1) ds) b)
  parameter_turn b inv o e = inv ∙ ap (λ es. defun_parameter es b) (drop_more ds i d lt) ∙ ap (λ u. or_else u (defun_parameter (drop (i + 1) ds) b)) (sym e)

  pub input_turn : (x : ℕ) → input_among ds x ≡ input_among (drop i ds) x → (o : Bool) → o ≡ takes_input (get_or ds i d) x
      → input_among ds x ≡ (o || input_among (drop (i + 1) ds) x)
  input_turn x inv o e = inv ∙ ap (λ es. input_among es x) (drop_more ds i d lt) ∙ ap (λ u. u || input_among (drop (i + 1) ds) x) (sym e)

pub or_else_is : {X : Type 0} (o q r : Option X) → MatchOption o (r ≡ q) (λ x. r ≡ Some x) → r ≡ or_else o q
or_else_is None q r e = e
or_else_is (Some x) q r e = e

none_among : (ds : List Definition) (b : ℕ) → ((k : ℕ) (d : Definition) → k < length ds → parameter_for (get_or ds k d) b ≡ None) → defun_parameter ds b ≡ None
none_among [] b h = refl
none_among (d ∷ ds) b h = ap (λ o. or_else o (defun_parameter ds b)) (h 0 d (omega arith)) ∙ none_among ds b (λ k e lt. h (suc k) e (omega arith))

some_among : (ds : List Definition) (b y i : ℕ) → i < length ds → ((d : Definition) → parameter_for (get_or ds i d) b ≡ Some y) → ((k : ℕ) (d : Definition) → k < i → parameter_for (get_or ds k d) b ≡ None)
    → defun_parameter ds b ≡ Some y
some_among [] b y i lt here before = absurd (omega arith)
some_among (d ∷ ds) b y zero lt here before = ap (λ o. or_else o (defun_parameter ds b)) (here d)
some_among (d ∷ ds) b y (suc i) lt here before = ap (λ o. or_else o (defun_parameter ds b)) (before 0 d (omega arith)) ∙ some_among ds b y i (omega arith) here (λ k e lt. before (suc k) e (omega arith))

pub found_in : (ds : List Definition) (b : ℕ) (r : Option ℕ) → (r ≡ None → (k : ℕ) (d : Definition) → k < length ds → parameter_for (get_or ds k d) b ≡ None)
    → ((y : ℕ) → r ≡ Some y → (i : ℕ) × (i < length ds) × ((d : Definition) → parameter_for (get_or ds i d) b ≡ Some y) × ((k : ℕ) (d : Definition) → k < i → parameter_for (get_or ds k d) b ≡ None))
    → r ≡ defun_parameter ds b
found_in ds b None none some = sym (none_among ds b (none refl))
found_in ds b (Some y) none some = let s = some y refl in sym (some_among ds b y s.0 s.1 s.2 s.3)

pub any_input : (ds : List Definition) (x : ℕ) → list_any (λ d. takes_input d x) ds ≡ input_among ds x
any_input [] x = refl
any_input (d ∷ ds) x = ap (λ b. takes_input d x || b) (any_input ds x)

-- where there is no term, nil quoted stands
pub nothing_there : (p : Script) (l : ℕ) → None ≡ find_term p l → term p l ≡ Quote 0
unfolding term_at last
nothing_there p zero e = refl
nothing_there p (suc l) e = elim (cases_lt l (length p.terms)) [
  | inl h ↦ (absurd (let k : None ≡ Some (term p (suc l)) = e ∙ cond-true _ _ _ (and_from _ _ (le-leb 1 (suc l) (omega arith)) (le-leb (suc l) (length p.terms) (omega arith))) in
      cc))
  | inr h ↦ (get_or_past p.terms l (Quote 0) h)
]
