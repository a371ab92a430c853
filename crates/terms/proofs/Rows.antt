-- The reading of one row, and of all of them in turn.
use Rattle.std.proofs.Common.{◌≡◌, ℕ, ◌<◌, ◌≤◌, Bool, true, false, cond, ◌&&◌, List, length, is_some, Some, None, Option, unwrap_or, sym, refl, ap, ◌∙◌}
use Rattle.terms.specs.declared.raw.RawTerm.{RawTerm}
use Rattle.terms.specs.declared.term.Term.{Term}
use Rattle.terms.specs.declared.term.Term.TheVariants.{Quote}
use Rattle.terms.specs.declared.table.Node.{Node}
use Rattle.terms.specs.Syntax.{children, symbol_of, decode}
use Rattle.terms.specs.Script.{term_at, first_at}
use Rattle.terms.specs.Form.{symbol_right, chained, term_right, term_of}
use Rattle.terms.specs.Reading.{with_first, beginning, named, opening, term_read, read_term}
use Rattle.terms.proofs.Firsts.{step, first_le, first_step}
use Rattle.terms.proofs.Openings.{opening_same, opening_is}

beginning_by : (t : Term) (s k : Bool) (a : ℕ)
    → cond s (beginning t (cond k (Some a) None)) None ≡ cond (s && k) (Some (with_first t a)) None
beginning_by t true true a = refl
beginning_by t true false a = refl
beginning_by t false k a = refl

module _ (v : ℕ) (ts : List Term) (l : ℕ) (low : 1 ≤ l) (high : l ≤ length ts) (f : ℕ → ℕ) (same : (c : ℕ) → c < l → f c ≡ first_at ts c) where
  at_term : (t : Term) → term_at ts l ≡ t
      → term_read f v l (Some t) ≡ cond (symbol_right v (symbol_of t) && chained (first_at ts) (children t) l) (Some (with_first t (first_at ts l))) None
  at_term t e =
      ap (λ o. cond (symbol_right v (symbol_of t)) (beginning t o) None)
      (opening_same (first_at ts) (first_le ts) l f same (children t) ∙ opening_is (first_at ts) (first_le ts) l (children t))
      ∙ beginning_by t (symbol_right v (symbol_of t)) (chained (first_at ts) (children t) l) (step (first_at ts) l (children t))
      ∙ ap (λ a. cond (symbol_right v (symbol_of t) && chained (first_at ts) (children t) l) (Some (with_first t a)) None)
      (sym (first_step ts l low high ∙ ap (λ u. step (first_at ts) l (children u)) e))

  at_row : (o : Option Term) → term_at ts l ≡ unwrap_or o (Quote 0)
      → term_read f v l o ≡ cond (is_some o && term_right v ts l) (Some (with_first (term_at ts l) (first_at ts l))) None
  unfolding term_right
  at_row None e = refl
  at_row (Some t) e =
      at_term t e
      ∙ ap (λ u. cond (symbol_right v (symbol_of u) && chained (first_at ts) (children u) l) (Some (with_first u (first_at ts l))) None) (sym e)

  -- a row is read exactly when it is right, as its term with its first label
  pub read_is : (r : RawTerm) → term_at ts l ≡ term_of r
      → read_term f v r l ≡ cond (is_some (decode r) && term_right v ts l) (Some (with_first (term_at ts l) (first_at ts l))) None
  read_is r e = at_row (decode r) e

-- what the term that a row stands for comes to, if it names symbols of the script alone
abbrev began : (ℕ → ℕ) → ℕ → Option Term → Option Node
began f l None = None
began f l (Some t) = beginning t (opening f (children t) l)

module _ (f : ℕ → ℕ) (v l : ℕ) where
  named_read : (o : Option Term) → term_read f v l o ≡ began f l (named v o)
  named_read None = refl
  named_read (Some t) = at (symbol_right v (symbol_of t))
    where
      at : (b : Bool) → cond b (beginning t (opening f (children t) l)) None ≡ began f l (cond b (Some t) None)
      at true = refl
      at false = refl

  module _ (r : RawTerm) (t : Term) (e : named v (decode r) ≡ Some t) where
    pub not_opened : opening f (children t) l ≡ None → read_term f v r l ≡ None
    not_opened o = named_read (decode r) ∙ ap (began f l) e ∙ ap (beginning t) o

    pub node_read : (a : ℕ) → opening f (children t) l ≡ Some a → read_term f v r l ≡ Some (with_first t a)
    node_read a o = named_read (decode r) ∙ ap (began f l) e ∙ ap (beginning t) o
