-- The clause of each kind of term as it is tried, and as it is said: the same.
use Rattle.std.proofs.Common.{◌≡◌, ℕ, zero, suc, ◌+◌, ◌-◌, ◌<◌, ◌≤◌, Bool, true, false, cond, List, [], ◌∷◌, ◌++◌, is_some, Some, None, Option, sym, refl, ap, subst, inl, inr, arith}
use Rattle.std.proofs.lemmas.Bool.{cases_eq}
use Rattle.terms.specs.declared.term.Term.{Term}
use Rattle.terms.specs.declared.term.Term.TheVariants.{Number, Quote, Lambda, Variable, Setq, Let, If, Apply, Cons, Car, Cdr, Add, Same}
use Rattle.terms.specs.declared.term.Definition.{Definition}
use Rattle.terms.specs.declared.term.Definition.TheVariants.{Input, Defvar, Defun}
use Rattle.terms.specs.Script.{Script, term, parameter, cons_operands}
use Rattle.terms.specs.WellFormed.{WellFormed}
use Rattle.terms.proofs.Nesting.{binder_label, body_binds}
use Rattle.facts.specs.Numbering.{pair_fact, flow_set}
use Rattle.facts.proofs.Firsts.{holds_parts}
use Rattle.proposals.specs.Tables.{Tables, in_set, contexts, extension}
use Rattle.proposals.specs.Laws.{DueForm, Named, a_number, symbol, function, pair}
use Rattle.clauses.specs.Clauses.{Part, entered, enter, each_fact, called, calls, first_half, second_half, cons_of, context_of, halves, clause, definition_clause}
use Rattle.clauses.specs.Acceptance.{Holds, Subset, Enters, Calls, TermMet, DefinitionMet, AllMet}
use Rattle.clauses.proofs.Meeting.{extension_row, row_extension, extension_is}

-- ---- the parts of all the facts of a set
module _ (t : Tables) where
  front : (ds es : List Part) → AllMet t (ds ++ es) → AllMet t ds
  front [] es h = tt
  front (d ∷ ds) es h = (h.0, front ds es h.1)

  back : (ds es : List Part) → AllMet t (ds ++ es) → AllMet t es
  back [] es h = h
  back (d ∷ ds) es h = back ds es h.1

  both : (ds es : List Part) → AllMet t ds → AllMet t es → AllMet t (ds ++ es)
  both [] es h g = g
  both (d ∷ ds) es h g = (h.0, both ds es h.1 g)

  module _ (s : ℕ) (parts : ℕ → List Part) where
    pub each_out : (f n : ℕ) → AllMet t (each_fact t s f n parts) → (g : ℕ) → f ≤ g → g < f + n → in_set t s g ≡ true → AllMet t (parts g)
    unfolding each_fact
    each_out f zero h g low high i = absurd (omega arith)
    each_out f (suc n) h g low high i = elim (cases_eq g f) [
      | inl e ↦ (front (parts g) (each_fact t s (suc f) n parts)
          (subst (λ b. AllMet t (cond b (parts g) [] ++ each_fact t s (suc f) n parts)) i (subst (λ u. AllMet t (cond (in_set t s u) (parts u) [] ++ each_fact t s (suc f) n parts)) (sym e) h)))
      | inr d ↦ (each_out (suc f) n (back (cond (in_set t s f) (parts f) []) (each_fact t s (suc f) n parts) h) g (omega arith) (omega arith) i)
    ]

    one : (b : Bool) (f : ℕ) → (b ≡ true → AllMet t (parts f)) → AllMet t (cond b (parts f) [])
    one true f h = h refl
    one false f h = tt

    pub each_in : (f n : ℕ) → ((g : ℕ) → f ≤ g → g < f + n → in_set t s g ≡ true → AllMet t (parts g)) → AllMet t (each_fact t s f n parts)
    unfolding each_fact
    each_in f zero h = tt
    each_in f (suc n) h =
        both (cond (in_set t s f) (parts f) []) (each_fact t s (suc f) n parts)
        (one (in_set t s f) f (h f (omega arith) (omega arith)))
        (each_in (suc f) n (λ g low high. h g (omega arith) (omega arith)))

-- ---- numbers of pairs
cons_back : (c j : ℕ) → j < 16 → cons_of (pair_fact c j) ≡ c
cons_back c j h = omega arith

context_back : (c j : ℕ) → j < 16 → context_of (pair_fact c j) ≡ j
context_back c j h = omega arith

pair_back : (f : ℕ) → 512 ≤ f → pair_fact (cons_of f) (context_of f) ≡ f
pair_back f h = omega arith

module _ (p : Script) (W : WellFormed p) (t : Tables) (D : DueForm p t) where
  -- ---- a body that is entered
  pub enter_out : (l k b x c : ℕ) → AllMet t (enter t l k b x c) → Enters t l k b x c
  enter_out l k b x c h = at (extension t k x c) refl h.1
    where
      at : (o : Option ℕ) → extension t k x c ≡ o → AllMet t (entered l k b c o) → Enters t l k b x c
      at None e g = absurd (row_extension t k x c h.0.0 h.0.1 e)
      at (Some j) e g = record { inner = j; extends = extension_row t k x c j e; body = g.0; bound = g.1.0; returned = g.1.1.0 }

  pub enter_in : (l k b x c : ℕ) → Enters t l k b x c → AllMet t (enter t l k b x c)
  enter_in l k b x c h = (
    (h.inner, h.extends),
    subst (λ o. AllMet t (entered l k b c o)) (sym (extension_is p t D k x c h.inner h.extends)) (h.body, (h.bound, (h.returned, tt))),
  )

  -- ---- the functions of an operator
  body_small : (g y : ℕ) → parameter p g ≡ Some y → g < 256
  body_small g y e = let k = binder_label p W g (body_binds p g (ap is_some e)) in omega (arith, k.1, W.few_terms)

  calls_out : (l k a b : ℕ) → AllMet t (calls p t l k a b) → Calls p t l k a b
  calls_out l k a b h g y i e =
      let back : (64 + g) - 64 ≡ g = omega arith in
      enter_out l k b y g (subst (λ o. AllMet t (called t l k b g o)) e (subst (λ u. AllMet t (called t l k b u (parameter p u))) back
      (each_out t (flow_set a k) (λ f. called t l k b (f - 64) (parameter p (f - 64))) 64 256 h (64 + g) (omega arith) (omega (arith, body_small g y e)) i)))

  calls_in : (l k a b : ℕ) → Calls p t l k a b → AllMet t (calls p t l k a b)
  calls_in l k a b h =
      each_in t (flow_set a k) (λ f. called t l k b (f - 64) (parameter p (f - 64))) 64 256 (λ f low high i. at (f - 64) (let q : 64 + (f - 64) ≡ f = omega arith in subst (λ u. in_set t (flow_set a k) u ≡ true) (sym q) i) (parameter p (f - 64)) refl)
    where
      at : (g : ℕ) → Holds t (flow_set a k) (64 + g) → (o : Option ℕ) → parameter p g ≡ o → AllMet t (called t l k b g o)
      at g i None e = tt
      at g i (Some y) e = enter_in l k b y g (h g y i e)

  -- ---- the pairs of an operand
  few : (j : ℕ) → j < contexts t → j < 16
  few j h = omega (arith, D.few_contexts)

  named_context : (f : ℕ) → Named p t f → 512 ≤ f → context_of f < contexts t
  named_context _ a_number low = absurd (omega arith)
  named_context _ (symbol s h) low = absurd (omega (arith, W.few_symbols))
  named_context _ (function g h) low = absurd (let k = binder_label p W g (body_binds p g h) in omega (arith, k.1, W.few_terms))
  named_context _ (pair c a b k e h) low = rw (context_back c k (few k h)) h

  module _ (half : ℕ → Option (ℕ × ℕ) → List Part) (P : ℕ → ℕ → ℕ → Type 0) where
    halves_out : (a k : ℕ) → ((j u v : ℕ) → AllMet t (half j (Some (u, v))) → P j u v) → AllMet t (halves p t a k half)
        → (c j u v : ℕ) → j < contexts t → Holds t (flow_set a k) (pair_fact c j) → cons_operands (term p c) ≡ Some (u, v) → P j u v
    halves_out a k each h c j u v hj i e =
        each j u v (subst (λ o. AllMet t (half j o)) e
        (subst (λ d. AllMet t (half j (cons_operands (term p d)))) (cons_back c j (few j hj))
        (subst (λ m. AllMet t (half m (cons_operands (term p (cons_of (pair_fact c j)))))) (context_back c j (few j hj))
        (each_out t (flow_set a k) (λ f. half (context_of f) (cons_operands (term p (cons_of f)))) 512 4096 h (pair_fact c j)
        (omega arith) (omega (arith, (holds_parts t.members (flow_set a k) (pair_fact c j) i).1)) i))))

    halves_in : (a k : ℕ) → ((j : ℕ) → AllMet t (half j None)) → ((j u v : ℕ) → P j u v → AllMet t (half j (Some (u, v))))
        → ((c j u v : ℕ) → j < contexts t → Holds t (flow_set a k) (pair_fact c j) → cons_operands (term p c) ≡ Some (u, v) → P j u v)
        → AllMet t (halves p t a k half)
    halves_in a k empty each h =
        each_in t (flow_set a k) (λ f. half (context_of f) (cons_operands (term p (cons_of f)))) 512 4096
        (λ f low high i. at (cons_of f) (context_of f) (named_context f (D.named (flow_set a k) f i) low) (subst (λ u. in_set t (flow_set a k) u ≡ true) (sym (pair_back f low)) i) (cons_operands (term p (cons_of f))) refl)
      where
        at : (c j : ℕ) → j < contexts t → Holds t (flow_set a k) (pair_fact c j) → (o : Option (ℕ × ℕ)) → cons_operands (term p c) ≡ o → AllMet t (half j o)
        at c j hj i None e = empty j
        at c j hj i (Some q) e = each j q.0 q.1 (h c j q.0 q.1 hj i e)

  -- ---- the kinds
  pub term_out : (l k : ℕ) (m : Term) → AllMet t (clause p t l k m) → TermMet p t l k m
  term_out l k (Number n) h = h.0
  term_out l k (Quote s) h = h.0
  term_out l k (Lambda x b) h = h.0
  term_out l k (Variable x) h = h.0
  term_out l k (Setq x b) h = record { operand = h.0; assigned = h.1.0; returned = h.1.1.0 }
  term_out l k (Let x b c) h = record { operand = h.0; entered = enter_out l k b x c h.1 }
  term_out l k (If a b c) h = record { condition = h.0; then = h.1.0; otherwise = h.1.1.0; then_returned = h.1.1.1.0; otherwise_returned = h.1.1.1.1.0 }
  term_out l k (Apply a b) h = record { operator = h.0; operand = h.1.0; called = calls_out l k a b h.1.1 }
  term_out l k (Cons a b) h = record { first = h.0; second = h.1.0; made = h.1.1.0 }
  term_out l k (Car a) h = record { operand = h.0; returned = halves_out (first_half l k) (λ j u v. Subset t (flow_set u j) (flow_set l k)) a k (λ j u v g. g.0) h.1 }
  term_out l k (Cdr a) h = record { operand = h.0; returned = halves_out (second_half l k) (λ j u v. Subset t (flow_set v j) (flow_set l k)) a k (λ j u v g. g.0) h.1 }
  term_out l k (Add a b) h = record { first = h.0; second = h.1.0; made = h.1.1.0 }
  term_out l k (Same a b) h = record { first = h.0; second = h.1.0; unlike = h.1.1.0; alike = h.1.1.1.0 }

  pub term_in : (l k : ℕ) (m : Term) → TermMet p t l k m → AllMet t (clause p t l k m)
  term_in l k (Number n) h = (h, tt)
  term_in l k (Quote s) h = (h, tt)
  term_in l k (Lambda x b) h = (h, tt)
  term_in l k (Variable x) h = (h, tt)
  term_in l k (Setq x b) h = (h.operand, (h.assigned, (h.returned, tt)))
  term_in l k (Let x b c) h = (h.operand, enter_in l k b x c h.entered)
  term_in l k (If a b c) h = (h.condition, (h.then, (h.otherwise, (h.then_returned, (h.otherwise_returned, tt)))))
  term_in l k (Apply a b) h = (h.operator, (h.operand, calls_in l k a b h.called))
  term_in l k (Cons a b) h = (h.first, (h.second, (h.made, tt)))
  term_in l k (Car a) h = (h.operand, halves_in (first_half l k) (λ j u v. Subset t (flow_set u j) (flow_set l k)) a k (λ j. tt) (λ j u v g. (g, tt)) h.returned)
  term_in l k (Cdr a) h = (h.operand, halves_in (second_half l k) (λ j u v. Subset t (flow_set v j) (flow_set l k)) a k (λ j. tt) (λ j u v g. (g, tt)) h.returned)
  term_in l k (Add a b) h = (h.first, (h.second, (h.made, tt)))
  term_in l k (Same a b) h = (h.first, (h.second, (h.unlike, (h.alike, tt))))

-- ---- definitions
module _ (t : Tables) where
  pub definition_out : (d : Definition) → AllMet t (definition_clause d) → DefinitionMet t d
  definition_out (Input x) h = h.0
  definition_out (Defvar x r) h = record { root = h.0; defined = h.1.0 }
  definition_out (Defun x y r) h = h.0

  pub definition_in : (d : Definition) → DefinitionMet t d → AllMet t (definition_clause d)
  definition_in (Input x) h = (h, tt)
  definition_in (Defvar x r) h = (h.root, (h.defined, tt))
  definition_in (Defun x y r) h = (h, tt)
