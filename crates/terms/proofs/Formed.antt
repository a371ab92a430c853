-- The rules of form as they are tested, and as facts: the same.
use Rattle.std.proofs.Common.{◌≡◌, ℕ, zero, suc, ◌<◌, ◌≤◌, true, eqb, ltb, leb, List, [], ◌∷◌, ◌++◌, length, Some, None, Option, sym, refl, subst, arith}
use Rattle.std.proofs.lemmas.Bool.{and_parts, and_from, leb-true, le-leb, eqb-true, eq-eqb, ltb-true, lt-ltb, cond-true}
use Rattle.terms.specs.declared.term.Term.{Term}
use Rattle.terms.specs.Syntax.{children, symbol_of}
use Rattle.terms.specs.Script.{Script, last, term_at, first_at}
use Rattle.terms.specs.Form.{sizes_right, symbol_right, chained, chained_from, term_right, terms_right, definitions_right, roots, covers, well_formed}
use Rattle.terms.specs.WellFormed.{Cover, WellFormed}
use Rattle.terms.proofs.Firsts.{step, first_le, first_step}
use Rattle.terms.proofs.Openings.{chained_below}
use Rattle.terms.proofs.Makes.{sizes, terms_right_all, terms_right_at}

pub name_below : (v x : ℕ) (o : Option ℕ) → symbol_right v o ≡ true → o ≡ Some x → x < v
name_below v x None h e = absurd cc
name_below v x (Some y) h e = let q : y ≡ x = cc in let k : y < v = ltb-true y v h in omega arith

name_right : (v : ℕ) (o : Option ℕ) → ((x : ℕ) → o ≡ Some x → x < v) → symbol_right v o ≡ true
name_right v None h = refl
name_right v (Some y) h = lt-ltb y v (h y refl)

-- ---- children
module _ (g : ℕ → ℕ) (le : (c : ℕ) → g c ≤ c) (l : ℕ) where
  cover_from : (c : ℕ) (cs : List ℕ) → chained_from g c cs l ≡ true → Cover g (g c) (c ∷ cs) l
  cover_from c [] h = (refl, le c, eqb-true (suc c) l (and_parts (leb 1 c) _ h).1)
  cover_from c (d ∷ cs) h =
      let q = and_parts (eqb (suc c) (g d)) (chained_from g d cs l) (and_parts (leb 1 c) _ h).1 in
      (refl, le c, subst (λ a. Cover g a (d ∷ cs) l) (sym (eqb-true (suc c) (g d) q.0)) (cover_from d cs q.1))

  chained_since : (a c : ℕ) (cs : List ℕ) → 1 ≤ a → Cover g a (c ∷ cs) l → chained_from g c cs l ≡ true
  chained_since a c [] low h = and_from _ _ (le-leb 1 c (omega (arith, h.1))) (eq-eqb (suc c) l h.2)
  chained_since a c (d ∷ cs) low h =
      and_from _ _ (le-leb 1 c (omega (arith, h.1))) (and_from _ _ (eq-eqb (suc c) (g d) (sym h.2.0)) (chained_since (suc c) d cs (omega arith) h.2))

  step_from : (cs : List ℕ) → chained g cs l ≡ true → Cover g (step g l cs) cs l
  step_from [] h = refl
  step_from (c ∷ cs) h = subst (λ a. Cover g a (c ∷ cs) l) (sym (cond-true (ltb c l) (g c) l (lt-ltb c l (chained_below g le l c cs h)))) (cover_from c cs h)

  step_since : (a : ℕ) (cs : List ℕ) → 1 ≤ a → Cover g a cs l → chained g cs l ≡ true
  step_since a [] low h = refl
  step_since a (c ∷ cs) low h = chained_since a c cs low h

  -- children that keep the rule are labels, and so they begin at a label
  starts : (cs : List ℕ) → 1 ≤ l → ((c : ℕ) → 1 ≤ c → c < l → 1 ≤ g c) → chained g cs l ≡ true → 1 ≤ step g l cs
  starts [] low h e = low
  starts (c ∷ cs) low h e =
      let b : c < l = chained_below g le l c cs e in
      rw (cond-true (ltb c l) (g c) l (lt-ltb c l b)) (h c (one c cs e) b)
    where
      one : (c : ℕ) (cs : List ℕ) → chained_from g c cs l ≡ true → 1 ≤ c
      one c [] e = leb-true 1 c (and_parts (leb 1 c) _ e).0
      one c (d ∷ cs) e = leb-true 1 c (and_parts (leb 1 c) _ e).0

-- ---- roots
covers_cover : (g : ℕ → ℕ) (le : (c : ℕ) → g c ≤ c) (a : ℕ) (cs : List ℕ) (z : ℕ) → covers g a cs z ≡ true → Cover g a cs z
covers_cover g le a [] z h = eqb-true a z h
covers_cover g le a (c ∷ cs) z h =
    let q = and_parts (eqb (g c) a) _ h in
    let e : g c ≡ a = eqb-true (g c) a q.0 in
    (e, omega (arith, le c), covers_cover g le (suc c) cs z q.1)

cover_covers : (g : ℕ → ℕ) (a : ℕ) (cs : List ℕ) (z : ℕ) → Cover g a cs z → covers g a cs z ≡ true
cover_covers g a [] z h = eq-eqb a z h
cover_covers g a (c ∷ cs) z h = and_from _ _ (eq-eqb (g c) a h.0) (cover_covers g (suc c) cs z h.2)

-- ---- terms, where those up to label n keep the rules
module _ (v : ℕ) (ts : List Term) (n : ℕ) (within : n ≤ length ts) (right : (l : ℕ) → 1 ≤ l → l ≤ n → term_right v ts l ≡ true) where
  chain : (l : ℕ) → 1 ≤ l → l ≤ n → chained (first_at ts) (children (term_at ts l)) l ≡ true
  unfolding term_right
  chain l a b = (and_parts _ _ (right l a b)).1

  pub names_at : (l x : ℕ) → 1 ≤ l → l ≤ n → symbol_of (term_at ts l) ≡ Some x → x < v
  unfolding term_right
  names_at l x a b e = name_below v x (symbol_of (term_at ts l)) (and_parts _ _ (right l a b)).0 e

  begins : (k l : ℕ) → l ≤ k → 1 ≤ l → l ≤ n → 1 ≤ first_at ts l
  begins zero l s a b = absurd (omega arith)
  begins (suc k) l s a b =
      rw (first_step ts l a (omega arith)) (starts (first_at ts) (first_le ts) l (children (term_at ts l)) a (λ c low lt. begins k c (omega arith) low (omega arith)) (chain l a b))

  pub begins_at : (l : ℕ) → 1 ≤ l → l ≤ n → 1 ≤ first_at ts l
  begins_at l a b = begins l l (omega arith) a b

  pub covered_at : (l : ℕ) → 1 ≤ l → l ≤ n → Cover (first_at ts) (first_at ts l) (children (term_at ts l)) l
  covered_at l a b = subst (λ m. Cover (first_at ts) m (children (term_at ts l)) l) (sym (first_step ts l a (omega arith))) (step_from (first_at ts) (first_le ts) l (children (term_at ts l)) (chain l a b))

pub right_since : (v : ℕ) (ts : List Term) (l : ℕ) → ((x : ℕ) → symbol_of (term_at ts l) ≡ Some x → x < v) → 1 ≤ first_at ts l → Cover (first_at ts) (first_at ts l) (children (term_at ts l)) l
    → term_right v ts l ≡ true
unfolding term_right
right_since v ts l names begins covered =
    and_from _ _ (name_right v (symbol_of (term_at ts l)) names) (step_since (first_at ts) (first_le ts) l (first_at ts l) (children (term_at ts l)) begins covered)

-- ---- the whole
module _ (p : Script) where
  pub facts_of : well_formed p ≡ true → WellFormed p
  unfolding well_formed last
  facts_of h =
      let ts = p.terms in
      let f = and_parts (sizes_right (length ts) p.symbols (length p.definitions)) _ h in
      let g = and_parts (terms_right p.symbols ts (length ts)) _ f.1 in
      let r = and_parts (definitions_right p.symbols p.definitions) _ g.1 in
      let s = sizes (length ts) p.symbols (length p.definitions) f.0 in
      let right = terms_right_at p.symbols ts (length ts) g.0 in
      record {
        some_term = s.0;
        few_terms = s.1;
        some_symbols = s.2;
        few_symbols = s.3;
        few_definitions = s.4;
        names = names_at p.symbols ts (length ts) (omega arith) right;
        begins = begins_at p.symbols ts (length ts) (omega arith) right;
        covered = covered_at p.symbols ts (length ts) (omega arith) right;
        defined = r.0;
        rooted = covers_cover (first_at ts) (first_le ts) 1 (roots p.definitions ++ (length ts ∷ [])) (suc (length ts)) r.1;
      }

  pub formed_since : WellFormed p → well_formed p ≡ true
  unfolding well_formed last
  formed_since w =
      and_from _ _
      (and_from _ _ (le-leb 1 (length p.terms) w.some_term) (and_from _ _ (le-leb (length p.terms) 255 w.few_terms)
      (and_from _ _ (le-leb 2 p.symbols w.some_symbols) (and_from _ _ (le-leb p.symbols 32 w.few_symbols) (le-leb (length p.definitions) 31 w.few_definitions)))))
      (and_from _ _
      (terms_right_all p.symbols p.terms (length p.terms) (λ m a b. right_since p.symbols p.terms m (λ x e. w.names m x a b e) (w.begins m a b) (w.covered m a b)))
      (and_from _ _ w.defined (cover_covers (first_at p.terms) 1 (roots p.definitions ++ (length p.terms ∷ [])) (suc (length p.terms)) w.rooted)))
