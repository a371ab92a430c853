-- Rows and what they stand for: a row that stands for a term is the one written for it, and the other way round.
use Rattle.std.proofs.Common.{◌≡◌, ℕ, suc, ◌<◌, ◌≤◌, Bool, true, cond, ◌&&◌, eqb, ltb, leb, List, [], ◌∷◌, ◌++◌, map, is_some, Some, None, Option, unwrap_or, refl, ap, arith}
use Rattle.std.proofs.lemmas.Bool.{cond-true, cond_both, and_parts, and_from, le-leb, eqb-true, ltb-true}
use Rattle.terms.specs.declared.raw.RawTerm.{RawTerm}
use Rattle.terms.specs.declared.raw.RawDefinition.{RawDefinition}
use Rattle.terms.specs.declared.term.Term.{Term}
use Rattle.terms.specs.declared.term.Term.TheVariants.{Number, Quote, Lambda, Variable, Setq, Let, If, Apply, Cons, Car, Cdr, Add, Same}
use Rattle.terms.specs.declared.term.Definition.{Definition}
use Rattle.terms.specs.declared.term.Definition.TheVariants.{Input, Defvar, Defun}
use Rattle.terms.specs.Syntax.{children, symbol_of, row, row_of, only, of_kind, decode, definition_row, row_of_definition, decode_definition}
use Rattle.terms.specs.Form.{definitions_right, roots, term_of, definition_of, all_decode}
use Rattle.terms.specs.WellFormed.{Cover}
use Rattle.terms.proofs.Nesting.{cover_le}

-- ---- from a row to what it stands for

-- if r stands for something, it is the row that is written for it
abbrev Writes : {R T : Type 0} → (T → R) → R → Option T → Type 0
Writes write r None = Unit {0}
Writes write r (Some t) = r ≡ write t

since : {R T : Type 0} (write : T → R) (r : R) (d : T) (o : Option T) → Writes write r o → is_some o ≡ true → r ≡ write (unwrap_or o d)
since write r d None w h = absurd cc
since write r d (Some t) w h = w

-- by what a test decides
by : {R T : Type 0} (write : T → R) (r : R) (x : Bool) (y z : Option T) → (x ≡ true → Writes write r y) → Writes write r z → Writes write r (cond x y z)
by write r x y z f g = cond_both x y z (Writes write r) f (λ _. g)

module _ (k a b c : ℕ) where
  abbrev Here : Option Term → Type 0
  Here = Writes row_of (row k a b c)

  -- of kind n, with the unused numbers zero
  one : (n : ℕ) (t : Term) → row n a 0 0 ≡ row_of t → eqb k n ≡ true → Here (only (eqb b 0 && eqb c 0) t)
  one n t e h = by row_of _ (eqb b 0 && eqb c 0) (Some t) None
      (λ q. cc (eqb-true k n h, eqb-true b 0 (and_parts _ (eqb c 0) q).0, eqb-true c 0 (and_parts (eqb b 0) _ q).1)) tt

  two : (n : ℕ) (t : Term) → row n a b 0 ≡ row_of t → eqb k n ≡ true → Here (only (eqb c 0) t)
  two n t e h = by row_of _ (eqb c 0) (Some t) None (λ q. cc (eqb-true k n h, eqb-true c 0 q)) tt

  three : (n : ℕ) (t : Term) → row n a b c ≡ row_of t → eqb k n ≡ true → Here (Some t)
  three n t e h = cc (eqb-true k n h)

  kind : (n : ℕ) (x y : Option Term) → (eqb k n ≡ true → Here x) → Here y → Here (cond (eqb k n) x y)
  kind n x y f g = by row_of _ (eqb k n) x y f g

  kinds : Here (of_kind k a b c)
  kinds =
      kind 2 _ _ (one 2 (Quote a) refl)
      (kind 3 _ _ (two 3 (Lambda a b) refl)
      (kind 4 _ _ (one 4 (Variable a) refl)
      (kind 5 _ _ (two 5 (Setq a b) refl)
      (kind 6 _ _ (three 6 (Let a b c) refl)
      (kind 7 _ _ (three 7 (If a b c) refl)
      (kind 8 _ _ (two 8 (Apply a b) refl)
      (kind 9 _ _ (two 9 (Cons a b) refl)
      (kind 10 _ _ (one 10 (Car a) refl)
      (kind 11 _ _ (one 11 (Cdr a) refl)
      (kind 12 _ _ (two 12 (Add a b) refl)
      (kind 13 _ _ (two 13 (Same a b) refl) tt)))))))))))

  decodes : Here (decode (row k a b c))
  decodes = kind 1 _ _ (one 1 (Number a) refl) (by row_of _ (leb a 255 && (leb b 255 && leb c 255)) _ None (λ _. kinds) tt)

pub row_written : (r : RawTerm) → is_some (decode r) ≡ true → r ≡ row_of (term_of r)
row_written r h = since row_of r (Quote 0) (decode r) (decodes r.kind r.a r.b r.c) h

module _ (k x y c : ℕ) where
  defines : Writes row_of_definition (definition_row k x y c) (decode_definition (definition_row k x y c))
  defines =
      by row_of_definition _ (leb x 255 && (leb y 255 && leb c 255)) _ None
      (λ _. by row_of_definition _ (eqb k 1) _ _
      (λ h. by row_of_definition _ (eqb y 0 && eqb c 0) (Some (Input x)) None
      (λ q. cc (eqb-true k 1 h, eqb-true y 0 (and_parts _ (eqb c 0) q).0, eqb-true c 0 (and_parts (eqb y 0) _ q).1)) tt)
      (by row_of_definition _ (eqb k 2) _ _
      (λ h. by row_of_definition _ (eqb y 0) (Some (Defvar x c)) None (λ q. cc (eqb-true k 2 h, eqb-true y 0 q)) tt)
      (by row_of_definition _ (eqb k 3) (Some (Defun x y c)) None (λ h. cc (eqb-true k 3 h)) tt))) tt

pub definitions_written : (rs : List RawDefinition) → all_decode rs ≡ true → rs ≡ map row_of_definition (map definition_of rs)
definitions_written [] h = refl
definitions_written (r ∷ rs) h =
    let q = and_parts (is_some (decode_definition r)) (all_decode rs) h in
    let e = since row_of_definition r (Input 0) (decode_definition r) (defines r.kind r.x r.y r.root) q.0 in
    let es = definitions_written rs q.1 in cc

-- ---- from what a row is written for back to it: labels and symbols are bytes

abbrev Bytes : List ℕ → Type 0
Bytes [] = Unit {0}
Bytes (c ∷ cs) = (c ≤ 255) × Bytes cs

pub cover_bytes : (f : ℕ → ℕ) (a : ℕ) (cs : List ℕ) (z : ℕ) → z ≤ 256 → Cover f a cs z → Bytes cs
cover_bytes f a [] z le h = tt
cover_bytes f a (c ∷ cs) z le h = (omega (arith, cover_le f (suc c) cs z h.2), cover_bytes f (suc c) cs z le h.2)

bytes : {T : Type 0} (a b c : ℕ) (o : Option T) → a ≤ 255 → b ≤ 255 → c ≤ 255 → cond (leb a 255 && (leb b 255 && leb c 255)) o None ≡ o
bytes a b c o ha hb hc = cond-true _ o None (and_from _ _ (le-leb a 255 ha) (and_from _ _ (le-leb b 255 hb) (le-leb c 255 hc)))

reads : (t : Term) → ((x : ℕ) → symbol_of t ≡ Some x → x ≤ 255) → Bytes (children t) → decode (row_of t) ≡ Some t
reads (Number n) s h = refl
reads (Quote x) s h = bytes x 0 0 (Some (Quote x)) (s x refl) (omega arith) (omega arith)
reads (Lambda x b) s h = bytes x b 0 (Some (Lambda x b)) (s x refl) h.0 (omega arith)
reads (Variable x) s h = bytes x 0 0 (Some (Variable x)) (s x refl) (omega arith) (omega arith)
reads (Setq x b) s h = bytes x b 0 (Some (Setq x b)) (s x refl) h.0 (omega arith)
reads (Let x b c) s h = bytes x b c (Some (Let x b c)) (s x refl) h.0 h.1.0
reads (If a b c) s h = bytes a b c (Some (If a b c)) h.0 h.1.0 h.1.1.0
reads (Apply a b) s h = bytes a b 0 (Some (Apply a b)) h.0 h.1.0 (omega arith)
reads (Cons a b) s h = bytes a b 0 (Some (Cons a b)) h.0 h.1.0 (omega arith)
reads (Car a) s h = bytes a 0 0 (Some (Car a)) h.0 (omega arith) (omega arith)
reads (Cdr a) s h = bytes a 0 0 (Some (Cdr a)) h.0 (omega arith) (omega arith)
reads (Add a b) s h = bytes a b 0 (Some (Add a b)) h.0 h.1.0 (omega arith)
reads (Same a b) s h = bytes a b 0 (Some (Same a b)) h.0 h.1.0 (omega arith)

-- a term that keeps the rules at label l is read from its row
pub term_back : (t : Term) (v : ℕ) (f : ℕ → ℕ) (a l : ℕ) → v ≤ 32 → l ≤ 255 → ((x : ℕ) → symbol_of t ≡ Some x → x < v) → Cover f a (children t) l → decode (row_of t) ≡ Some t
term_back t v f a l few le names covered = reads t (λ x e. omega (arith, names x e)) (cover_bytes f a (children t) l (omega arith) covered)

-- the rows of definitions are read as those definitions
abbrev pub Back : List Definition → Type 0
Back ds = (all_decode (map row_of_definition ds) ≡ true) × (map definition_of (map row_of_definition ds) ≡ ds)

back : (d : Definition) (ds : List Definition) → decode_definition (row_of_definition d) ≡ Some d → Back ds → Back (d ∷ ds)
back d ds e h =
    let f : definition_of (row_of_definition d) ≡ d = ap (λ o. unwrap_or o (Input 0)) e in
    let fs = h.1 in
    (and_from _ _ (ap is_some e) h.0, cc)

pub definitions_back : (v : ℕ) (ds : List Definition) (cs : List ℕ) → v ≤ 32 → definitions_right v ds ≡ true → Bytes (roots ds ++ cs) → Back ds
definitions_back v [] cs few h b = (refl, refl)
definitions_back v (Input x ∷ ds) cs few h b =
    let q = and_parts (ltb x v) (definitions_right v ds) h in
    back (Input x) ds (bytes x 0 0 (Some (Input x)) (omega (arith, ltb-true x v q.0)) (omega arith) (omega arith)) (definitions_back v ds cs few q.1 b)
definitions_back v (Defvar x c ∷ ds) cs few h b =
    let q = and_parts (ltb x v) (definitions_right v ds) h in
    back (Defvar x c) ds (bytes x 0 c (Some (Defvar x c)) (omega (arith, ltb-true x v q.0)) (omega arith) b.0) (definitions_back v ds cs few q.1 b.1)
definitions_back v (Defun x y c ∷ ds) cs few h b =
    let q = and_parts (ltb x v && ltb y v) (definitions_right v ds) h in
    let n = and_parts (ltb x v) (ltb y v) q.0 in
    back (Defun x y c) ds (bytes x y c (Some (Defun x y c)) (omega (arith, ltb-true x v n.0)) (omega (arith, ltb-true y v n.1)) b.0) (definitions_back v ds cs few q.1 b.1)
