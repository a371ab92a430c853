-- Values in sets and reports inside the tables, as sets and pairs grow.
use Rattle.std.proofs.Common.{◌≡◌, ℕ, zero, suc, List, [], ◌∷◌, ◌++◌, length, Some, refl, ap, subst}
use Rattle.terms.specs.declared.term.Term.{Term}
use Rattle.terms.specs.declared.term.Term.TheVariants.{Number, Quote, Lambda, Variable, Setq, Let, If, Apply, Cons, Car, Cdr, Add, Same}
use Rattle.terms.specs.Script.{Script, term}
use Rattle.facts.specs.Numbering.{symbol_fact, number_fact, function_fact, pair_fact}
use Rattle.proposals.specs.Tables.{Tables}
use Rattle.values.specs.declared.value.Value.{Value}
use Rattle.values.specs.declared.value.ConsCell.{ConsCell}
use Rattle.values.specs.declared.call.Report.{Report}
use Rattle.values.specs.declared.call.Report.TheVariants.{Plain, Read, Assigned, Ended, Stopped}
use Rattle.machine.specs.Operations.{pair_at}
use Rattle.machine.proofs.Variables.{none_some}
use Rattle.clauses.specs.Acceptance.{Listed, Subset, Accepted, TermMet}
use Rattle.promise.specs.Lies.{Lies, number, symbol, function, pair, Inside, ReportInside, AllInside}

pub some_inj : {A : Type 0} {a b : A} → Some a ≡ Some b → a ≡ b
some_inj e = cc

pub append_nil : {A : Type 0} (xs : List A) → xs ++ [] ≡ xs
append_nil [] = refl
append_nil (x ∷ xs) = ap (λ ys. x ∷ ys) (append_nil xs)

pair_grow : (h e : List ConsCell) (n : ℕ) (c : ConsCell) → pair_at h n ≡ Some c → pair_at (h ++ e) n ≡ Some c
pair_grow [] e n c q = absurd (none_some q)
pair_grow (a ∷ h) e zero c q = q
pair_grow (a ∷ h) e (suc n) c q = pair_grow h e n c q

pub pair_new : (h : List ConsCell) (c : ConsCell) → pair_at (h ++ (c ∷ [])) (length h) ≡ Some c
pair_new [] c = refl
pair_new (a ∷ h) c = pair_new h c

pub lies_within : {p : Script} {t : Tables} {h : List ConsCell} {s u : ℕ} {v : Value} → Subset t s u → Lies p t h s v → Lies p t h u v
lies_within w (number e) = number (w number_fact e)
lies_within w (symbol {a = a} e) = symbol (w (symbol_fact a) e)
lies_within w (function {g = g} e) = function (w (function_fact g) e)
lies_within w (pair c a b j n o k e f g) = pair c a b j n o k (w (pair_fact c.cons j) e) f g

pub lies_grow : {p : Script} {t : Tables} {h : List ConsCell} {s : ℕ} {v : Value} (e : List ConsCell) → Lies p t h s v → Lies p t (h ++ e) s v
lies_grow e (number q) = number q
lies_grow e (symbol q) = symbol q
lies_grow e (function q) = function q
lies_grow {h = h} e (pair {n = n} c a b j i o k q f g) = pair c a b j (pair_grow h e n c i) o k q (lies_grow e f) (lies_grow e g)

inside_grow : {p : Script} {t : Tables} {h : List ConsCell} {l b : ℕ} {v : Value} (e : List ConsCell) → Inside p t h l b v → Inside p t (h ++ e) l b v
inside_grow e i = record { variable = i.variable; occurrence = i.occurrence; context = i.context; in_list = i.in_list; names = i.names; lies = lies_grow e i.lies }

report_grow : (p : Script) (t : Tables) (h e : List ConsCell) (r : Report) → ReportInside p t h r → ReportInside p t (h ++ e) r
report_grow p t h e Plain s = tt
report_grow p t h e (Read l b v) s = inside_grow e s
report_grow p t h e (Assigned l b v) s = inside_grow e s
report_grow p t h e (Ended v) s = tt
report_grow p t h e (Stopped f) s = tt

pub all_grow : (p : Script) (t : Tables) (h e : List ConsCell) (rs : List Report) → AllInside p t h rs → AllInside p t (h ++ e) rs
all_grow p t h e [] s = tt
all_grow p t h e (r ∷ rs) s = (report_grow p t h e r s.0, all_grow p t h e rs s.1)

pub all_append : (p : Script) (t : Tables) (h : List ConsCell) (rs qs : List Report) → AllInside p t h rs → AllInside p t h qs → AllInside p t h (rs ++ qs)
all_append p t h [] qs a b = b
all_append p t h (r ∷ rs) qs a b = (a.0, all_append p t h rs qs a.1 b)

-- the clause of a listed pair
pub clause_of : {p : Script} {t : Tables} (l k : ℕ) (tm : Term) → Accepted p t → Listed t l k → term p l ≡ tm → TermMet p t l k tm
clause_of {p} {t} l k tm a h e = subst (TermMet p t l k) e (a.pairs l k h)

-- the operands that a value is awaited for, first and second
abbrev pub operand_one : Term → ℕ
operand_one (Number n) = 0
operand_one (Quote s) = 0
operand_one (Lambda x b) = 0
operand_one (Variable x) = 0
operand_one (Setq x b) = b
operand_one (Let x b c) = b
operand_one (If a b c) = a
operand_one (Apply a b) = a
operand_one (Cons a b) = a
operand_one (Car a) = a
operand_one (Cdr a) = a
operand_one (Add a b) = a
operand_one (Same a b) = a

abbrev pub operand_two : Term → ℕ
operand_two (Number n) = 0
operand_two (Quote s) = 0
operand_two (Lambda x b) = 0
operand_two (Variable x) = 0
operand_two (Setq x b) = 0
operand_two (Let x b c) = c
operand_two (If a b c) = b
operand_two (Apply a b) = b
operand_two (Cons a b) = b
operand_two (Car a) = 0
operand_two (Cdr a) = 0
operand_two (Add a b) = b
operand_two (Same a b) = b

-- the terms that keep their first operand's value
abbrev pub TwoOperands : Term → Type 0
TwoOperands (Number n) = ⊥
TwoOperands (Quote s) = ⊥
TwoOperands (Lambda x b) = ⊥
TwoOperands (Variable x) = ⊥
TwoOperands (Setq x b) = ⊥
TwoOperands (Let x b c) = ⊥
TwoOperands (If a b c) = ⊥
TwoOperands (Apply a b) = Unit {0}
TwoOperands (Cons a b) = Unit {0}
TwoOperands (Car a) = ⊥
TwoOperands (Cdr a) = ⊥
TwoOperands (Add a b) = Unit {0}
TwoOperands (Same a b) = Unit {0}
