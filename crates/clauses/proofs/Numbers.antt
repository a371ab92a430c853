-- What the number of a part tells.
use Rattle.std.proofs.Common.{ℕ, zero, suc, ◌-◌, Bool, true, false, cond, List, [], ◌∷◌, ◌++◌, Some, None, Option}
use Rattle.terms.specs.declared.term.Term.{Term}
use Rattle.terms.specs.declared.term.Term.TheVariants.{Number, Quote, Lambda, Variable, Setq, Let, If, Apply, Cons, Car, Cdr, Add, Same}
use Rattle.terms.specs.declared.term.Definition.{Definition}
use Rattle.terms.specs.declared.term.Definition.TheVariants.{Input, Defvar, Defun}
use Rattle.terms.specs.Script.{Script, last, term, parameter, cons_operands}
use Rattle.facts.specs.Numbering.{number_fact, function_fact, pair_fact, flow_set, bound_set}
use Rattle.proposals.specs.Tables.{Tables, in_set, extension}
use Rattle.clauses.specs.Clauses.{Part, named_set, entered, enter, each_fact, called, first_half, second_half, cons_of, context_of, clause, definition_clause}
use Rattle.clauses.specs.Numbers.{Numbered, NumberedDefinition, EachPart, PartNumbers}
use Rattle.clauses.specs.Numbers as number

module _ (P : Part → Type 0) where
  both : (ds es : List Part) → EachPart P ds → EachPart P es → EachPart P (ds ++ es)
  both [] es h g = g
  both (d ∷ ds) es h g = (h.0, both ds es h.1 g)

  if_held : (b : Bool) (ds : List Part) → EachPart P ds → EachPart P (cond b ds [])
  if_held true ds h = h
  if_held false ds h = tt

  each : (t : Tables) (s f n : ℕ) (parts : ℕ → List Part) → ((g : ℕ) → EachPart P (parts g)) → EachPart P (each_fact t s f n parts)
  unfolding each_fact
  each t s f zero parts h = tt
  each t s f (suc n) parts h = both (cond (in_set t s f) (parts f) []) (each_fact t s (suc f) n parts) (if_held (in_set t s f) (parts f) (h f)) (each t s (suc f) n parts h)

module _ (p : Script) (t : Tables) (l k : ℕ) where
  entered_numbers : (b c : ℕ) (o : Option ℕ) → EachPart (Numbered l k) (entered l k b c o)
  entered_numbers b c None = tt
  entered_numbers b c (Some j) = (number.four c j, (number.five b (bound_set c), (number.six (flow_set c j), tt)))

  enter_numbers : (b x c : ℕ) → EachPart (Numbered l k) (enter t l k b x c)
  enter_numbers b x c = (number.three x c, entered_numbers b c (extension t k x c))

  called_numbers : (b g : ℕ) (o : Option ℕ) → EachPart (Numbered l k) (called t l k b g o)
  called_numbers b g None = tt
  called_numbers b g (Some y) = enter_numbers b y g

  first_numbers : (j : ℕ) (o : Option (ℕ × ℕ)) → EachPart (Numbered l k) (first_half l k j o)
  first_numbers j None = tt
  first_numbers j (Some q) = (number.six (flow_set q.0 j), tt)

  second_numbers : (j : ℕ) (o : Option (ℕ × ℕ)) → EachPart (Numbered l k) (second_half l k j o)
  second_numbers j None = tt
  second_numbers j (Some q) = (number.six (flow_set q.1 j), tt)

  clause_numbers : (m : Term) → EachPart (Numbered l k) (clause p t l k m)
  clause_numbers (Number n) = (number.two number_fact, tt)
  clause_numbers (Quote s) = (number.two s, tt)
  clause_numbers (Lambda x b) = (number.two (function_fact b), tt)
  clause_numbers (Variable x) = (number.six (named_set t x k), tt)
  clause_numbers (Setq x b) = (number.one b, (number.five b (named_set t x k), (number.six (flow_set b k), tt)))
  clause_numbers (Let x b c) = (number.one b, enter_numbers b x c)
  clause_numbers (If a b c) = (number.one a, (number.one b, (number.one c, (number.six (flow_set b k), (number.six (flow_set c k), tt)))))
  clause_numbers (Apply a b) = (
    number.one a,
    (number.one b, each (Numbered l k) t (flow_set a k) 64 256 (λ f. called t l k b (f - 64) (parameter p (f - 64))) (λ f. called_numbers b (f - 64) (parameter p (f - 64)))),
  )
  clause_numbers (Cons a b) = (number.one a, (number.one b, (number.two (pair_fact l k), tt)))
  clause_numbers (Car a) = (
    number.one a,
    each (Numbered l k) t (flow_set a k) 512 4096 (λ f. first_half l k (context_of f) (cons_operands (term p (cons_of f)))) (λ f. first_numbers (context_of f) (cons_operands (term p (cons_of f)))),
  )
  clause_numbers (Cdr a) = (
    number.one a,
    each (Numbered l k) t (flow_set a k) 512 4096 (λ f. second_half l k (context_of f) (cons_operands (term p (cons_of f)))) (λ f. second_numbers (context_of f) (cons_operands (term p (cons_of f)))),
  )
  clause_numbers (Add a b) = (number.one a, (number.one b, (number.two number_fact, tt)))
  clause_numbers (Same a b) = (number.one a, (number.one b, (number.two 0, (number.two 1, tt))))

definition_numbers : (d : Definition) → EachPart NumberedDefinition (definition_clause d)
definition_numbers (Input x) = (number.five_fact x number_fact, tt)
definition_numbers (Defvar x r) = (number.one_root r, (number.five_value r x, tt))
definition_numbers (Defun x y r) = (number.five_fact x (function_fact r), tt)

pub part_numbers : PartNumbers
part_numbers = record { pairs = λ p t l k. clause_numbers p t l k (term p l); definitions = definition_numbers; entries = λ p. (number.one_root (last p), tt) }
