-- One scope left or entered, one occurrence looked at.
use Rattle.std.proofs.Common.{◌≡◌, ℕ, ◌<◌, ◌≤◌, List, [], ◌∷◌, map, length, get_or, replicate, Some, None, Ok, Option, Result, sym, refl, ap, ◌∙◌, arith}
use Rattle.std.proofs.lemmas.List.{length-map, length-reverse, get_or-replicate}
use Rattle.std.proofs.lemmas.Bool.{cond-true, cond-false, lt-ltb, le-ltb}
use Rattle.faults.specs.declared.fault.Fault.{Fault}
use Rattle.terms.specs.declared.Program.{Program}
use Rattle.terms.specs.Script.{Script, first, term, binds, occurs}
use Rattle.terms.specs.WellFormed.{WellFormed}
use Rattle.terms.specs.Model.{model}
use Rattle.terms.proofs.Formed.{facts_of}
use Rattle.terms.proofs.Nesting.{variable_below}
use Rattle.stores.specs.Meaning.{Meaning, count_of, bound, bind_of, newest, outermost, or_else, look_of}
use Rattle.stores.proofs.Laws.{bind_accepts, bind_done, look_low}
use Rattle.owners.specs.declared.scope.Scope.{Scope}
use Rattle.owners.specs.declared.walk.Walk.{Walk}
use Rattle.owners.specs.Model.{open_scopes}
use Rattle.owners.specs.Scoping.{innermost, binding_of, left_at, told, noticed}
use Rattle.owners.proofs.Noting.{occurrence_low}

pub well_formed : (p : Program) → WellFormed (model p)
well_formed p = facts_of (model p) p.formed

pub left_stays : (p : Script) (l : ℕ) (ss : List Scope) → first p (innermost ss).binder ≤ l → left_at p l ss ≡ ss
left_stays p l [] h = refl
left_stays p l (s ∷ ss) h = cond-false _ _ _ (le-ltb l (first p s.binder) h)

pub left_more : (p : Script) (l : ℕ) (s : Scope) (ss : List Scope) → l < first p s.binder → left_at p l (s ∷ ss) ≡ left_at p l ss
left_more p l s ss h = cond-true _ _ _ (lt-ltb l (first p s.binder) h)

pub binds_ok : (p : Script) (m m' : Meaning ℕ) (r : Result (Unit {0}) Fault) (ss : List Scope) (x t b : ℕ) → (r, m') ≡ bind_of m x t b → m.bindings ≡ map (binding_of p) ss
    → length ss < 255 → 255 ≤ m.limit → x < 32 → r ≡ Ok tt
binds_ok p m m' r ss x t b is held few room low =
    let e : count_of m ≡ length ss = ap length held ∙ length-map ss (binding_of p) in
    bind_accepts m m' x t b r is (omega arith) (omega arith)

-- for any meaning: with nothing at the top level a look sees the newest binding, or nothing
pub looks_in : (p : Script) (m : Meaning ℕ) (ss : List Scope) (x : ℕ) → m.bindings ≡ map (binding_of p) ss → m.top ≡ replicate 32 None → x < 32
    → look_of m x ≡ Ok (newest x (map (binding_of p) ss))
looks_in p m ss x held bare low =
    look_low m x (omega arith)
    ∙ ap (λ bs. Ok (or_else (newest x bs) (outermost (get_or m.top x None)))) held
    ∙ ap (λ us. Ok (or_else (newest x (map (binding_of p) ss)) (outermost (get_or us x None)))) bare
    ∙ ap (λ o. Ok (or_else (newest x (map (binding_of p) ss)) (outermost o))) (get_or-replicate 32 x None None low)
    ∙ ap Ok (plain (newest x (map (binding_of p) ss)))
  where
    plain : (o : Option (ℕ × ℕ)) → or_else o None ≡ o
    plain None = refl
    plain (Some q) = refl

-- what a look tells of the occurrence of x
pub notices : (p : Script) (m : Meaning ℕ) (ss : List Scope) (x : ℕ) (occurrence : Option ℕ) (q : Option (ℕ × ℕ)) (s : Scope) → m.bindings ≡ map (binding_of p) ss → m.top ≡ replicate 32 None
    → ((y : ℕ) → occurrence ≡ Some y → y < 32) → Some x ≡ occurrence → Ok q ≡ look_of m x → s ≡ innermost ss → told s.function q ≡ noticed p ss occurrence
notices p m ss x occurrence q s held bare low is look inner =
    let e : Ok q ≡ Ok (newest x (map (binding_of p) ss)) = look ∙ looks_in p m ss x held bare (low x (sym is)) in
    let found : q ≡ newest x (map (binding_of p) ss) = cc in
    ap (λ (u : Scope). told u.function q) inner ∙ ap (told (innermost ss).function) found ∙ ap (noticed p ss) is

module _ {S : _} {of : _} (walk : Walk S of) where
  -- there is room in the store for one scope more, and its variable is one
  pub binds_more : (m' : Meaning ℕ) (r : Result (Unit {0}) Fault) (x t b : ℕ) → (r, m') ≡ bind_of (of.meaning walk.store.now) x t b → length walk.scopes.items < 255
      → Some x ≡ binds (model walk.program.now) b → (r ≡ Ok tt) × (m' ≡ bound (of.meaning walk.store.now) x t b)
  binds_more m' r x t b is few binder =
      let p = model walk.program.now in
      let m = of.meaning walk.store.now in
      let count : count_of m ≡ length walk.scopes.items = ap length walk.bound ∙ length-map (open_scopes walk.scopes) (binding_of p) ∙ length-reverse walk.scopes.items in
      let low = variable_below p (well_formed walk.program.now) b x (sym binder) in
      let ok = bind_accepts m m' x t b r is (omega arith) (omega (arith, walk.roomy)) in
      (ok, (bind_done m m' x t b r is ok).0)

  -- with nothing at the top level a look sees the newest binding, or nothing
  pub looks : (l x : ℕ) → Some x ≡ occurs (term (model walk.program.now) l)
      → look_of (of.meaning walk.store.now) x ≡ Ok (newest x (map (binding_of (model walk.program.now)) (open_scopes walk.scopes)))
  looks l x is =
      let p = model walk.program.now in
      let m = of.meaning walk.store.now in
      let low : x < 32 = occurrence_low p (well_formed walk.program.now) l x (sym is) in
      let found = newest x (map (binding_of p) (open_scopes walk.scopes)) in
      look_low m x (omega arith)
      ∙ ap (λ bs. Ok (or_else (newest x bs) (outermost (get_or m.top x None)))) walk.bound
      ∙ ap (λ us. Ok (or_else found (outermost (get_or us x None)))) walk.bare
      ∙ ap (λ o. Ok (or_else found (outermost o))) (get_or-replicate 32 x None None low)
      ∙ ap Ok (plain found)
    where
      plain : (o : Option (ℕ × ℕ)) → or_else o None ≡ o
      plain None = refl
      plain (Some q) = refl
