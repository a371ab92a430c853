-- The owner of an occurrence and whether it is captured, from the scopes that are open there.
use Rattle.std.proofs.Common.{◌≡◌, ℕ, zero, suc, ◌≤◌, Bool, true, false, cond, not, ◌&&◌, ◌||◌, eqb, ◌⊎◌, map, is_some, Some, None, Option, unwrap_or, sym, refl, ap, ◌∙◌, subst, inl, inr, arith}
use Rattle.std.proofs.lemmas.Bool.{false≢true, false_from_ne_true, cases_Bool, cond-false, and_parts, and_from, and_right, or_left, or_from, eq-eqb, ne_eqb, eqb-false, not-true, not_from_false}
use Rattle.std.proofs.Math.Bool.{and-true}
use Rattle.terms.specs.Script.{Script, term, spans, binds, is_body, occurs, binds_variable}
use Rattle.terms.specs.WellFormed.{WellFormed}
use Rattle.terms.proofs.Nesting.{spans_in, spans_out, binder_label, body_binds}
use Rattle.stores.specs.Meaning.{newest}
use Rattle.stores.specs.Laws.{birthplace_in}
use Rattle.owners.specs.Owners.{least, some_of, binds_over, owner_of, owner, between, captured}
use Rattle.owners.specs.Scoping.{innermost, binding_of, opened, scopes_at, told, noticed, owned_by, owner_at}
use Rattle.owners.proofs.Opened.{stands, opened_in, opened_out, stands_out}

some_none : (n c : ℕ) (f : ℕ → Bool) → ((g : ℕ) → c ≤ g → f g ≡ false) → some_of n c f ≡ false
unfolding some_of
some_none zero c f h = refl
some_none (suc n) c f h = or_from (f c) _ (h c (omega arith)) (some_none n (suc c) f (λ g le. h g (omega arith)))

module _ (p : Script) (x l : ℕ) where
  -- the test of an owner, where b stands open
  test_open : (b : ℕ) → stands p l b ≡ true → binds_over p x l b ≡ eqb (unwrap_or (binds p b) 0) x
  test_open b h = at (binds p b) (and_parts _ _ h).0 (and_parts (is_some (binds p b)) _ h).1
    where
      at : (o : Option ℕ) → is_some o ≡ true → spans p b l ≡ true → (binds_variable o x && spans p b l) ≡ eqb (unwrap_or o 0) x
      at None e s = absurd (false≢true e)
      at (Some y) e s = ap (λ t. eqb y x && t) s ∙ and-true (eqb y x)

  -- and where it does not
  test_shut : (b : ℕ) → stands p l b ≡ false → binds_over p x l b ≡ false
  test_shut b h = at (binds p b) h
    where
      at : (o : Option ℕ) → (is_some o && spans p b l) ≡ false → (binds_variable o x && spans p b l) ≡ false
      at None e = refl
      at (Some y) e = and_right (eqb y x) (spans p b l) e

  -- the scope that a look finds
  abbrev look : ℕ → ℕ → Option (ℕ × ℕ)
  look n b = newest x (map (binding_of p) (opened p l n b))

  look_shut : (n b : ℕ) → stands p l b ≡ false → look (suc n) b ≡ look n (suc b)
  look_shut n b h = ap (λ ss. newest x (map (binding_of p) ss)) (opened_out p l n b h)

  look_open : (n b : ℕ) → stands p l b ≡ true
      → look (suc n) b ≡ cond (eqb (unwrap_or (binds p b) 0) x) (Some (cond (is_body p b) b (innermost (opened p l n (suc b))).function, b)) (look n (suc b))
  look_open n b h = ap (λ ss. newest x (map (binding_of p) ss)) (opened_in p l n b h)

  owner_by : (n b : ℕ) (t : Bool) → birthplace_in (look n (suc b)) ≡ least n (suc b) (binds_over p x l)
      → birthplace_in (cond t (Some (cond (is_body p b) b (innermost (opened p l n (suc b))).function, b)) (look n (suc b))) ≡ cond t b (least n (suc b) (binds_over p x l))
  owner_by n b true e = refl
  owner_by n b false e = e

  owner_found : (n b : ℕ) → birthplace_in (look n b) ≡ least n b (binds_over p x l)
  unfolding opened least
  owner_found zero b = refl
  owner_found (suc n) b = elim (cases_Bool (stands p l b)) [
    | inr h ↦ (ap birthplace_in (look_shut n b h) ∙ owner_found n (suc b) ∙ sym (cond-false _ _ _ (test_shut b h)))
    | inl h ↦ (ap birthplace_in (look_open n b h)
        ∙ owner_by n b (eqb (unwrap_or (binds p b) 0) x) (owner_found n (suc b))
        ∙ ap (λ t. cond t b (least n (suc b) (binds_over p x l))) (sym (test_open b h)))
  ]

-- a function that encloses is none, or not below b
abbrev Enclosing : ℕ → ℕ → Type 0
Enclosing b t = (t ≡ 0) ⊎ (b ≤ t)

enclosing_up : (b t : ℕ) → Enclosing (suc b) t → Enclosing b t
enclosing_up b t (inl e) = inl e
enclosing_up b t (inr h) = inr (omega arith)

enclosing_new : (b t : ℕ) (k : Bool) → Enclosing b t → Enclosing b (cond k b t)
enclosing_new b t true h = inr (omega arith)
enclosing_new b t false h = h

module _ (p : Script) (l : ℕ) where
  enclosed : (n b : ℕ) → Enclosing b (innermost (opened p l n b)).function
  unfolding opened
  enclosed zero b = inl refl
  enclosed (suc n) b = elim (cases_Bool (stands p l b)) [
    | inl h ↦ (subst (λ ss. Enclosing b (innermost ss).function) (sym (opened_in p l n b h)) (enclosing_new b _ (is_body p b) (enclosing_up b _ (enclosed n (suc b)))))
    | inr h ↦ (subst (λ ss. Enclosing b (innermost ss).function) (sym (opened_out p l n b h)) (enclosing_up b _ (enclosed n (suc b))))
  ]

-- what is known of the scope that a look found among those from b on
record Hit (p : Script) (l b t o : ℕ) : Type 0 where
  pub past : b ≤ o
  pub open_there : stands p l o ≡ true
  pub encloses : Enclosing b t

hit_up : (p : Script) (l b t o : ℕ) → Hit p l (suc b) t o → Hit p l b t o
hit_up p l b t o h = record { past = omega (arith, h.past); open_there = h.open_there; encloses = enclosing_up b t h.encloses }

module _ (p : Script) (w : WellFormed p) (x l : ℕ) where
  hits_by : (n b t o : ℕ) (k : Bool) → stands p l b ≡ true → (look p x l n (suc b) ≡ Some (t, o) → Hit p l (suc b) t o)
      → cond k (Some (cond (is_body p b) b (innermost (opened p l n (suc b))).function, b)) (look p x l n (suc b)) ≡ Some (t, o) → Hit p l b t o
  hits_by n b t o true h more e =
      let f : cond (is_body p b) b (innermost (opened p l n (suc b))).function ≡ t = ap (λ (q : Option (ℕ × ℕ)). (unwrap_or q (0, 0)).0) e in
      let c : b ≡ o = ap (λ (q : Option (ℕ × ℕ)). (unwrap_or q (0, 0)).1) e in
      record {
        past = omega arith;
        open_there = subst (λ k. stands p l k ≡ true) c h;
        encloses = subst (Enclosing b) f (enclosing_new b _ (is_body p b) (enclosing_up b _ (enclosed p l n (suc b))));
      }
  hits_by n b t o false h more e = hit_up p l b t o (more e)

  hits : (n b t o : ℕ) → look p x l n b ≡ Some (t, o) → Hit p l b t o
  unfolding opened
  hits zero b t o e = absurd (let z : ◌≡◌ {A = ℕ} 0 1 = cc in omega arith)
  hits (suc n) b t o e = elim (cases_Bool (stands p l b)) [
    | inr h ↦ (hit_up p l b t o (hits n (suc b) t o (sym (look_shut p x l n b h) ∙ e)))
    | inl h ↦ (hits_by n b t o (eqb (unwrap_or (binds p b) 0) x) h (hits n (suc b) t o) (sym (look_open p x l n b h) ∙ e))
  ]

  -- a function body that does not stand open does not lie between
  between_shut : (o b : ℕ) → stands p l b ≡ false → between p l o b ≡ false
  between_shut o b h = false_from_ne_true (between p l o b) (λ k.
      let q = and_parts (is_body p b) _ k in
      let s = and_parts (spans p o b) _ (and_parts (not (eqb b o)) _ q.1).1 in
      false≢true (sym h ∙ and_from _ _ (body_binds p b q.0) s.1))

  -- b is the owner: what encloses it encloses the occurrence, and no body above it lies in its span
  own : (n b t o : ℕ) → cond (is_body p b) b (innermost (opened p l n (suc b))).function ≡ t → b ≡ o
      → not (eqb t (cond (is_body p b) b (innermost (opened p l n (suc b))).function)) ≡ (between p l o b || some_of n (suc b) (between p l o))
  own n b t o f c =
      ap not (eq-eqb t _ (sym f))
      ∙ sym (or_from (between p l o b) (some_of n (suc b) (between p l o))
      (false_from_ne_true (between p l o b) (λ k. eqb-false b o (not-true _ (and_parts (not (eqb b o)) _ (and_parts (is_body p b) _ k).1).0) c))
      (some_none n (suc b) (between p l o) (λ g le. false_from_ne_true (between p l o g) (λ k.
      let s = and_parts (spans p o g) _ (and_parts (not (eqb g o)) _ (and_parts (is_body p g) _ k).1).1 in
      omega (arith, (spans_out p o g s.0).1)))))

  -- b lies inside the owner's scope
  inside : (n b t o : ℕ) → stands p l b ≡ true → Hit p l (suc b) t o → (k : Bool)
      → not (eqb t (innermost (opened p l n (suc b))).function) ≡ some_of n (suc b) (between p l o)
      → not (eqb t (cond k b (innermost (opened p l n (suc b))).function)) ≡ ((k && (not (eqb b o) && (spans p o b && spans p b l))) || some_of n (suc b) (between p l o))
  inside n b t o h hit true more =
      let q = stands_out p l b h in
      let r = stands_out p l o hit.open_there in
      let label = binder_label p w b q.0 in
      let differs : t ≡ b → ⊥ = λ same. elim hit.encloses [ inl z ↦ (omega (arith, label.0)) | inr le ↦ (omega arith) ] in
      not_from_false _ (ne_eqb t b differs)
      ∙ sym (or_left (not (eqb b o) && (spans p o b && spans p b l)) _
      (and_from _ _ (not_from_false _ (ne_eqb b o (λ same. omega (arith, hit.past)))) (and_from _ _ (spans_in p o b (omega (arith, r.1, q.2)) (omega (arith, hit.past))) (spans_in p b l q.1 q.2))))
  inside n b t o h hit false more = more

  captured_by : (n b t o : ℕ) (k : Bool) → stands p l b ≡ true
      → (look p x l n (suc b) ≡ Some (t, o) → not (eqb t (innermost (opened p l n (suc b))).function) ≡ some_of n (suc b) (between p l o))
      → cond k (Some (cond (is_body p b) b (innermost (opened p l n (suc b))).function, b)) (look p x l n (suc b)) ≡ Some (t, o)
      → not (eqb t (cond (is_body p b) b (innermost (opened p l n (suc b))).function)) ≡ (between p l o b || some_of n (suc b) (between p l o))
  captured_by n b t o true h more e = own n b t o (ap (λ (q : Option (ℕ × ℕ)). (unwrap_or q (0, 0)).0) e) (ap (λ (q : Option (ℕ × ℕ)). (unwrap_or q (0, 0)).1) e)
  captured_by n b t o false h more e = inside n b t o h (hits n (suc b) t o e) (is_body p b) (more e)

  -- another function encloses the occurrence than the owner's, exactly if a function body lies between
  captured_found : (n b t o : ℕ) → look p x l n b ≡ Some (t, o) → not (eqb t (innermost (opened p l n b)).function) ≡ some_of n b (between p l o)
  unfolding opened some_of
  captured_found zero b t o e = absurd (let z : ◌≡◌ {A = ℕ} 0 1 = cc in omega arith)
  captured_found (suc n) b t o e = elim (cases_Bool (stands p l b)) [
    | inr h ↦ (ap (λ ss. not (eqb t (innermost ss).function)) (opened_out p l n b h)
        ∙ captured_found n (suc b) t o (sym (look_shut p x l n b h) ∙ e)
        ∙ sym (ap (λ k. k || some_of n (suc b) (between p l o)) (between_shut o b h)))
    | inl h ↦ (ap (λ ss. not (eqb t (innermost ss).function)) (opened_in p l n b h)
        ∙ captured_by n b t o (eqb (unwrap_or (binds p b) 0) x) h (captured_found n (suc b) t o) (sym (look_open p x l n b h) ∙ e))
  ]

  -- the owner and whether it is captured, at once
  found : (n o : ℕ) (q : Option (ℕ × ℕ)) → look p x l n 0 ≡ q → o ≡ least n 0 (binds_over p x l)
      → told (innermost (opened p l n 0)).function q ≡ owned_by o (not (eqb o 0) && some_of n 0 (between p l o))
  found n o None e is =
      let z : o ≡ 0 = is ∙ sym (owner_found p x l n 0) ∙ ap birthplace_in e in
      sym (ap (λ k. owned_by k (not (eqb k 0) && some_of n 0 (between p l k))) z)
  found n o (Some q) e is =
      let own_is : q.1 ≡ o = sym (is ∙ sym (owner_found p x l n 0) ∙ ap birthplace_in e) in
      let hit = hits n 0 q.0 q.1 e in
      let some : q.1 ≡ 0 → ⊥ = λ z. omega (arith, (binder_label p w q.1 (stands_out p l q.1 hit.open_there).0).0) in
      ap (λ t. Some (record { binder = q.1; captured = t })) (captured_found n 0 q.0 q.1 e ∙ sym (ap (λ t. t && some_of n 0 (between p l q.1)) (not_from_false _ (ne_eqb q.1 0 some))))
      ∙ sym (cond-false (eqb q.1 0) None _ (ne_eqb q.1 0 some))
      ∙ ap (λ k. owned_by k (not (eqb k 0) && some_of n 0 (between p l k))) own_is

-- the whole: what is noticed among the scopes open at l is the owner of l and whether it is captured
module _ (p : Script) (w : WellFormed p) (l : ℕ) where
  noticed_by : (o : Option ℕ) → occurs (term p l) ≡ o → noticed p (scopes_at p l) o ≡ owner_at p l
  unfolding owner captured scopes_at
  noticed_by None occ = sym (ap (λ u. owned_by (owner_of p l u) (not (eqb (owner_of p l u) 0) && some_of 256 0 (between p l (owner_of p l u)))) occ)
  noticed_by (Some x) occ = found p w x l 256 (owner_of p l (occurs (term p l))) _ refl (ap (owner_of p l) occ)

  pub noticed_is : noticed p (scopes_at p l) (occurs (term p l)) ≡ owner_at p l
  noticed_is = noticed_by (occurs (term p l)) refl
