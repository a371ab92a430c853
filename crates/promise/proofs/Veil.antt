-- The memory of a run with marks, from that of the run without: bindings of marked binders move into their scope frames.
use Rattle.std.proofs.Common.{◌≡◌, ℕ, suc, ◌≤◌, Bool, true, false, cond, eqb, List, [], ◌∷◌, length, is_some, Some, None, Option, sym, refl, ap, ◌∙◌, subst, inl, inr, arith}
use Rattle.std.proofs.lemmas.Bool.{cases_Bool, cases_eq, eqb-false, eq-eqb, ne_eqb, both_ways}
use Rattle.terms.specs.Script.{Script, term, spans, binds, is_body, occurs}
use Rattle.terms.specs.WellFormed.{WellFormed}
use Rattle.terms.proofs.Nesting.{spans_out, body_binds}
use Rattle.stores.specs.declared.binding.Binding.{Binding}
use Rattle.stores.specs.Meaning.{newest, replaced}
use Rattle.stores.specs.Laws.{birthplace_in}
use Rattle.owners.specs.Owners.{owner, captured}
use Rattle.owners.proofs.Laws.{owned}
use Rattle.proposals.specs.Tables.{Tables, entry}
use Rattle.values.specs.declared.value.Value.{Value}
use Rattle.values.specs.declared.value.ConsCell.{ConsCell}
use Rattle.values.specs.declared.frame.Frame.{Frame}
use Rattle.values.specs.declared.frame.Frame.TheVariants.{Awaiting, Holding, Scope}
use Rattle.values.specs.declared.turn.Turn.{Turn}
use Rattle.machine.specs.Machine.{Outcome, Memory, kept_at, keep_at}
use Rattle.clauses.specs.Acceptance.{Listed, Accepted}
use Rattle.clauses.specs.Marks.{Marked}
use Rattle.promise.proofs.Spans.{Up, Free, binder_bounds, self_held}
use Rattle.promise.proofs.Basics.{some_inj}
use Rattle.promise.proofs.Invariant.{shape, Lexical, by_call, by_let, Stack}
use Rattle.promise.proofs.Bindings.{birth, row_names}

abbrev pub kept_of : Bool → Value → Option Value
kept_of true v = Some v
kept_of false v = None

-- the frames as the run with marks m has them
abbrev pub mark_frames : (ℕ → Bool) → List Frame → List (Binding Value) → List Frame
mark_frames m [] bs = []
mark_frames m (Awaiting l ∷ fs) bs = Awaiting l ∷ mark_frames m fs bs
mark_frames m (Holding l v ∷ fs) bs = Holding l v ∷ mark_frames m fs bs
mark_frames m (Scope l b o ∷ fs) [] = Scope l b o ∷ mark_frames m fs []
mark_frames m (Scope l b o ∷ fs) (β ∷ bs) = Scope l b (kept_of (m b) β.thing) ∷ mark_frames m fs bs

-- the bindings that its store has
abbrev pub left_over : (ℕ → Bool) → List (Binding Value) → List (Binding Value)
left_over m [] = []
left_over m (β ∷ bs) = cond (m β.birthplace) (left_over m bs) (β ∷ left_over m bs)

-- its memory, over a store of limit n
abbrev pub veiled : (ℕ → Bool) → ℕ → Memory → Memory
veiled m n s = record {
  frames = mark_frames m s.frames s.store.bindings;
  pairs = s.pairs;
  store = record { bindings = left_over m s.store.bindings; top = s.store.top; limit = n };
}

abbrev pub veil_out : (ℕ → Bool) → ℕ → Outcome Memory Turn → Outcome Memory Turn
veil_out m n o = record { answer = o.answer; after = veiled m n o.after }

pub left_few : (m : ℕ → Bool) (bs : List (Binding Value)) → length (left_over m bs) ≤ length bs
left_few m [] = omega arith
left_few m (β ∷ bs) = let q = left_few m bs in
    elim (m β.birthplace) as (λ d. length (cond d (left_over m bs) (β ∷ left_over m bs)) ≤ suc (length bs)) [ true ↦ (omega arith) | false ↦ (omega arith) ]

pub mark_length : (m : ℕ → Bool) (fs : List Frame) (bs : List (Binding Value)) → length (mark_frames m fs bs) ≡ length fs
mark_length m [] bs = refl
mark_length m (Awaiting l ∷ fs) bs = ap suc (mark_length m fs bs)
mark_length m (Holding l v ∷ fs) bs = ap suc (mark_length m fs bs)
mark_length m (Scope l b o ∷ fs) [] = ap suc (mark_length m fs [])
mark_length m (Scope l b o ∷ fs) (β ∷ bs) = ap suc (mark_length m fs bs)

-- where the newest binding of x is of no marked binder, what is left over shows the same for x
pub record Alike (m : ℕ → Bool) (x : ℕ) (bs : List (Binding Value)) : Type 0 where
  pub shown : newest x (left_over m bs) ≡ newest x bs
  pub put : (v : Value) → replaced x v (left_over m bs) ≡ left_over m (replaced x v bs)

pub alike : (m : ℕ → Bool) (x : ℕ) (bs : List (Binding Value)) → m (birth x bs) ≡ false → Alike m x bs
alike m x [] e = record { shown = refl; put = λ v. refl }
alike m x (β ∷ bs) e = elim (cases_Bool (eqb β.variable x)) [
  | inl i ↦ (
      let f : m β.birthplace ≡ false = subst (λ d. m (birthplace_in (cond d (Some (β.thing, β.birthplace)) (newest x bs))) ≡ false) i e in
      record { shown = simp (f, i); put = λ v. simp (f, i) })
  | inr i ↦ (
      let a = alike m x bs (subst (λ d. m (birthplace_in (cond d (Some (β.thing, β.birthplace)) (newest x bs))) ≡ false) i e) in
      elim (cases_Bool (m β.birthplace)) [
        | inl f ↦ record { shown = simp (f, i) a.shown; put = λ v. simp (f, i) (a.put v) }
        | inr f ↦ record { shown = simp (f, i) a.shown; put = λ v. simp (f, i) (ap (λ us. β ∷ us) (a.put v)) }
      ])
]

-- there a put leaves what the frames keep
pub frames_put : (p : Script) (t : Tables) (h : List ConsCell) (root : ℕ) (m : ℕ → Bool) (x : ℕ) (v : Value) (fs : List Frame) (l k : ℕ) (bs : List (Binding Value)) → Stack p t h root fs l k (shape bs) → m (birth x bs) ≡ false
    → mark_frames m fs (replaced x v bs) ≡ mark_frames m fs bs
frames_put p t h root m x v [] l k bs s e = refl
frames_put p t h root m x v (Awaiting n ∷ fs) l k bs s e = ap (λ us. Awaiting n ∷ us) (frames_put p t h root m x v fs s.0 k bs s.3 e)
frames_put p t h root m x v (Holding n w ∷ fs) l k bs s e = ap (λ us. Holding n w ∷ us) (frames_put p t h root m x v fs s.0 k bs s.3 e)
frames_put p t h root m x v (Scope n b o ∷ fs) l k [] s e = refl
frames_put p t h root m x v (Scope n b o ∷ fs) l k (β ∷ bs) s e = elim (cases_Bool (eqb β.variable x)) [
  | inl i ↦ (
      let f : m b ≡ false = subst (λ d. m d ≡ false) s.2.born (subst (λ d. m (birthplace_in (cond d (Some (β.thing, β.birthplace)) (newest x bs))) ≡ false) i e) in
      simp (i, f))
  | inr i ↦ simp i (ap (λ us. Scope n b (kept_of (m b) β.thing) ∷ us) (frames_put p t h root m x v fs s.1 s.0 bs s.4 (subst (λ d. m (birthplace_in (cond d (Some (β.thing, β.birthplace)) (newest x bs))) ≡ false) i e)))
]

-- the owner's binding is the newest of x, and the run with marks finds it in its frame
pub record Walk (p : Script) (m : ℕ → Bool) (x o : ℕ) (fs : List Frame) (bs : List (Binding Value)) : Type 0 where
  pub thing : Value
  pub shown : newest x bs ≡ Some (thing, o)
  pub found : kept_at p o (mark_frames m fs bs) ≡ Some thing
  pub put : (w : Value) → mark_frames m fs (replaced x w bs) ≡ keep_at p o w (mark_frames m fs bs)
  pub over : (w : Value) → left_over m (replaced x w bs) ≡ left_over m bs

-- o is the innermost binder of x about l, and no function body lies between
pub record About (p : Script) (x o l : ℕ) : Type 0 where
  pub holds : spans p o l ≡ true
  pub clear : (g : ℕ) → is_body p g ≡ true → (g ≡ o → ⊥) → spans p g l ≡ true → spans p o g ≡ true → ⊥
  pub inner : (b : ℕ) → binds p b ≡ Some x → spans p b l ≡ true → o ≤ b

module _ (p : Script) (W : WellFormed p) (t : Tables) (h : List ConsCell) (root : ℕ) (free : Free p root) (m : ℕ → Bool) (x o : ℕ) (own : binds p o ≡ Some x) (mark : m o ≡ true) where
  pub about_up : (l n : ℕ) → Up p l n → About p x o l → About p x o n
  about_up l n u a = record {
    holds = (u o (ap is_some own)).0 a.holds;
    clear = λ g bd ne sg so. a.clear g bd ne ((u g (body_binds p g bd)).1 sg) so;
    inner = λ b e s. a.inner b e ((u b (ap is_some e)).1 s);
  }

  pub walk : (fs : List Frame) (l k : ℕ) (bs : List (Binding Value)) → Stack p t h root fs l k (shape bs) → About p x o l → Walk p m x o fs bs
  walk [] l k [] s a = absurd (free o (ap is_some own) (subst (λ u. spans p o u ≡ true) s.0 a.holds))
  walk [] l k (β ∷ bs) s a = absurd s
  walk (Awaiting n ∷ fs) l k bs s a =
      let w = walk fs s.0 k bs s.3 (about_up n s.0 s.2.up (about_up l n s.1.up a)) in
      record { thing = w.thing; shown = w.shown; found = w.found; put = λ v. ap (λ us. Awaiting n ∷ us) (w.put v); over = w.over }
  walk (Holding n v ∷ fs) l k bs s a =
      let w = walk fs s.0 k bs s.3 (about_up n s.0 s.2.up (about_up l n s.1.up a)) in
      record { thing = w.thing; shown = w.shown; found = w.found; put = λ u. ap (λ us. Holding n v ∷ us) (w.put u); over = w.over }
  walk (Scope n b q ∷ fs) l k [] s a = absurd s
  walk (Scope n b q ∷ fs) l k (β ∷ bs) s a = elim (cases_eq b o) [
    | inl e ↦ (
        let i : eqb b o ≡ true = eq-eqb b o e in
        let v : β.variable ≡ x = some_inj (sym s.2.binder ∙ ap (binds p) e ∙ own) in
        let j : eqb β.variable x ≡ true = eq-eqb β.variable x v in
        let mb : m b ≡ true = ap m e ∙ mark in
        let mc : m β.birthplace ≡ true = ap m s.2.born ∙ mb in
        let bo : β.birthplace ≡ o = s.2.born ∙ e in
        record { thing = β.thing; shown = simp j (ap (λ u. Some (β.thing, u)) bo); found = simp (i, mb); put = λ w. simp (i, j, mb); over = λ w. simp (j, mc) })
    | inr e ↦ (
        let al : spans p o b ≡ true = subst (λ u. spans p o u ≡ true) s.2.label a.holds in
        let sl : spans p b l ≡ true = subst (λ u. spans p b u ≡ true) (sym s.2.label) (self_held p W b) in
        let i : eqb b o ≡ false = ne_eqb b o e in
        let v : eqb β.variable x ≡ false = ne_eqb β.variable x (λ y. omega (arith, e, a.inner b (s.2.binder ∙ ap Some y) sl, (spans_out p o b al).1)) in
        further s.2.lexical al sl i v (walk fs s.1 s.0 bs s.4))
  ]
    where
      further : Lexical p b n → spans p o b ≡ true → spans p b l ≡ true → eqb b o ≡ false → eqb β.variable x ≡ false → (About p x o s.1 → Walk p m x o fs bs) → Walk p m x o (Scope n b q ∷ fs) (β ∷ bs)
      further (by_call cl bd) al sl i v ih = absurd (a.clear b bd (eqb-false b o i) sl al)
      further (by_let na up down) al sl i v ih =
          let an : About p x o n = record {
            holds = elim (up o al) [ inl e ↦ absurd (eqb-false b o i (sym e)) | inr e ↦ e ];
            clear = λ g bd ne sg so. a.clear g bd ne (subst (λ u. spans p g u ≡ true) (sym s.2.label) (down g (body_binds p g bd) sg)) so;
            inner = λ c e z. a.inner c e (subst (λ u. spans p c u ≡ true) (sym s.2.label) (down c (ap is_some e) z));
          } in
          let w = ih (about_up n s.1 s.3.up an) in
          record {
            thing = w.thing;
            shown = simp v w.shown;
            found = simp (i, na) w.found;
            put = λ u. simp (v, i, na) (ap (λ us. Scope n b (kept_of (m b) β.thing) ∷ us) (w.put u));
            over = λ u. simp v (ap (λ us. cond (m β.birthplace) us (β ∷ us)) (w.over u));
          }

-- marks that mark only what the rule marks
abbrev pub Rightly : Script → Tables → (ℕ → Bool) → Type 0
Rightly p t m = (b : ℕ) → m b ≡ true → Marked p t b

module _ (p : Script) (W : WellFormed p) (t : Tables) (A : Accepted p t) (m : ℕ → Bool) (M : Rightly p t m) where
  pub zero_unmarked : m 0 ≡ true → ⊥
  zero_unmarked e = omega (arith, (binder_bounds p W 0 (ap is_some (M 0 e).binder)).0)

  pub owner_about : (l x : ℕ) → occurs (term p l) ≡ Some x → m (owner p l) ≡ true → (binds p (owner p l) ≡ Some x) × About p x (owner p l) l
  owner_about l x e i = elim ((owned p W l).occurrences x e) [
    | inl q ↦ absurd (zero_unmarked (ap m (sym q.0) ∙ i))
    | inr q ↦ (
      q.binder,
      record {
        holds = q.holds;
        clear = λ g bd ne sg so. both_ways (captured p l) ((M (owner p l) i).uncaptured l refl)
            ((owned p W l).captured_since (λ z. zero_unmarked (ap m (sym z) ∙ i)) (record { body = g; function = bd; other = ne; inside = so; holds = sg }));
        inner = λ b eb sb. (q.inside b eb sb).1;
      },
    )
  ]

  -- an occurrence whose owner is unmarked meets no binding of a marked binder
  pub meets_unmarked : (h : List ConsCell) (root l x n k : ℕ) (fs : List Frame) (bs : List (Binding Value)) → occurs (term p l) ≡ Some x → Listed t l k → Stack p t h root fs n k (shape bs) → m (owner p l) ≡ false → m (birth x bs) ≡ false
  meets_unmarked h root l x n k fs bs e li st f =
      let r : entry t k x ≡ birth x bs = row_names p t h root x (A.form.outermost x) fs n k bs st in
      elim (cases_Bool (m (birth x bs))) [
        | inr q ↦ q
        | inl q ↦ absurd (elim (A.form.entries k x) [
          | inl z ↦ zero_unmarked (ap m (sym z ∙ r) ∙ q)
          | inr z ↦ (
              let mk = M (birth x bs) q in
              let same : x ≡ mk.variable = some_inj (sym (ap (binds p) (sym r) ∙ z) ∙ mk.binder) in
              both_ways (m (owner p l)) f (ap m (mk.owned l k li (e ∙ ap Some same) (ap (entry t k) (sym same) ∙ r)) ∙ q))
        ])
      ]
