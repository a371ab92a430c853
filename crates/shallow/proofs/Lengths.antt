-- Why a shallow store means something well formed: there are as many bindings as records of the trail.
use Rattle.std.proofs.Common.{◌≡◌, ℕ, suc, ◌≤◌, true, leb, List, [], ◌∷◌, length, get_or, set, is_some, Some, None, Option, refl, ap, ◌∙◌, arith}
use Rattle.std.proofs.lemmas.Bool.{leb-true, and_parts}
use Rattle.stores.specs.declared.binding.Binding.{Binding}
use Rattle.shallow.specs.declared.saved.Saved.{Saved}
use Rattle.stores.specs.Stack.{Stacked}
use Rattle.stores.specs.Meaning.{Formed}
use Rattle.shallow.specs.Trail.{ahead, unwind, unwound, sound}

length_ahead : {T : Type 0} (v : ℕ) (bs : List (Binding T)) (o : Option (T × ℕ)) → is_some o ≡ true → length (ahead v o bs) ≡ suc (length bs)
length_ahead v bs None h = absurd (cc)
length_ahead v bs (Some p) h = refl

-- a sound trail, its newest record and the rest
pub record Parts {T : Type 0} (cells : List (Option (T × ℕ))) (s : Saved T) (ss : List (Saved T)) : Type 0 where
  pub low : s.variable ≤ 31
  pub there : is_some (get_or cells s.variable None) ≡ true
  pub rest : sound (set cells s.variable s.covered) ss ≡ true

pub sound_parts : {T : Type 0} (cells : List (Option (T × ℕ))) (s : Saved T) (ss : List (Saved T)) → sound cells (s ∷ ss) ≡ true → Parts cells s ss
unfolding sound
sound_parts cells s ss h =
    let p = and_parts (leb s.variable 31) _ h in
    let q = and_parts (is_some (get_or cells s.variable None)) _ p.1 in
    record { low = leb-true _ _ p.0; there = q.0; rest = q.1 }

pub length_unwind : {T : Type 0} (cells : List (Option (T × ℕ))) (ss : List (Saved T)) → sound cells ss ≡ true → length (unwind cells ss) ≡ length ss
unfolding unwind sound
length_unwind cells [] h = refl
length_unwind cells (s ∷ ss) h =
    let p = sound_parts cells s ss h in
    length_ahead s.variable _ (get_or cells s.variable None) p.there ∙ ap suc (length_unwind (set cells s.variable s.covered) ss p.rest)

pub formed : {T : Type 0} (cells : List (Option (T × ℕ))) (trail : Stacked (Saved T)) (top : List (Option T)) → sound cells trail.items ≡ true → length top ≡ 32
    → Formed (unwound cells trail top)
formed cells trail top good size = let l = length_unwind cells trail.items good in record { room = omega arith; places = size }
