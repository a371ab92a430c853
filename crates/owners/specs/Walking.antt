-- What each step of a walk leaves as it was.
use Rattle.std.specs.Prelude.{◌≡◌}
use Rattle.owners.specs.declared.walk.Walk.{Walk}

-- the walk goes on over the same program and the same store, which takes as many bindings
abbrev pub GoesOn : {S : _} {of : _} → Walk S of → Walk S of → Type 0
GoesOn {S} {of} old new =
    (new.program.now ≡ old.program.now) × (new.store.ghost_name ≡ old.store.ghost_name) × ((of.meaning new.store.now).limit ≡ (of.meaning old.store.now).limit)
