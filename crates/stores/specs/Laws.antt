-- Laws of every store, in the words of its caller.
use Rattle.std.specs.Prelude.{◌≡◌, ℕ, ◌≤◌, List, [], ◌∷◌, ◌++◌, length, Some, None, Ok, Err, Option, ◌≢◌, slice_set}
use Rattle.faults.specs.declared.fault.Fault.{Fault}
use Rattle.stores.specs.declared.binding.Binding.{Binding}
use Rattle.stores.specs.Meaning.{Meaning, Formed, clear_of, bind_of, unbind_of, look_of, put_of}

-- no binding of x among bs
abbrev pub Free : {T : Type 0} → ℕ → List (Binding T) → Type 0
Free x [] = Unit {0}
Free x (b ∷ bs) = (b.variable ≢ x) × Free x bs

-- the list of m has b as its newest binding of x: those in front of it are of other variables
pub record Newest {T : Type 0} (m : Meaning T) (x : ℕ) (front : List (Binding T)) (b : Binding T) (rest : List (Binding T)) : Type 0 where
  pub parted : m.bindings ≡ front ++ (b ∷ rest)
  pub of_x : b.variable ≡ x
  pub others : Free x front

-- the birthplace that a look answers, 0 where it finds nothing
abbrev pub birthplace_in : {T : Type 0} → Option (T × ℕ) → ℕ
birthplace_in None = 0
birthplace_in (Some p) = p.1

-- Each variable but x shows in m' what it shows in m.
abbrev pub OthersSame : {T : Type 0} → Meaning T → Meaning T → ℕ → Type 0
OthersSame m m' x = (y : ℕ) → (y ≢ x) → look_of m' y ≡ look_of m y

-- The newest binding of a variable is what it shows.
abbrev pub LookNewest : Type 0 → Type 0
LookNewest T = (m : Meaning T) (x : ℕ) (front rest : List (Binding T)) (b : Binding T) → x ≤ 31 → Newest m x front b rest
    → look_of m x ≡ Ok (Some (b.thing, b.birthplace))

-- After a bind the variable shows the new thing and birthplace, and the others what they showed.
abbrev pub BindShows : Type 0 → Type 0
BindShows T = (m m' : Meaning T) (x : ℕ) (t : T) (b : ℕ) → (Ok tt, m') ≡ bind_of m x t b
    → (look_of m' x ≡ Ok (Some (t, b))) × OthersSame m m' x

-- An unbind after a bind gives back the meaning.
abbrev pub UnbindUndoes : Type 0 → Type 0
UnbindUndoes T = (m m' : Meaning T) (x : ℕ) (t : T) (b : ℕ) → (Ok tt, m') ≡ bind_of m x t b → unbind_of m' ≡ (Ok tt, m)

-- While a binding of x stands, a put at x replaces the thing of its newest binding and nothing else: the top level stays as it was.
abbrev pub PutReplaces : Type 0 → Type 0
PutReplaces T = (m m' : Meaning T) (x : ℕ) (t : T) (front rest : List (Binding T)) (b : Binding T) → Newest m x front b rest
    → (Ok tt, m') ≡ put_of m x t
    → m' ≡ record { bindings = front ++ (record { variable = b.variable; thing = t; birthplace = b.birthplace } ∷ rest); top = m.top; limit = m.limit }

-- While none stands, the top level gets it, and the bindings stay as they were.
abbrev pub PutTops : Type 0 → Type 0
PutTops T = (m m' : Meaning T) (x : ℕ) (t : T) → Free x m.bindings → (Ok tt, m') ≡ put_of m x t
    → m' ≡ record { bindings = m.bindings; top = slice_set m.top x (Some t); limit = m.limit }

-- After a put the variable shows the thing put with the birthplace that it showed before, and the others what they showed.
abbrev pub PutShows : Type 0 → Type 0
PutShows T = (m m' : Meaning T) (x : ℕ) (t : T) (o : Option (T × ℕ)) → length m.top ≡ 32 → look_of m x ≡ Ok o → (Ok tt, m') ≡ put_of m x t
    → (look_of m' x ≡ Ok (Some (t, birthplace_in o))) × OthersSame m m' x

-- A refused call leaves the meaning as it was.
pub record RefusedSame (T : Type 0) : Type 0 where
  pub bind : (m m' : Meaning T) (x : ℕ) (t : T) (b : ℕ) (e : Fault) → (Err e, m') ≡ bind_of m x t b → m' ≡ m
  pub unbind : (m m' : Meaning T) (e : Fault) → (Err e, m') ≡ unbind_of m → m' ≡ m
  pub put : (m m' : Meaning T) (x : ℕ) (t : T) (e : Fault) → (Err e, m') ≡ put_of m x t → m' ≡ m

-- Each call keeps the meaning well formed; a clear makes it so.
pub record StaysFormed (T : Type 0) : Type 0 where
  pub clear : (m : Meaning T) → Formed (clear_of m)
  pub bind : (m : Meaning T) (x : ℕ) (t : T) (b : ℕ) → Formed m → Formed (bind_of m x t b).1
  pub unbind : (m : Meaning T) → Formed m → Formed (unbind_of m).1
  pub put : (m : Meaning T) (x : ℕ) (t : T) → Formed m → Formed (put_of m x t).1

pub record Lawful (T : Type 0) : Type 0 where
  pub look_newest : LookNewest T
  pub bind_shows : BindShows T
  pub unbind_undoes : UnbindUndoes T
  pub put_replaces : PutReplaces T
  pub put_tops : PutTops T
  pub put_shows : PutShows T
  pub refused_same : RefusedSame T
  pub stays_formed : StaysFormed T
