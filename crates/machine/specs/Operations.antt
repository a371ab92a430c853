-- What the operations do with values, before any frame is looked at.
use Rattle.std.specs.Prelude.{ℕ, zero, suc, ◌+◌, ◌%◌, ◌^◌, Bool, false, cond, List, [], ◌∷◌, Some, None, Option, ◌==◌}
use Rattle.values.specs.declared.value.Value.{Value}
use Rattle.values.specs.declared.value.Value.TheVariants.{Number, Symbol, Function, Pair}
use Rattle.values.specs.declared.value.ConsCell.{ConsCell}

-- nil is symbol 0 and t is symbol 1
abbrev pub nil : Value
nil = Symbol 0

abbrev pub is_nil : Value → Bool
is_nil (Number n) = false
is_nil (Symbol a) = a == 0
is_nil (Function g) = false
is_nil (Pair i) = false

abbrev pub truth : Bool → Value
truth b = cond b (Symbol 1) nil

-- an if goes to its else label for nil, else to its then label
abbrev pub branch : Value → ℕ → ℕ → ℕ
branch v then-label else-label = cond (is_nil v) else-label then-label

abbrev pub number_of : Value → Option ℕ
number_of (Number n) = Some n
number_of (Symbol a) = None
number_of (Function g) = None
number_of (Pair i) = None

abbrev pub sum : Option ℕ → Option ℕ → Option Value
sum None o = None
sum (Some n) None = None
sum (Some n) (Some m) = Some (Number ((n + m) % 2 ^ 32))

-- two numbers are added, wrapping at 32 bits; none where one of the two is no number
abbrev pub plus : Value → Value → Option Value
plus v w = sum (number_of v) (number_of w)

-- equal values of one kind, pairs by number
abbrev pub same : Value → Value → Bool
same (Number n) (Number m) = n == m
same (Number n) (Symbol b) = false
same (Number n) (Function h) = false
same (Number n) (Pair j) = false
same (Symbol a) (Number m) = false
same (Symbol a) (Symbol b) = a == b
same (Symbol a) (Function h) = false
same (Symbol a) (Pair j) = false
same (Function g) (Number m) = false
same (Function g) (Symbol b) = false
same (Function g) (Function h) = g == h
same (Function g) (Pair j) = false
same (Pair i) (Number m) = false
same (Pair i) (Symbol b) = false
same (Pair i) (Function h) = false
same (Pair i) (Pair j) = i == j

-- the pair with number n
abbrev pub pair_at : List ConsCell → ℕ → Option ConsCell
pair_at [] n = None
pair_at (c ∷ cs) zero = Some c
pair_at (c ∷ cs) (suc n) = pair_at cs n

abbrev pub cell_of : List ConsCell → Value → Option ConsCell
cell_of h (Number n) = None
cell_of h (Symbol a) = None
cell_of h (Function g) = None
cell_of h (Pair n) = pair_at h n

-- the halves of a pair; none where the value is no pair
abbrev pub first_half : Option ConsCell → Option Value
first_half None = None
first_half (Some c) = Some c.first

abbrev pub second_half : Option ConsCell → Option Value
second_half None = None
second_half (Some c) = Some c.second

abbrev pub cell : ℕ → Value → Value → ConsCell
cell c v w = record { cons = c; first = v; second = w }
