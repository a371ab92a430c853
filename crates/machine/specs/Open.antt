-- How a run begins: the mark bytes that it takes, and what it leaves in the store.
use Rattle.std.specs.Prelude.{ℕ, suc, Bool, false, cond, not, ◌&&◌, ◌||◌, List, [], ◌∷◌, length, is_some, Some, None, Ok, Err, Option, Result, ◌==◌, nat_lt, slice_index}
use Rattle.faults.specs.declared.fault.Fault.{Fault}
use Rattle.faults.specs.declared.fault.Fault.TheVariants.{WrongMark, StoreLimit, MemoryLength}
use Rattle.terms.specs.Script.{Script, binds}
use Rattle.stores.specs.Meaning.{Meaning, clear_of}
use Rattle.owners.specs.Owners.{some_of, owner, captured}
use Rattle.values.specs.declared.value.Value.{Value}
use Rattle.machine.specs.Machine.{idle, State}

-- the label's byte is 1
abbrev pub marked : List ℕ → ℕ → Bool
marked bytes b = slice_index bytes b == 1

-- some occurrence that b owns is captured
unfoldable pub owns_captured : Script → ℕ → Bool
owns_captured p b = some_of 256 0 (λ l. (owner p l == b) && captured p l)

-- A mark byte is 0, or 1 at a binder none of whose occurrences is captured.
abbrev pub wrong_mark : Script → ℕ → ℕ → Bool
wrong_mark p l byte = not (byte == 0 || (byte == 1 && (is_some (binds p l) && not (owns_captured p l))))

-- the first wrong byte, those before l being right
abbrev pub first_wrong : Script → ℕ → List ℕ → Option ℕ
first_wrong p l [] = None
first_wrong p l (byte ∷ bytes) = cond (wrong_mark p l byte) (Some l) (first_wrong p (suc l) bytes)

-- a run over a cleared store: no frame, pair or row
abbrev pub opened : Meaning Value → State
opened m = record { defined = false; phase = idle; memory = record { frames = []; pairs = []; store = clear_of m } }

abbrev pub opens_over : Meaning Value → Option ℕ → Result State Fault × Meaning Value
opens_over m (Some l) = (Err (WrongMark l), m)
opens_over m None = cond (nat_lt m.limit 255) (Err StoreLimit, m) (Ok (opened m), clear_of m)

-- Open takes 256 mark bytes and a store of limit 255 or more: the run, and what the store then means. Refused, it leaves the store as it was.
abbrev pub open_of : Script → List ℕ → Meaning Value → Result State Fault × Meaning Value
open_of p bytes m = cond (length bytes == 256) (opens_over m (first_wrong p 0 bytes)) (Err MemoryLength, m)
