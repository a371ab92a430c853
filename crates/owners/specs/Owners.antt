-- The owner of each occurrence, and whether it is captured; and what the call that finds them answers and leaves.
use Rattle.std.specs.Prelude.{ℕ, zero, suc, Bool, false, cond, not, ◌&&◌, ◌||◌, List, map, length, Some, None, Ok, Err, Option, Result, ◌==◌, nat_lt}
use Rattle.std.specs.List.{range_with_len}
use Rattle.faults.specs.declared.fault.Fault.{Fault}
use Rattle.faults.specs.declared.fault.Fault.TheVariants.{MemoryLength, StoreLimit}
use Rattle.terms.specs.Script.{Script, term, spans, binds, binds_variable, is_body, occurs}
use Rattle.stores.specs.Meaning.{Meaning, clear_of}

-- the least of n numbers from b on that passes, or 0; and whether one of them passes
unfoldable pub least : ℕ → ℕ → (ℕ → Bool) → ℕ
least zero b f = 0
least (suc n) b f = cond (f b) b (least n (suc b) f)

unfoldable pub some_of : ℕ → ℕ → (ℕ → Bool) → Bool
some_of zero b f = false
some_of (suc n) b f = f b || some_of n (suc b) f

-- b is a binder of x whose span holds l
abbrev pub binds_over : Script → ℕ → ℕ → ℕ → Bool
binds_over p x l b = binds_variable (binds p b) x && spans p b l

-- the innermost binder of x whose span holds l, or 0: spans that hold l lie one inside the other, so it is the least
abbrev pub owner_of : Script → ℕ → Option ℕ → ℕ
owner_of p l None = 0
owner_of p l (Some x) = least 256 0 (binds_over p x l)

-- the owner of an occurrence; 0 at other labels
unfoldable pub owner : Script → ℕ → ℕ
owner p l = owner_of p l (occurs (term p l))

-- g is a function body other than the owner o, inside its span, whose span holds l
abbrev pub between : Script → ℕ → ℕ → ℕ → Bool
between p l o g = is_body p g && (not (g == o) && (spans p o g && spans p g l))

-- an occurrence is captured if a function body lies between it and its owner; without an owner there is no span
unfoldable pub captured : Script → ℕ → Bool
captured p l = not (owner p l == 0) && some_of 256 0 (between p l (owner p l))

abbrev pub captured_byte : Script → ℕ → ℕ
captured_byte p l = cond (captured p l) 1 0

-- owner and captured for the labels 0 to 255
unfoldable pub owners_of : Script → List ℕ
owners_of p = map (owner p) (range_with_len 0 256)

unfoldable pub captures_of : Script → List ℕ
captures_of p = map (captured_byte p) (range_with_len 0 256)

-- the answer of that call, what the store then means, and the two outputs: refused if an output has not 256 places, then if
-- the store takes fewer than 255 bindings, and then nothing changes; else the outputs are written and the store is cleared
abbrev pub found_of : Script → Meaning ℕ → List ℕ → List ℕ → Result (Unit {0}) Fault × (Meaning ℕ × (List ℕ × List ℕ))
found_of p m os cs =
    cond (length os == 256 && length cs == 256)
    (cond (nat_lt m.limit 255) (Err StoreLimit, (m, (os, cs))) (Ok tt, (clear_of m, (owners_of p, captures_of p))))
    (Err MemoryLength, (m, (os, cs)))
