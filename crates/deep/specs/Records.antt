-- What a stack of bindings and a top level mean.
use Rattle.std.specs.Prelude.{List, Option}
use Rattle.stores.specs.declared.binding.Binding.{Binding}
use Rattle.stores.specs.Meaning.{Meaning}
use Rattle.stores.specs.Stack.{Stacked, capacity_of}

abbrev pub held : {T : Type 0} → Stacked (Binding T) → List (Option T) → Meaning T
held s top = record { bindings = s.items; top = top; limit = capacity_of s }
