-- Entries and listed pairs as they are read out of memory.
use Rattle.std.proofs.Common.{◌≡◌, ℕ, ◌+◌, ◌*◌, ◌<◌, ◌≤◌, false, ◌&&◌, length, get_or, sym, ap, arith}
use Rattle.std.proofs.lemmas.Bool.{lt-ltb, le-ltb, cond-true, cond-false}
use Rattle.facts.specs.Words.{bit}
use Rattle.proposals.specs.Tables.{Tables, contexts, entry, listed}

module _ (t : Tables) where
  pub entry_is : (k x : ℕ) → x < 32 → get_or t.rows (32 * k + x) 0 ≡ entry t k x
  unfolding entry
  entry_is k x h = sym (cond-true _ _ _ (lt-ltb x 32 h))

  pub entry_past : (k x : ℕ) → 32 ≤ x → 0 ≡ entry t k x
  unfolding entry
  entry_past k x h = sym (cond-false _ _ _ (le-ltb x 32 h))

  pub listed_is : (l k : ℕ) → k < 16 → bit (get_or t.masks l 0) k ≡ listed t l k
  unfolding listed
  listed_is l k h = sym (ap (λ b. b && bit (get_or t.masks l 0) k) (lt-ltb k 16 h))

  pub listed_past : (l k : ℕ) → 16 ≤ k → false ≡ listed t l k
  unfolding listed
  listed_past l k h = sym (ap (λ b. b && bit (get_or t.masks l 0) k) (le-ltb k 16 h))

  pub few_rows : length t.rows ≤ 512 → contexts t ≤ 16
  unfolding contexts
  few_rows h = omega arith
