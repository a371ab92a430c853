-- What due form says of the tables.
use Rattle.std.specs.Prelude.{◌≡◌, ℕ, ◌*◌, ◌<◌, ◌≤◌, true, false, ◌⊎◌, length, Some}
use Rattle.terms.specs.Script.{Script, last, term, binds, is_body, cons_operands}
use Rattle.facts.specs.Numbering.{number_fact, function_fact, pair_fact}
use Rattle.proposals.specs.Tables.{Tables, in_set, contexts, entry, listed, same_rows}

-- what a fact may be
pub data Named (p : Script) (t : Tables) : ℕ → Type 0 where
  a_number : Named p t number_fact
  symbol : (s : ℕ) → s < p.symbols → Named p t s
  function : (g : ℕ) → is_body p g ≡ true → Named p t (function_fact g)
  pair : (c a b k : ℕ) → cons_operands (term p c) ≡ Some (a, b) → k < contexts t → Named p t (pair_fact c k)

pub record DueForm (p : Script) (t : Tables) : Type 0 where
  pub whole_rows : length t.rows ≡ 32 * contexts t
  pub all_masks : length t.masks ≡ 256
  pub some_context : 1 ≤ contexts t
  pub few_contexts : contexts t ≤ 16
  pub outermost : (x : ℕ) → entry t 0 x ≡ 0
  pub entries : (k x : ℕ) → (entry t k x ≡ 0) ⊎ (binds p (entry t k x) ≡ Some x)
  pub apart : (j k : ℕ) → j < k → k < contexts t → same_rows t j k ≡ false
  pub listed_labels : (l k : ℕ) → listed t l k ≡ true → (1 ≤ l) × (l ≤ last p)
  pub listed_contexts : (l k : ℕ) → listed t l k ≡ true → k < contexts t
  pub named : (s f : ℕ) → in_set t s f ≡ true → Named p t f
