-- A location: the steps from a root to a value inside it.
use Rattle.std.specs.Prelude.{ℕ, List}

-- one step down: to the member of a name, as bytes, or to the item at an index
pub data Step : Type 0 where
  named : List ℕ → Step
  indexed : ℕ → Step

-- the steps down from a root
abbrev pub Place : Type 0
Place = List Step
