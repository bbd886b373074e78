-- Joining two results into one.
use Rattle.std.specs.Prelude.{Result, Ok, Err}

-- both values, or the first error
abbrev pub joined : {A B E : Type 0} → Result A E → Result B E → Result (A × B) E
joined (Ok x) (Ok y) = Ok (x, y)
joined (Ok x) (Err e) = Err e
joined (Err e) r = Err e
