-- What a visit appends to a list.
use Rattle.std.specs.Prelude.{◌≡◌, List, ◌++◌, map}

-- with each element mapped by `f`, the list `new` is `old` followed by `ys`
abbrev pub Adds : {X Y : Type 0} → (X → Y) → List X → List X → List Y → Type 0
Adds f old new ys = map f new ≡ map f old ++ ys
