-- What the iterators return, one value after another.
use Rattle.std.proofs.Common.{List, length, ap}
use Rattle.std.proofs.iter.runs.Sources.{from_front}
use Rattle.std.specs.Map.{values_of}
use Rattle.std.specs.Map.Iter.{TakesFirst, LendsFirst, ShowsInOrder, ShowsValuesInOrder, LendsValuesInOrder}

-- an iterator that contracts see as the list of what it has left returns that list
pub shows_in_order : {A X : Type 0} (shows : A → X) → ShowsInOrder shows
shows_in_order shows =
    from_front (TakesFirst shows) shows (λ s. s) (λ s t h. ap length h.0) (λ s x t h. h)

-- if that is a list of entries, iterating over the values returns their values
pub shows_values_in_order : {A K X : Type 0} (shows : A → K × X) → ShowsValuesInOrder shows
shows_values_in_order shows =
    from_front (TakesFirst shows) (λ x. (shows x).1) values_of
    (λ s t h. ap (λ l. length (values_of l)) h.0) (λ s x t h. ap values_of h)

-- the same if the values are borrowed mutably
pub lends_values_in_order : {S K X : Type 0} (rest : S → List (K × X)) → LendsValuesInOrder rest
lends_values_in_order rest =
    from_front (LendsFirst rest) (λ x. x.1.now) (λ s. values_of (rest s))
    (λ s t h. ap (λ l. length (values_of l)) h.0) (λ s x t h. ap values_of h)
