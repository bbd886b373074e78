-- Two lists of rows joined into one: what they read, what they require, and how many values the members that they take
-- contain.
use Rattle.std.proofs.Common.{◌≡◌, ◌+◌, List, [], ◌∷◌, refl, sym, ap, ◌∙◌, arith}
use Rattle.openapi_node.specs.Tree.{Members}
use Rattle.openapi_tables.specs.Prelude.{join, Entry, Row, Tables, Form, Asking, Asks, asks_row, asks_rows, Among}
use Rattle.openapi_tables.specs.Prelude.{AreRows, rows_weight}
use Rattle.openapi_tables.proofs.ByRowLaws.{among_right}
use Rattle.openapi_tables.proofs.ListLaws.{join_assoc}

-- if each of two lists of rows reads its forms, the joined list reads all of them
pub rows_join : (T : Tables) (ws vs : List Row) (fs gs : List Form) (ms : Members) → AreRows T ws fs ms → AreRows T vs gs ms
    → AreRows T (join ws vs) (join fs gs) ms
rows_join T [] vs [] gs ms h k = k
rows_join T [] vs (f ∷ fs) gs ms h k = absurd h
rows_join T (w ∷ ws) vs [] gs ms h k = absurd h
rows_join T (w ∷ ws) vs (f ∷ fs) gs ms h k = (h.0, rows_join T ws vs fs gs ms h.1 k)

-- the requirements of joined rows are those of the first list, followed by those of the second
pub asks_join : (es : List (Entry Asks)) (ws vs : List Row) → asks_rows es (join ws vs) ≡ join (asks_rows es ws)
    (asks_rows es vs)
asks_join es [] vs = refl
asks_join es (w ∷ ws) vs = ap (join (asks_row es w)) (asks_join es ws vs) ∙ sym (join_assoc (asks_row es w)
    (asks_rows es ws) (asks_rows es vs))

-- a requirement of the second of two lists of rows is a requirement of the joined list
pub among_rows : (x : Asking) (es : List (Entry Asks)) (pre ws : List Row) → Among x (asks_rows es ws)
    → Among x (asks_rows es (join pre ws))
among_rows x es [] ws h = h
among_rows x es (w ∷ pre) ws h = among_right x (asks_row es w) (asks_rows es (join pre ws)) (among_rows x es pre ws h)

-- the number of values in the members that the joined rows take is the sum of the numbers for each list
pub rows_weight-join : (ws vs : List Row) (ms : Members) → rows_weight (join ws vs) ms
    ≡ rows_weight ws ms + rows_weight vs ms
rows_weight-join [] vs ms = omega arith
rows_weight-join (w ∷ ws) vs ms = omega (arith, rows_weight-join ws vs ms)
