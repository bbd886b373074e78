-- The members that the rows of an object take contain at most as many values as all its members.
use Rattle.std.proofs.Common.{ℕ, ◌+◌, ◌≤◌, Bool, true, false, cond, List, [], ◌∷◌, ◌≡◌, refl, ap, ◌∙◌, arith}
use Rattle.std.proofs.lemmas.Bool.{and_parts}
use Rattle.openapi_node.specs.Tree.{Tree, Members, no_members, member, members_size, size_of}
use Rattle.openapi_tables.specs.Prelude.{every, Entry, members_list, Row, takes, Tables, TableName, own, apart}
use Rattle.openapi_tables.specs.Prelude.{rows_apart, row_sound, tables_sound, weight, row_weight, rows_weight}
use Rattle.openapi_tables.proofs.ListLaws.{Each, every_each}
use Rattle.openapi_tables.proofs.RowLaws.{apart_takes}
use Rattle.openapi_tables.proofs.again.ObjectsBack.{table_sound}

-- the number of values in members of which the first counts or not, by a boolean
pub weight_cond : (b : Bool) (e : Entry Tree) (es : List (Entry Tree))
    → weight (cond b (e ∷ es) es) ≡ cond b (size_of e.value) 0 + weight es
weight_cond true e es = refl
weight_cond false e es = omega arith

-- the number of values in a member, counted once for each row that takes it
abbrev pub taken_by : List Row → Entry Tree → ℕ
taken_by [] e = 0
taken_by (w ∷ ws) e = cond (takes w e.name) (size_of e.value) 0 + taken_by ws e

abbrev pub weights : List Row → List (Entry Tree) → ℕ
weights [] es = 0
weights (w ∷ ws) es = weight (own w es) + weights ws es

pub weights-none : (ws : List Row) → weights ws [] ≡ 0
weights-none [] = refl
weights-none (w ∷ ws) = omega (arith, weights-none ws)

pub weights-more : (ws : List Row) (e : Entry Tree) (es : List (Entry Tree))
    → weights ws (e ∷ es) ≡ taken_by ws e + weights ws es
weights-more [] e es = refl
weights-more (w ∷ ws) e es = omega (arith, weight_cond (takes w e.name) e (own w es), weights-more ws e es)

pub none_take : (w : Row) (ws : List Row) (e : Entry Tree) → takes w e.name ≡ true → Each (λ v. apart w v ≡ true) ws
    → taken_by ws e ≡ 0
none_take w [] e t h = refl
none_take w (v ∷ ws) e t h =
    ap (λ b. cond b (size_of e.value) 0 + taken_by ws e) (apart_takes w v e.name h.0 t)
    ∙ (let more = none_take w ws e t h.1 in omega arith)

pub taken_once : (ws : List Row) (e : Entry Tree) → rows_apart ws ≡ true → taken_by ws e ≤ size_of e.value
taken_once [] e h = omega arith
taken_once (w ∷ ws) e h =
    go (taken_once ws e (and_parts (every (apart w) ws) (rows_apart ws) h).1) (takes w e.name) refl
  where
    p : (every (apart w) ws ≡ true) × (rows_apart ws ≡ true)
    p = and_parts (every (apart w) ws) (rows_apart ws) h

    go : taken_by ws e ≤ size_of e.value → (b : Bool) → takes w e.name ≡ b
        → cond b (size_of e.value) 0 + taken_by ws e ≤ size_of e.value
    go more true t = omega (arith, none_take w ws e t (every_each (apart w) ws p.0))
    go more false t = omega (arith, more)

pub weights-le : (ws : List Row) (es : List (Entry Tree)) → rows_apart ws ≡ true → weights ws es ≤ weight es
weights-le ws [] h = omega (arith, weights-none ws)
weights-le ws (e ∷ es) h = omega (arith, weights-more ws e es, taken_once ws e h, weights-le ws es h)

pub rows_weight-weights : (ws : List Row) (ms : Members) → rows_weight ws ms ≡ weights ws (members_list ms)
unfolding row_weight
rows_weight-weights [] ms = refl
rows_weight-weights (w ∷ ws) ms = ap (λ x. weight (own w (members_list ms)) + x) (rows_weight-weights ws ms)

pub weight-all : (ms : Members) → weight (members_list ms) ≡ members_size ms
weight-all no_members = refl
weight-all (member n t ms) = ap (λ x. size_of t + x) (weight-all ms)

-- the members that rows take contain at most as many values as all members of an object, if the rows are apart
pub rows_weight-le : (ws : List Row) (ms : Members) → rows_apart ws ≡ true → rows_weight ws ms ≤ members_size ms
rows_weight-le ws ms h =
    omega (arith, rows_weight-weights ws ms, weight-all ms, weights-le ws (members_list ms) h)

-- the members that the rows of a sound table take contain at most as many values as all members of an object
pub table_weight-le : (T : Tables) (W : tables_sound T ≡ true) (i : TableName) (ms : Members)
    → rows_weight (T i) ms ≤ members_size ms
table_weight-le T W i ms =
    rows_weight-le (T i) ms (and_parts (rows_apart (T i)) (every (row_sound T) (T i)) (table_sound T W i)).0
