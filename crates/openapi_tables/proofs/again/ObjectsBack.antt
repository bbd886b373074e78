-- All rows of an object, written and read again.
use Rattle.openapi_tables.proofs.ListLaws.{every_behind}
use Rattle.std.proofs.Common.{ℕ, Bool, true, false, cond, ◌&&◌, ◌||◌, List, [], ◌∷◌, Some, None, ◌≡◌, refl, sym, ap}
use Rattle.std.proofs.Common.{◌∙◌, subst}
use Rattle.std.proofs.lemmas.Bool.{and_parts, and_from}
use Rattle.openapi_tables.specs.Prelude.{each, join, every, same_text, Entry, Kind, by, tagged, a_schema, a_schema_kind}
use Rattle.openapi_tables.specs.Prelude.{Case, Row, constant, Tables, TableName, schema_data, own, held, Sort, any_sort}
use Rattle.openapi_tables.specs.Prelude.{sort_rows, sort_of, Choice, sort, tag_choice, is_case, case_rows, choice}
use Rattle.openapi_tables.specs.Prelude.{rows_of, Form, fields, forms_of, slot_of_own, row_print, has_members}
use Rattle.openapi_tables.specs.Prelude.{never_misses, rows_apart, row_sound, sound, sorts, tables_sound, apart}
use Rattle.openapi_tables.specs.Prelude.{table_names, schema_rows, names_fit, stays, face_stays, choice_stays}
use Rattle.openapi_tables.specs.Prelude.{rows_stay, row_stays, Checks}
use Rattle.openapi_node.specs.Tree.{Tree, text}
use Rattle.openapi_tables.specs.Kind.{open_api}
use Rattle.openapi_tables.specs.Members.{tag}
use Rattle.openapi_tables.specs.Sound.{rows_sound}
use Rattle.openapi_tables.specs.Sound.{spares_ref}
use Rattle.openapi_tables.proofs.ListLaws.{Each, each-each, each_id, every_each, Each-only, Each_within-only}
use Rattle.openapi_tables.proofs.FormLaws.{show, of_forms-of}
use Rattle.openapi_tables.proofs.ReadLaws.{reads, slot_in}
use Rattle.openapi_tables.proofs.PrintLaws.{printed}
use Rattle.openapi_tables.proofs.RowLaws.{Found}
use Rattle.openapi_tables.proofs.SlotLaws.{Good, Settled}
use Rattle.openapi_tables.proofs.again.RowsBack.{settled_row}

-- the form of an object stays if and only if its choice and the slots of its rows do
pub stays-fields : (T : Tables) (k : Kind) (c : Choice) (es : List (Entry Tree)) (fs : List Form) → choice k es ≡ Some c
    → stays T k (fields c (forms_of fs))
    ≡ (choice_stays T k c fs && rows_stay (rows_of T k c) (each (show (face_stays T)) fs))
stays-fields T (by i) c es fs h =
    ap (λ l. choice_stays T (by i) c (each (λ (p : Checks). p.form) l) && rows_stay (rows_of T (by i) c) l)
    (of_forms-of (face_stays T) fs)
    ∙ ap (λ l. choice_stays T (by i) c l && rows_stay (rows_of T (by i) c) (each (show (face_stays T)) fs))
    (each-each (λ (p : Checks). p.form) (show (face_stays T)) fs ∙ each_id fs)
stays-fields T (tagged n cs) c es fs h =
    ap (λ l. choice_stays T (tagged n cs) c (each (λ (p : Checks). p.form) l)
    && rows_stay (rows_of T (tagged n cs) c) l) (of_forms-of (face_stays T) fs)
    ∙ ap (λ l. choice_stays T (tagged n cs) c l && rows_stay (rows_of T (tagged n cs) c)
    (each (show (face_stays T)) fs)) (each-each (λ (p : Checks). p.form) (show (face_stays T)) fs ∙ each_id fs)
stays-fields T a_schema c es fs h =
    ap (λ l. choice_stays T a_schema c (each (λ (p : Checks). p.form) l) && rows_stay (rows_of T a_schema c) l)
    (of_forms-of (face_stays T) fs)
    ∙ ap (λ l. choice_stays T a_schema c l && rows_stay (rows_of T a_schema c) (each (show (face_stays T)) fs))
    (each-each (λ (p : Checks). p.form) (show (face_stays T)) fs ∙ each_id fs)
stays-fields T a_schema_kind c es fs h =
    ap (λ l. choice_stays T a_schema_kind c (each (λ (p : Checks). p.form) l)
    && rows_stay (rows_of T a_schema_kind c) l) (of_forms-of (face_stays T) fs)
    ∙ ap (λ l. choice_stays T a_schema_kind c l && rows_stay (rows_of T a_schema_kind c)
    (each (show (face_stays T)) fs)) (each-each (λ (p : Checks). p.form) (show (face_stays T)) fs ∙ each_id fs)
stays-fields T k c es fs h = cc

-- each row reads its slot again from what it writes for it
abbrev pub SlotsBack : (T : Tables) → List Row → List Form → Type 0
SlotsBack T [] [] = Unit {0}
SlotsBack T [] (f ∷ fs) = ⊥
SlotsBack T (w ∷ ws) [] = ⊥
SlotsBack T (w ∷ ws) (f ∷ fs) = (slot_of_own w (reads T (row_print w (printed T f))) ≡ f) × SlotsBack T ws fs

-- rows that find what they write for forms, and read each form again from that, read these forms
pub slots_of-found : (T : Tables) (es : List (Entry Tree)) (ws : List Row) (fs : List Form) → Found T es ws fs
    → SlotsBack T ws fs → each (slot_in T es) ws ≡ fs
slots_of-found T es [] [] h g = refl
slots_of-found T es [] (f ∷ fs) h g = absurd g
slots_of-found T es (w ∷ ws) [] h g = absurd g
slots_of-found T es (w ∷ ws) (f ∷ fs) h g =
    ap (λ x. x ∷ each (slot_in T es) ws) (ap (λ l. slot_of_own w (reads T l)) h.0 ∙ g.0)
    ∙ ap (λ l. f ∷ l) (slots_of-found T es ws fs h.1 g.1)

settled_one : (T : Tables) (w : Row) (es : List (Entry Tree)) → row_sound T w ≡ true
    → Each (λ (e : Entry Tree). Good T e.value) es → row_stays w (show (face_stays T) (slot_in T es w)) ≡ true
    → Settled T w (slot_in T es w)
settled_one T w es s g st = settled_row T w (own w es) s (Each-only _ es)
    (Each_within-only (λ (e : Entry Tree). Good T e.value) _ es g) st

-- sound rows whose slots stay read each slot again from what they write for it
pub slots_back : (T : Tables) (ws : List Row) (es : List (Entry Tree)) → Each (λ w. row_sound T w ≡ true) ws
    → Each (λ (e : Entry Tree). Good T e.value) es
    → rows_stay ws (each (show (face_stays T)) (each (slot_in T es) ws)) ≡ true
    → SlotsBack T ws (each (slot_in T es) ws)
slots_back T [] es s g st = tt
slots_back T (w ∷ ws) es s g st = let p = and_parts _ _ st in
    ((settled_one T w es s.0 g p.0).1, slots_back T ws es s.1 g p.1)

-- a test that all names of tables pass is passed by each name
pub every_table : (p : TableName → Bool) → every p table_names ≡ true → (n : TableName) → p n ≡ true
unfolding table_names
every_table p h open_api = assumption (every_each p table_names h)
every_table p h n = assumption (every_each p table_names h)

pub and_seven : (a b c d e f g : Bool) → (a && b && c && d && e && f && g) ≡ true
    → (a ≡ true) × (b ≡ true) × (c ≡ true) × (d ≡ true) × (e ≡ true) × (f ≡ true) × (g ≡ true)
and_seven a b c d e f g h =
    let u = and_parts (a && b && c && d && e && f) g h in let v = and_parts (a && b && c && d && e) f u.0 in let w =
    and_parts (a && b && c && d) e v.0 in
    let p = and_parts (a && b && c) d w.0 in let q = and_parts (a && b) c p.0 in let r = and_parts a b q.0 in
    (r.0, r.1, q.1, p.1, w.1, v.1, u.1)

-- what `tables_sound` checks, as seven facts
pub checked : (T : Tables) (W : tables_sound T ≡ true) → (every (λ n. rows_sound T (T n)) table_names ≡ true)
    × (every (λ s. rows_sound T (join (T schema_data) (sort_rows s))) sorts ≡ true)
    × (every (λ s. spares_ref (join (T schema_data) (sort_rows s))) sorts ≡ true)
    × (every (λ n. every has_members (T n)) table_names ≡ true) × (every (row_sound T) (schema_rows T) ≡ true)
    × (every never_misses (schema_rows T) ≡ true)
    × (every (names_fit (T schema_data)) sorts ≡ true)
checked T W = and_seven _ _ _ _ _ _ _ W

-- the rows of each table of sound tables are sound
pub table_sound : (T : Tables) (W : tables_sound T ≡ true) (i : TableName) → rows_sound T (T i) ≡ true
table_sound T W i = every_table (λ n. rows_sound T (T n)) (checked T W).0 i

-- what holds for each sort in the list of all sorts holds for every sort
pub each_sort : (p : Sort → Bool) → Each (λ s. p s ≡ true) sorts → (s : Sort) → p s ≡ true
each_sort p h any_sort = assumption h
each_sort p h s = assumption h

-- the rows of a schema of each sort are sound
pub schema_sound : (T : Tables) (W : tables_sound T ≡ true) (s : Sort)
    → rows_sound T (join (T schema_data) (sort_rows s)) ≡ true
schema_sound T W s = each_sort (λ x. rows_sound T (join (T schema_data) (sort_rows x)))
    (every_each (λ x. rows_sound T (join (T schema_data) (sort_rows x))) sorts (checked T W).1) s

-- no row of a schema, of whatever sort, takes the name `$ref`
pub schema_spares_ref : (T : Tables) (W : tables_sound T ≡ true) (s : Sort)
    → spares_ref (join (T schema_data) (sort_rows s)) ≡ true
schema_spares_ref T W s = each_sort (λ x. spares_ref (join (T schema_data) (sort_rows x)))
    (every_each (λ x. spares_ref (join (T schema_data) (sort_rows x))) sorts (checked T W).2) s

apart_later : (vs ws : List Row) → rows_apart (join vs ws) ≡ true → rows_apart ws ≡ true
apart_later [] ws h = h
apart_later (v ∷ vs) ws h = apart_later vs ws (and_parts (every (apart v) (join vs ws)) (rows_apart (join vs ws)) h).1

-- the rows of each sort by themselves are sound
pub sort_sound : (T : Tables) (W : tables_sound T ≡ true) (s : Sort) → rows_sound T (sort_rows s) ≡ true
sort_sound T W s =
    let p = and_parts (rows_apart (join (T schema_data) (sort_rows s)))
    (every (row_sound T) (join (T schema_data) (sort_rows s))) (schema_sound T W s) in
    and_from (rows_apart (sort_rows s)) (every (row_sound T) (sort_rows s))
    (apart_later (T schema_data) (sort_rows s) p.0) (every_behind (row_sound T) (T schema_data) (sort_rows s) p.1)

-- the rows of a tag are sound, for the first text of the tag or for one of the others
pick_case : (T : Tables) (W : tables_sound T ≡ true) (n s : List ℕ) (c : Case) (cs : List Case)
    → rows_apart (constant n c.word ∷ T c.table) ≡ true → (b : Bool) → same_text c.word s ≡ b
    → (same_text c.word s ≡ false → rows_sound T (constant n s ∷ case_rows T cs s) ≡ true)
    → rows_sound T (constant n s ∷ cond b (T c.table) (case_rows T cs s)) ≡ true
pick_case T W n s c cs h true q g =
    let p = and_parts (rows_apart (T c.table)) (every (row_sound T) (T c.table)) (table_sound T W c.table) in
    and_from (rows_apart (constant n s ∷ T c.table)) (every (row_sound T) (T c.table)) h p.1
pick_case T W n s c cs h false q g = g q

-- the rows of an object with a tag are sound, for each text that the tag may have
pub case_sound : (T : Tables) (W : tables_sound T ≡ true) (n s : List ℕ) (cs : List Case)
    → Each (λ (c : Case). rows_apart (constant n c.word ∷ T c.table) ≡ true) cs → is_case cs s ≡ true
    → rows_sound T (constant n s ∷ case_rows T cs s) ≡ true
case_sound T W n s [] h e = cc
case_sound T W n s (c ∷ cs) h e =
    pick_case T W n s c cs h.0 (same_text c.word s) refl
    (λ q. case_sound T W n s cs h.1 (ap (λ b. b || is_case cs s) (sym q) ∙ e))

-- if a node gives a choice of rows by a tag, it is a text that the tag may have, and the choice is by that text
pub tag_case : (cs : List Case) (t : Tree) (c : Choice) → tag_choice cs t ≡ Some c
    → (s : List ℕ) × (c ≡ tag s) × (is_case cs s ≡ true) × (t ≡ text s)
tag_case cs (text s) c h = pick (is_case cs s) refl h
  where
    pick : (b : Bool) → is_case cs s ≡ b → cond b (Some (tag s)) None ≡ Some c
        → (u : List ℕ) × (c ≡ tag u) × (is_case cs u ≡ true) × (text s ≡ text u)
    pick true e g = (s, cc, e, refl)
    pick false e g = cc
tag_case cs t c h = cc

-- the rows that an object of a sound kind is read by are sound
pub rows_of_sound : (T : Tables) (W : tables_sound T ≡ true) (k : Kind) (c : Choice) (es : List (Entry Tree))
    → sound T k ≡ true → choice k es ≡ Some c → rows_sound T (rows_of T k c) ≡ true
unfolding rows_of
rows_of_sound T W (by i) c es s h = table_sound T W i
rows_of_sound T W (tagged n cs) c es s h =
    let t = tag_case cs (held n es) c h in
    subst (λ d. rows_sound T (rows_of T (tagged n cs) d) ≡ true) (sym t.1)
    (case_sound T W n t.0 cs (every_each _ cs s) t.2)
rows_of_sound T W a_schema c es s h = let p : sort (sort_of es) ≡ c = cc in
    subst (λ d. rows_sound T (rows_of T a_schema d) ≡ true) p (schema_sound T W (sort_of es))
rows_of_sound T W a_schema_kind c es s h = let p : sort (sort_of es) ≡ c = cc in
    subst (λ d. rows_sound T (rows_of T a_schema_kind d) ≡ true) p (sort_sound T W (sort_of es))
rows_of_sound T W k c es s h = cc
