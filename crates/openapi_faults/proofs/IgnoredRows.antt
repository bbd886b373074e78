-- Dropped members do not count: rows of an object, and the names that they take.
use Rattle.std.proofs.Common.{◌≡◌, ℕ, Bool, true, false, not, cond, ◌&&◌, ◌||◌, List, [], ◌∷◌, Option, None}
use Rattle.std.proofs.Common.{refl, sym, ap, ◌∙◌, subst}
use Rattle.std.proofs.lemmas.Bool.{and_parts, both_ways, or_left, or_right}
use Rattle.std.specs.List.{list_any}
use Rattle.openapi_node.specs.Place.{Place, named}
use Rattle.openapi_node.specs.Tree.{Tree, object, Members}
use Rattle.openapi_tables.specs.Conforms.{conforms, skips_null}
use Rattle.openapi_tables.specs.Faults.{Asking, asked, asks_rows, root_asks}
use Rattle.openapi_tables.specs.Kind.{Case, Kind, Row, class, constant}
use Rattle.openapi_tables.specs.Kind.{either, list_of, map_of, null_or, ref_to, row}
use Rattle.openapi_tables.specs.Kind.{tagged, takes}
use Rattle.openapi_tables.specs.Lists.{every, join, same_text}
use Rattle.openapi_tables.specs.Members.{is_null}
use Rattle.openapi_tables.specs.Members.{own}
use Rattle.openapi_tables.specs.Read.{form}
use Rattle.openapi_tables.specs.Sound.{apart, mode_fits, row_sound, rows_apart, sound}
use Rattle.openapi_tables.specs.Tables.{final_tables}
use Rattle.openapi_tables.specs.Tree.{Entry, members_list, members_of, of_members}
use Rattle.openapi_tables.proofs.DistinctLaws.{Differ}
use Rattle.openapi_tables.proofs.FaultLaws.{askeds}
use Rattle.openapi_tables.proofs.ListLaws.{Each, Each-only, Each_within-only, each_under, every_each}
use Rattle.openapi_tables.proofs.ListLaws.{each-join, same_text-refl}
use Rattle.openapi_tables.proofs.RowLaws.{TakesAll, apart_back, apart_takes}
use Rattle.openapi_tables.proofs.SoundLaws.{sound_pick}
use Rattle.openapi_tables.proofs.TreeLaws.{members_list-of, members_of-list, of_members-of}
use Rattle.openapi_faults.specs.Dropped.{dropped_in, is_first, is_tag, is_taken, tag_of_table}
use Rattle.openapi_faults.specs.Dropped.{takes_second}
use Rattle.openapi_faults.specs.Laws.{dropped_places}
use Rattle.openapi_faults.specs.Without.{has_root, inside, without}
use Rattle.openapi_faults.specs.declared.dropped.DropReason.{DropReason}
use Rattle.openapi_faults.proofs.DropPlaces.{gathered_no_root, kept_name, lost, none_lost, of_left, places, stays_named}
use Rattle.openapi_faults.proofs.Locations.{inside_join, left, members_left, no_root, stays}
use Rattle.openapi_faults.proofs.Locations.{without_none}
use Rattle.openapi_faults.proofs.Picked.{At, Picked, dropping, rows_picked, under}
use Rattle.openapi_faults.proofs.Trimmed.{and_false, Alike, Fine, Stays, none_asked}

-- ---- kinds with tags whose tables have that tag

abbrev pub tags_known : Kind → Bool
tags_known (tagged n cs) = every (λ (c : Case). is_tag (tag_of_table c.table) n) cs
tags_known (null_or k) = tags_known k
tags_known (list_of k) = tags_known k
tags_known (map_of k) = tags_known k
tags_known (ref_to k) = tags_known k
tags_known k = true

abbrev pub row_known : Row → Bool
row_known (row n m k) = tags_known k
row_known (either a j b k) = tags_known j && tags_known k
row_known (class c k) = tags_known k
row_known (constant n v) = true

abbrev pub Good : Kind → Type 0
Good k = (sound final_tables k ≡ true) × (tags_known k ≡ true)

abbrev pub GoodRow : Row → Type 0
GoodRow w = (row_sound final_tables w ≡ true) × (row_known w ≡ true)

-- the dropped members of a value do not count: without them it is alike under each such kind
abbrev pub Ignores : Tree → Type 0
Ignores t = (k : Kind) → Good k → Alike k t (without (dropped_places k t) t)

abbrev pub ValuesIgnore : List (Entry Tree) → Type 0
ValuesIgnore es = Each (λ (e : Entry Tree). Ignores e.value) es

-- if nothing is dropped from a value, it is alike without its dropped members
pub unchanged : (k : Kind) (t : Tree) → dropped_in k t ≡ [] → Alike k t (without (dropped_places k t) t)
unchanged k t h =
    let e : without (dropped_places k t) t ≡ t = ap (λ l. without (places l) t) h ∙ without_none t in
    record {
      read = ap (form final_tables k) e;
      verdict = ap (conforms final_tables k) e;
      rest = ap (dropped_in k) e ∙ h;
      plain = λ x. e;
    }

-- ---- rows of an object

-- the first member that a row of two names takes has the name; always true for other rows
abbrev pub FirstOf : List (Entry Tree) → Row → List ℕ → Type 0
FirstOf es (either a j b k) n = is_first (own (either a j b k) es) n ≡ true
FirstOf es w n = Unit {0}

-- there is no reason to drop what a row reads
abbrev pub NotLost : (List ℕ → Option DropReason) → List (Entry Tree) → Row → Type 0
NotLost g es w = (n : List ℕ) → takes w n ≡ true → FirstOf es w n → g n ≡ None

module _ (g : List ℕ → Option DropReason) (es : List (Entry Tree)) (as' : List Asking) (ps : List Place)
    (is : ps ≡ join (places (lost [] g es)) (places (dropping as'))) where
  pub inside_is : (e : Entry Tree) → g e.name ≡ None → inside (named e.name) ps ≡ under (named e.name) as'
  inside_is e h =
      ap (inside (named e.name)) is ∙ inside_join (named e.name) (places (lost [] g es)) (places (dropping as'))
      ∙ ap (λ l. join l (under (named e.name) as')) (kept_name g e.name h es)

  pub stays_at : (e : Entry Tree) (qs : List Place) → inside (named e.name) ps ≡ qs → has_root qs ≡ false → stays ps e ≡ true
  stays_at e qs q h = ap (λ l. not (has_root l)) q ∙ ap not h

  pub no_places : (k : Kind) (t : Tree) → has_root (dropped_places k t) ≡ false
  no_places k t = no_root (dropped_places k t) (gathered_no_root (asked final_tables k t))

  pub stays_alike : (e : Entry Tree) (k : Kind) → Good k → Ignores e.value → g e.name ≡ None → At as' k e → Stays ps k e
  stays_alike e k o v h at =
      let q : inside (named e.name) ps ≡ dropped_places k e.value = inside_is e h ∙ at in (
        stays_at e (dropped_places k e.value) q (no_places k e.value),
        subst (λ l. Alike k e.value (without l e.value)) (sym q) (v k o),
      )

  pub all_stay : (k : Kind) (l : List (Entry Tree)) → Good k → ValuesIgnore l → Each (λ (e : Entry Tree). g e.name ≡ None) l
      → Each (At as' k) l → Each (Stays ps k) l
  all_stay k [] o v h at = tt
  all_stay k (e ∷ l) o v h at = (stays_alike e k o v.0 h.0 at.0, all_stay k l o v.1 h.1 at.1)

  pub row_fine : (w : Row) (l : List (Entry Tree)) → own w es ≡ l → TakesAll w l → GoodRow w → ValuesIgnore l → NotLost g es w
      → Picked as' w l → Fine ps w l
  row_fine (row n m k) [] q t o v h at = tt
  row_fine (row n m k) (e ∷ l) q t o v h at = go (skips_null m && is_null e.value) refl
    where
      here : inside (named e.name) ps ≡ cond (skips_null m && is_null e.value) [] (dropped_places k e.value)
      here = inside_is e (h e.name t.0 tt) ∙ at

      go : (b : Bool) → (skips_null m && is_null e.value) ≡ b → (stays ps e ≡ true)
          × ((skips_null m && is_null e.value) ≡ false → Alike k e.value (without (inside (named e.name) ps) e.value))
      go true x = (
        stays_at e [] (here ∙ ap (λ b. cond b [] (dropped_places k e.value)) x) refl,
        λ y. absurd (both_ways (skips_null m && is_null e.value) y x),
      )
      go false x =
          let z : inside (named e.name) ps ≡ dropped_places k e.value = here ∙ ap (λ b. cond b [] (dropped_places k e.value)) x in (
            stays_at e (dropped_places k e.value) z (no_places k e.value),
            λ y. subst (λ r. Alike k e.value (without r e.value)) (sym z)
                (v.0 k ((and_parts (mode_fits m k) (sound final_tables k) o.0).1, o.1)),
          )
  row_fine (either a j b k) [] q t o v h at = tt
  row_fine (either a j b k) (e ∷ l) q t o v h at =
      let s = and_parts (sound final_tables j && sound final_tables k) (not (same_text a b)) o.0 in
      let r = and_parts (sound final_tables j) (sound final_tables k) s.0 in
      let u = and_parts (tags_known j) (tags_known k) o.1 in
      stays_alike e (cond (same_text a e.name) j k)
      (sound_pick final_tables (same_text a e.name) j k r.0 r.1, known_pick (same_text a e.name) j k u.0 u.1) v.0
      (h e.name t.0 (ap (λ x. is_first x e.name) q ∙ same_text-refl e.name)) at
    where
      known_pick : (b : Bool) (j k : Kind) → tags_known j ≡ true → tags_known k ≡ true → tags_known (cond b j k) ≡ true
      known_pick true j k x y = x
      known_pick false j k x y = y
  row_fine (class c k) l q t o v h at =
      all_stay k l o v (each_under (λ (e : Entry Tree) (x : takes (class c k) e.name ≡ true). h e.name x tt) l t) at
  row_fine (constant n u) l q t o v h at = tt

  pub fine : (ws : List Row) → Each GoodRow ws → ValuesIgnore es → Each (NotLost g es) ws → Each (λ w. Picked as' w (own w es)) ws
      → Each (λ w. Fine ps w (own w es)) ws
  fine [] o v h at = tt
  fine (w ∷ ws) o v h at = (
    row_fine w (own w es) refl (Each-only (λ (e : Entry Tree). takes w e.name) es) o.0
        (Each_within-only (λ (e : Entry Tree). Ignores e.value) (λ e. takes w e.name) es v) h.0 at.0,
    fine ws o.1 v h.1 at.1,
  )

-- ---- which names rows take

abbrev pub Takes : List (Entry Tree) → List Row → Row → Type 0
Takes es ws w = (n : List ℕ) → takes w n ≡ true → FirstOf es w n
    → (is_taken ws n ≡ true) × (list_any (takes_second es n) ws ≡ false)

pub not_second : (es : List (Entry Tree)) (v : Row) (n : List ℕ) → takes v n ≡ false → takes_second es n v ≡ false
not_second es (either a j b k) n h = ap (λ b'. b' && not (is_first (own (either a j b k) es) n)) h
not_second es (row a m k) n h = refl
not_second es (class c k) n h = refl
not_second es (constant a v) n h = refl

pub first_second : (es : List (Entry Tree)) (w : Row) (n : List ℕ) → FirstOf es w n → takes_second es n w ≡ false
first_second es (either a j b k) n h =
    ap (λ b'. takes (either a j b k) n && not b') h ∙ and_false (takes (either a j b k) n)
first_second es (row a m k) n h = refl
first_second es (class c k) n h = refl
first_second es (constant a v) n h = refl

pub none_second : (es : List (Entry Tree)) (ws : List Row) (n : List ℕ) → Each (λ v. takes v n ≡ false) ws
    → list_any (takes_second es n) ws ≡ false
none_second es [] n h = refl
none_second es (w ∷ ws) n h =
    ap (λ b. b || list_any (takes_second es n) ws) (not_second es w n h.0) ∙ none_second es ws n h.1

pub rows_take : (es : List (Entry Tree)) (ws : List Row) → rows_apart ws ≡ true → Each (Takes es ws) ws
rows_take es [] a = tt
rows_take es (w ∷ ws) a =
    let p = and_parts (every (apart w) ws) (rows_apart ws) a in
    let away = every_each (apart w) ws p.0 in
    (here away, later ws away (rows_take es ws p.1))
  where
    here : Each (λ v. apart w v ≡ true) ws → Takes es (w ∷ ws) w
    here away n t f = (
      or_left (takes w n) (is_taken ws n) t,
      ap (λ b. b || list_any (takes_second es n) ws) (first_second es w n f)
          ∙ none_second es ws n (each_under (λ v (x : apart w v ≡ true). apart_takes w v n x t) ws away),
    )

    later : (vs : List Row) → Each (λ v. apart w v ≡ true) vs → Each (Takes es ws) vs → Each (Takes es (w ∷ ws)) vs
    later [] away h = tt
    later (v ∷ vs) away h = (
      λ n t f. let r = h.0 n t f in (
        or_right (takes w n) (is_taken ws n) r.0,
        ap (λ b. b || list_any (takes_second es n) ws) (not_second es w n (apart_back w v n away.0 t)) ∙ r.1,
      ),
      later vs away.1 h.1,
    )

-- ---- objects by rows

module _ (k : Kind) (ws : List Row) (g : List (Entry Tree) → List ℕ → Option DropReason)
    (seen : (ms : Members) → dropped_in k (object ms)
    ≡ join (lost [] (g (members_list ms)) (members_list ms)) (dropping (asks_rows (of_members (root_asks final_tables) ms) ws)))
    (rows : rows_apart ws ≡ true) (good : Each GoodRow ws)
    (keeps : (es : List (Entry Tree)) → Each (Takes es ws) ws → Each (NotLost (g es) es) ws)
    (still : (ps : List Place) (es : List (Entry Tree)) → Each (λ w. Fine ps w (own w es)) ws → (n : List ℕ)
    → g (left ps es) n ≡ g es n) where
  pub object_drops : (es : List (Entry Tree)) → dropped_in k (object (members_of es))
      ≡ join (lost [] (g es) es) (dropping (asks_rows (askeds final_tables es) ws))
  object_drops es =
      seen (members_of es)
      ∙ ap (λ l. join (lost [] (g l) l) (dropping (asks_rows (of_members (root_asks final_tables) (members_of es)) ws)))
      (members_list-of es)
      ∙ ap (λ l. join (lost [] (g es) es) (dropping (asks_rows l ws))) (of_members-of (root_asks final_tables) es)

  module _ (es : List (Entry Tree)) (d : Differ es) (v : ValuesIgnore es) where
    abbrev pub gone : List Place
    gone = dropped_places k (object (members_of es))

    pub gone_is : dropped_places k (object (members_of es))
        ≡ join (places (lost [] (g es) es)) (places (dropping (asks_rows (askeds final_tables es) ws)))
    gone_is =
        ap places (object_drops es)
        ∙ each-join (λ (x : Place × DropReason). x.0) (lost [] (g es) es) (dropping (asks_rows (askeds final_tables es) ws))

    pub object_fine : Each (λ w. Fine (dropped_places k (object (members_of es))) w (own w es)) ws
    object_fine =
        fine (g es) es (asks_rows (askeds final_tables es) ws) gone gone_is ws good v (keeps es (rows_take es ws rows))
        (rows_picked es d ws rows)

    pub nothing_left : dropped_in k (object (members_of (left (dropped_places k (object (members_of es))) es))) ≡ []
    nothing_left =
        object_drops (left gone es)
        ∙ ap (λ l. join l (dropping (asks_rows (askeds final_tables (left gone es)) ws)))
        (none_lost [] (g (left gone es)) (left gone es)
        (of_left (λ n. g (left gone es) n ≡ None) gone es
        (each_under {Q = λ (e : Entry Tree). stays gone e ≡ true → g (left gone es) e.name ≡ None}
        (λ (e : Entry Tree) (x : stays gone e ≡ true → g es e.name ≡ None) y. still gone es object_fine e.name ∙ x y) es
        (stays_named (g es) es gone (places (dropping (asks_rows (askeds final_tables es) ws))) gone_is))))
        ∙ none_asked gone es ws object_fine

-- an object is alike without its dropped members if the object of its members as a list is
pub as_object : (k : Kind) (ms : Members)
    → Alike k (object (members_of (members_list ms)))
    (object (members_of (left (dropped_places k (object (members_of (members_list ms)))) (members_list ms))))
    → Alike k (object ms) (without (dropped_places k (object ms)) (object ms))
as_object k ms a =
    subst (λ m. Alike k (object m) (without (dropped_places k (object m)) (object m))) (members_of-list ms)
    (subst (λ m. Alike k (object (members_of (members_list ms))) (object m))
    (sym (members_left (dropped_places k (object (members_of (members_list ms)))) (members_list ms))) a)
