-- Dropped members do not count: schemas.
use Rattle.std.proofs.Common.{◌≡◌, ℕ, Bool, true, false, ◌||◌, List, [], ◌∷◌, Option}
use Rattle.std.proofs.Common.{refl, sym, ap, ◌∙◌, subst, codes}
use Rattle.openapi_node.specs.Place.{Place, named}
use Rattle.openapi_node.specs.Tree.{Tree, object, Members}
use Rattle.openapi_tables.specs.Faults.{asks_rows, root_asks}
use Rattle.openapi_tables.specs.Form.{fields, forms_of}
use Rattle.openapi_tables.specs.Kind.{Kind, Row, a_schema, a_schema_kind, any_schema, any_text, class, constant}
use Rattle.openapi_tables.specs.Kind.{either, flag_or_schema, list_of, map_of, null_or, optional, required, row, schema_data}
use Rattle.openapi_tables.specs.Kind.{Mode, flagged, format, formatted, listed, number, signed, sizes, takes, unlimited, any_flag, any_tree}
use Rattle.openapi_tables.specs.Lists.{each, every, join, same_text}
use Rattle.openapi_tables.specs.Members.{checked_rows, first_tree, held, is_null, kind_names, made_optional}
use Rattle.openapi_tables.specs.Members.{Sort, all_of_sort, any_of_sort, any_sort, array_sort, boolean_sort, integer_sort, not_sort, number_sort}
use Rattle.openapi_tables.specs.Members.{object_sort, one_of_sort, string_sort}
use Rattle.openapi_tables.specs.Members.{own, row_name, rows_of, sort, sort_of, sort_rows}
use Rattle.openapi_tables.specs.Read.{default_of, form, slot_of_own}
use Rattle.openapi_tables.specs.Sound.{has_members, row_sound, rows_apart, schema_rows}
use Rattle.openapi_tables.specs.Tables.{any_rows, array_rows, boolean_rows, final_tables, integer_formats, number_formats, object_rows}
use Rattle.openapi_tables.specs.Tables.{schema_ref, string_formats, string_rows, tables_with}
use Rattle.openapi_tables.specs.Tree.{Entry, members_list, members_of, of_members}
use Rattle.openapi_tables.proofs.AskedLaws.{Each_parts}
use Rattle.openapi_tables.proofs.DistinctLaws.{Differ}
use Rattle.openapi_tables.proofs.ListLaws.{Each, Each-join, each_under, every_behind}
use Rattle.openapi_tables.proofs.MemberLaws.{same_sort}
use Rattle.openapi_tables.proofs.PlainLaws.{is_plain}
use Rattle.openapi_tables.proofs.ReadLaws.{form-fields, reads, slot_in}
use Rattle.openapi_tables.proofs.TreeLaws.{null_tree, tree_of_root-seen}
use Rattle.openapi_tables.proofs.WellMade.{final_sound}
use Rattle.openapi_tables.proofs.Writes.{object_conforms}
use Rattle.openapi_tables.proofs.again.ObjectsBack.{checked}
use Rattle.openapi_faults.specs.Dropped.{dropped_in, drops, is_taken}
use Rattle.openapi_faults.specs.Dropped.{unless_taken}
use Rattle.openapi_faults.specs.Laws.{dropped_places}
use Rattle.openapi_faults.specs.Without.{inside, without}
use Rattle.openapi_faults.specs.declared.dropped.DropReason.{DropReason}
use Rattle.openapi_faults.proofs.DropPlaces.{lost}
use Rattle.openapi_faults.proofs.Locations.{or_group, left, left_first, null_same, own_left}
use Rattle.openapi_faults.proofs.Picked.{dropping}
use Rattle.openapi_faults.proofs.Trimmed.{Alike, Fine, pick, rows_fine}
use Rattle.openapi_faults.proofs.Trimmed.{slot_same}
use Rattle.openapi_faults.proofs.IgnoredRows.{NotLost, Takes, ValuesIgnore, nothing_left, object_fine, row_known}
use Rattle.openapi_faults.proofs.IgnoredTables.{both_good}

-- ---- rows of names

abbrev pub is_named : Row → Bool
is_named (row n m k) = true
is_named w = false

pub all_named : every is_named any_rows ≡ true
unfolding any_rows
all_named = refl

-- ---- schemas

pub taken_join : (vs ws : List Row) (n : List ℕ) → is_taken (join vs ws) n ≡ (is_taken vs n || is_taken ws n)
taken_join [] ws n = refl
taken_join (v ∷ vs) ws n = ap (λ b. takes v n || b) (taken_join vs ws n) ∙ or_group (takes v n) (is_taken vs n) (is_taken ws n)

pub taken_optional : (ws : List Row) (n : List ℕ) → is_taken (each made_optional ws) n ≡ is_taken ws n
taken_optional [] n = refl
taken_optional (row a m k ∷ ws) n = ap (λ b. same_text a n || b) (taken_optional ws n)
taken_optional (either a j b k ∷ ws) n = ap (λ c. takes (either a j b k) n || c) (taken_optional ws n)
taken_optional (class c k ∷ ws) n = ap (λ b. takes (class c k) n || b) (taken_optional ws n)
taken_optional (constant a u ∷ ws) n = ap (λ b. takes (constant a u) n || b) (taken_optional ws n)

-- rows followed by those of the kind names, each made optional
abbrev pub open_rows : List Row → List Row
open_rows pre = join pre (each made_optional any_rows)

abbrev pub why_open : List Row → List (Entry Tree) → List ℕ → Option DropReason
why_open pre es n = unless_taken (is_taken pre n || is_taken any_rows n)

pub open_keeps : (pre : List Row) (es : List (Entry Tree)) → Each (Takes es (open_rows pre)) (open_rows pre)
    → Each (NotLost (why_open pre es) es) (open_rows pre)
open_keeps pre es h =
    each_under {Q = NotLost (why_open pre es) es} (λ w (x : Takes es (open_rows pre) w) n t f. let r = x n t f in
    ap unless_taken (sym (taken_join pre (each made_optional any_rows) n ∙ ap (λ b. is_taken pre n || b) (taken_optional any_rows n)) ∙ r.0))
    (open_rows pre) h

module _ (ps : List Place) (es : List (Entry Tree)) where
  abbrev pub SameSlot : Row → Type 0
  SameSlot w = slot_in final_tables (left ps es) w ≡ slot_in final_tables es w

  -- what an optional row of a name and a kind reads stays and is alike
  abbrev pub NameFine : List ℕ → Kind → Type 0
  NameFine n k = Fine ps (row n optional k) (own (row n optional k) es)

  pub name_slot_same : (n : List ℕ) (m : Mode) (j k : Kind) (l : List (Entry Tree)) → Fine ps (row n optional j) l
      → ((t u : Tree) → Alike j t u → form final_tables k u ≡ form final_tables k t)
      → slot_of_own (row n m k) (reads final_tables (left ps l)) ≡ slot_of_own (row n m k) (reads final_tables l)
  name_slot_same n m j k [] h f = refl
  name_slot_same n m j k (e ∷ l) h f =
      ap (λ x. slot_of_own (row n m k) (reads final_tables x)) (left_first ps e l h.0)
      ∙ pick (is_null (without (inside (named e.name) ps) e.value)) (is_null e.value) (default_of m k)
      (form final_tables k (without (inside (named e.name) ps) e.value)) (form final_tables k e.value)
      (null_same (inside (named e.name) ps) e.value)
      (λ q. f e.value (without (inside (named e.name) ps) e.value) (h.1 q))

  pub same_slot : (n : List ℕ) (m : Mode) (k : Kind) → NameFine n k → SameSlot (row n m k)
  same_slot n m k h =
      ap (λ l. slot_of_own (row n m k) (reads final_tables l)) (own_left ps (row n m k) es)
      ∙ name_slot_same n m k k (own (row n m k) es) h (λ t u a. a.read)

  pub plain_slot : (n : List ℕ) (m : Mode) (j k : Kind) → is_plain j ≡ true → NameFine n j → SameSlot (row n m k)
  plain_slot n m j k p h =
      ap (λ l. slot_of_own (row n m k) (reads final_tables l)) (own_left ps (row n m k) es)
      ∙ name_slot_same n m j k (own (row n m k) es) h (λ t u a. ap (form final_tables k) (a.plain p))

  pub all_same : (ws : List Row) → Each (λ w. Fine ps w (own w es)) (each made_optional ws) → Each SameSlot ws
  all_same [] h = tt
  all_same (row n m k ∷ ws) h = (same_slot n m k h.0, all_same ws h.1)
  all_same (either a j b k ∷ ws) h = (slot_same ps es (either a j b k) h.0, all_same ws h.1)
  all_same (class c k ∷ ws) h = (slot_same ps es (class c k) h.0, all_same ws h.1)
  all_same (constant a u ∷ ws) h = (slot_same ps es (constant a u) h.0, all_same ws h.1)

  abbrev pub KindsFine : Type 0
  KindsFine = Each (λ w. Fine ps w (own w es)) (each made_optional any_rows)

  pub sorts_same : (s : Sort) → Each (λ w. Fine ps w (own w es)) (each made_optional any_rows) → Each SameSlot (sort_rows s)
  unfolding sort_rows string_rows object_rows array_rows boolean_rows any_rows
  sorts_same string_sort h = (
    refl,
    (
      plain_slot (codes "format") formatted any_text (format string_formats true) refl h.1.1.1.1.1.1.1.1.1.1.1.1.1.1.1.1.1.0,
      (
        plain_slot (codes "pattern") optional any_text any_text refl h.1.0,
        (
          plain_slot (codes "enum") listed (list_of any_tree) (list_of (null_or any_text)) refl h.1.1.1.1.1.1.1.1.1.1.1.1.1.1.1.1.0,
          (
            plain_slot (codes "minLength") optional (number sizes) (number sizes) refl h.1.1.1.1.1.1.1.1.1.1.1.1.1.1.1.1.1.1.0,
            (
              plain_slot (codes "maxLength") optional (number sizes) (number sizes) refl h.1.1.1.1.1.1.1.1.1.1.1.1.1.1.1.1.1.1.1.0,
              tt,
            ),
          ),
        ),
      ),
    ),
  )
  sorts_same number_sort h = (
    refl,
    (
      plain_slot (codes "format") formatted any_text (format number_formats true) refl h.1.1.1.1.1.1.1.1.1.1.1.1.1.1.1.1.1.0,
      (
        plain_slot (codes "multipleOf") optional (number unlimited) (number unlimited) refl h.1.1.0,
        (
          plain_slot (codes "exclusiveMinimum") flagged any_flag any_flag refl h.1.1.1.0,
          (
            plain_slot (codes "exclusiveMaximum") flagged any_flag any_flag refl h.1.1.1.1.0,
            (
              plain_slot (codes "minimum") optional (number unlimited) (number unlimited) refl h.1.1.1.1.1.0,
              (
                plain_slot (codes "maximum") optional (number unlimited) (number unlimited) refl h.1.1.1.1.1.1.0,
                (
                  plain_slot (codes "enum") listed (list_of any_tree) (list_of (null_or (number unlimited))) refl h.1.1.1.1.1.1.1.1.1.1.1.1.1.1.1.1.0,
                  tt,
                ),
              ),
            ),
          ),
        ),
      ),
    ),
  )
  sorts_same integer_sort h = (
    refl,
    (
      plain_slot (codes "format") formatted any_text (format integer_formats true) refl h.1.1.1.1.1.1.1.1.1.1.1.1.1.1.1.1.1.0,
      (
        plain_slot (codes "multipleOf") optional (number unlimited) (number signed) refl h.1.1.0,
        (
          plain_slot (codes "exclusiveMinimum") flagged any_flag any_flag refl h.1.1.1.0,
          (
            plain_slot (codes "exclusiveMaximum") flagged any_flag any_flag refl h.1.1.1.1.0,
            (
              plain_slot (codes "minimum") optional (number unlimited) (number signed) refl h.1.1.1.1.1.0,
              (
                plain_slot (codes "maximum") optional (number unlimited) (number signed) refl h.1.1.1.1.1.1.0,
                (
                  plain_slot (codes "enum") listed (list_of any_tree) (list_of (null_or (number signed))) refl h.1.1.1.1.1.1.1.1.1.1.1.1.1.1.1.1.0,
                  tt,
                ),
              ),
            ),
          ),
        ),
      ),
    ),
  )
  sorts_same object_sort h = (
    refl,
    (
      same_slot (codes "properties") listed (map_of schema_ref) h.1.1.1.1.1.1.1.0,
      (
        same_slot (codes "required") listed (list_of any_text) h.1.1.1.1.1.1.1.1.0,
        (
          same_slot (codes "additionalProperties") optional flag_or_schema h.1.1.1.1.1.1.1.1.1.0,
          (
            same_slot (codes "minProperties") optional (number sizes) h.1.1.1.1.1.1.1.1.1.1.0,
            (
              same_slot (codes "maxProperties") optional (number sizes) h.1.1.1.1.1.1.1.1.1.1.1.0,
              tt,
            ),
          ),
        ),
      ),
    ),
  )
  sorts_same array_sort h = (
    refl,
    (
      same_slot (codes "items") optional schema_ref h.1.1.1.1.1.1.1.1.1.1.1.1.0,
      (
        same_slot (codes "minItems") optional (number sizes) h.1.1.1.1.1.1.1.1.1.1.1.1.1.0,
        (
          same_slot (codes "maxItems") optional (number sizes) h.1.1.1.1.1.1.1.1.1.1.1.1.1.1.0,
          (
            plain_slot (codes "uniqueItems") flagged any_flag any_flag refl h.1.1.1.1.1.1.1.1.1.1.1.1.1.1.1.0,
            tt,
          ),
        ),
      ),
    ),
  )
  sorts_same boolean_sort h = (
    refl,
    (
      plain_slot (codes "enum") listed (list_of any_tree) (list_of (null_or any_flag)) refl h.1.1.1.1.1.1.1.1.1.1.1.1.1.1.1.1.0,
      tt,
    ),
  )
  sorts_same one_of_sort h = (
    same_slot (codes "oneOf") required (list_of schema_ref) h.1.1.1.1.1.1.1.1.1.1.1.1.1.1.1.1.1.1.1.1.0,
    tt,
  )
  sorts_same all_of_sort h = (
    same_slot (codes "allOf") required (list_of schema_ref) h.1.1.1.1.1.1.1.1.1.1.1.1.1.1.1.1.1.1.1.1.1.0,
    tt,
  )
  sorts_same any_of_sort h = (
    same_slot (codes "anyOf") required (list_of schema_ref) h.1.1.1.1.1.1.1.1.1.1.1.1.1.1.1.1.1.1.1.1.1.1.0,
    tt,
  )
  sorts_same not_sort h = (
    same_slot (codes "not") required schema_ref h.1.1.1.1.1.1.1.1.1.1.1.1.1.1.1.1.1.1.1.1.1.1.1.0,
    tt,
  )
  sorts_same any_sort h = all_same any_rows h

  -- ---- the sort

  pub held_null : (n : List ℕ) (k : Kind) → NameFine n k → is_null (held n (left ps es)) ≡ is_null (held n es)
  held_null n k h = ap (λ l. is_null (first_tree l)) (own_left ps (row n optional k) es) ∙ go (own (row n optional k) es) h
    where
      go : (l : List (Entry Tree)) → Fine ps (row n optional k) l → is_null (first_tree (left ps l)) ≡ is_null (first_tree l)
      go [] h = refl
      go (e ∷ l) h = ap (λ x. is_null (first_tree x)) (left_first ps e l h.0) ∙ null_same (inside (named e.name) ps) e.value

  pub held_plain : (n : List ℕ) (k : Kind) → is_plain k ≡ true → NameFine n k → held n (left ps es) ≡ held n es
  held_plain n k p h = ap first_tree (own_left ps (row n optional k) es) ∙ go (own (row n optional k) es) h
    where
      go : (l : List (Entry Tree)) → Fine ps (row n optional k) l → first_tree (left ps l) ≡ first_tree l
      go [] h = refl
      go (e ∷ l) h = ap first_tree (left_first ps e l h.0) ∙ value (is_null e.value) refl
        where
          value : (b : Bool) → is_null e.value ≡ b → without (inside (named e.name) ps) e.value ≡ e.value
          value true q =
              subst (λ t. without (inside (named e.name) ps) t ≡ t) (sym (null_tree e.value q)) refl
          value false q = (h.1 q).plain p

  pub all_null : (ws : List Row) → every is_named ws ≡ true → Each (λ w. Fine ps w (own w es)) (each made_optional ws)
      → Each (λ n. is_null (held n (left ps es)) ≡ is_null (held n es)) (each row_name ws)
  all_null [] o h = tt
  all_null (row n m k ∷ ws) o h = (held_null n k h.0, all_null ws o h.1)
  all_null (either a j b k ∷ ws) o h = cc
  all_null (class c k ∷ ws) o h = cc
  all_null (constant a u ∷ ws) o h = cc

  pub sort_same : Each (λ w. Fine ps w (own w es)) (each made_optional any_rows) → sort_of (left ps es) ≡ sort_of es
  unfolding any_rows kind_names
  sort_same h =
      same_sort (left ps es) es (record {
        nulls = all_null any_rows all_named h;
        type = held_plain (codes "type") any_text refl h.0;
        enum = held_plain (codes "enum") (list_of any_tree) refl h.1.1.1.1.1.1.1.1.1.1.1.1.1.1.1.1.0;
        multiple_of = held_plain (codes "multipleOf") (number unlimited) refl h.1.1.0;
        minimum = held_plain (codes "minimum") (number unlimited) refl h.1.1.1.1.1.0;
        maximum = held_plain (codes "maximum") (number unlimited) refl h.1.1.1.1.1.1.0;
      })

pub slots_of : (ps : List Place) (es : List (Entry Tree)) (ws : List Row)
    → Each (λ w. slot_in final_tables (left ps es) w ≡ slot_in final_tables es w) ws
    → each (slot_in final_tables (left ps es)) ws ≡ each (slot_in final_tables es) ws
slots_of ps es [] h = refl
slots_of ps es (w ∷ ws) h =
    ap (λ f. f ∷ each (slot_in final_tables (left ps es)) ws) h.0 ∙ ap (λ l. slot_in final_tables es w ∷ l) (slots_of ps es ws h.1)

pub open_apart : rows_apart (schema_rows final_tables) ≡ true
unfolding final_tables tables_with any_rows
open_apart = refl

pub open_known : every row_known (schema_rows final_tables) ≡ true
unfolding final_tables tables_with any_rows
open_known = refl

pub open_members : every has_members (schema_rows final_tables) ≡ true
unfolding final_tables tables_with any_rows
open_members = refl

pub kinds_apart : rows_apart (each made_optional any_rows) ≡ true
unfolding any_rows
kinds_apart = refl

pub kinds_known : every row_known (each made_optional any_rows) ≡ true
unfolding any_rows
kinds_known = refl

pub kinds_members : every has_members (each made_optional any_rows) ≡ true
unfolding any_rows
kinds_members = refl

pub any_is : final_tables any_schema ≡ any_rows
unfolding final_tables tables_with
any_is = refl

pub schema_seen : (ms : Members) → dropped_in a_schema (object ms)
    ≡ join (lost [] (why_open (final_tables schema_data) (members_list ms)) (members_list ms))
    (dropping (asks_rows (of_members (root_asks final_tables) ms) (open_rows (final_tables schema_data))))
unfolding checked_rows
schema_seen ms =
    ap (λ t. join (drops [] a_schema t) (dropping (asks_rows (of_members (root_asks final_tables) ms) (open_rows (final_tables schema_data)))))
    (tree_of_root-seen (root_asks final_tables) (object ms))
    ∙ ap (λ ws. join (lost [] (λ n. unless_taken (is_taken (final_tables schema_data) n || is_taken ws n)) (members_list ms))
    (dropping (asks_rows (of_members (root_asks final_tables) ms) (open_rows (final_tables schema_data))))) any_is

pub schema_kind_seen : (ms : Members) → dropped_in a_schema_kind (object ms)
    ≡ join (lost [] (why_open [] (members_list ms)) (members_list ms))
    (dropping (asks_rows (of_members (root_asks final_tables) ms) (open_rows [])))
unfolding checked_rows
schema_kind_seen ms =
    ap (λ t. join (drops [] a_schema_kind t) (dropping (asks_rows (of_members (root_asks final_tables) ms) (open_rows []))))
    (tree_of_root-seen (root_asks final_tables) (object ms))
    ∙ ap (λ ws. join (lost [] (λ n. unless_taken (is_taken ws n)) (members_list ms))
    (dropping (asks_rows (of_members (root_asks final_tables) ms) (open_rows [])))) any_is

module _ (es : List (Entry Tree)) (d : Differ es) (v : ValuesIgnore es) where
  pub schema_alike : Alike a_schema (object (members_of es))
      (object (members_of (left (dropped_places a_schema (object (members_of es))) es)))
  unfolding rows_of checked_rows
  schema_alike =
      let ps = dropped_places a_schema (object (members_of es)) in
      let pre = final_tables schema_data in
      let good = both_good (open_rows pre) (checked final_tables final_sound).4 open_known in
      let h = object_fine a_schema (open_rows pre) (why_open pre) schema_seen open_apart good (open_keeps pre) (λ qs l x n. refl) es d v in
      let p = Each_parts (λ w. Fine ps w (own w es)) pre (each made_optional any_rows) h in
      let s : sort_of (left ps es) ≡ sort_of es = sort_same ps es p.1 in
      record {
        read = form-fields final_tables a_schema (sort (sort_of (left ps es))) (left ps es) refl
            ∙ ap (λ x. fields (sort x) (forms_of (each (slot_in final_tables (left ps es)) (join pre (sort_rows x))))) s
            ∙ ap (λ l. fields (sort (sort_of es)) (forms_of l))
            (slots_of ps es (join pre (sort_rows (sort_of es)))
            (Each-join (λ w. slot_in final_tables (left ps es) w ≡ slot_in final_tables es w) pre (sort_rows (sort_of es))
            (each_under (λ w (x : Fine ps w (own w es)). slot_same ps es w x) pre p.0) (sorts_same ps es (sort_of es) p.1)))
            ∙ sym (form-fields final_tables a_schema (sort (sort_of es)) es refl);
        verdict = object_conforms final_tables a_schema (left ps es) ∙ rows_fine ps es (open_rows pre) open_members h
            ∙ sym (object_conforms final_tables a_schema es);
        rest = nothing_left a_schema (open_rows pre) (why_open pre) schema_seen open_apart good (open_keeps pre) (λ qs l x n. refl) es d v;
        plain = λ x. cc;
      }

  pub schema_kind_alike : Alike a_schema_kind (object (members_of es))
      (object (members_of (left (dropped_places a_schema_kind (object (members_of es))) es)))
  unfolding rows_of checked_rows
  schema_kind_alike =
      let ps = dropped_places a_schema_kind (object (members_of es)) in
      let good = both_good (open_rows []) (every_behind (row_sound final_tables) (final_tables schema_data) (each made_optional any_rows)
      (checked final_tables final_sound).4) kinds_known in
      let h = object_fine a_schema_kind (open_rows []) (why_open []) schema_kind_seen kinds_apart good (open_keeps []) (λ qs l x n. refl) es d v in
      let s : sort_of (left ps es) ≡ sort_of es = sort_same ps es h in
      record {
        read = form-fields final_tables a_schema_kind (sort (sort_of (left ps es))) (left ps es) refl
            ∙ ap (λ x. fields (sort x) (forms_of (each (slot_in final_tables (left ps es)) (sort_rows x)))) s
            ∙ ap (λ l. fields (sort (sort_of es)) (forms_of l)) (slots_of ps es (sort_rows (sort_of es)) (sorts_same ps es (sort_of es) h))
            ∙ sym (form-fields final_tables a_schema_kind (sort (sort_of es)) es refl);
        verdict = object_conforms final_tables a_schema_kind (left ps es) ∙ rows_fine ps es (open_rows []) kinds_members h
            ∙ sym (object_conforms final_tables a_schema_kind es);
        rest = nothing_left a_schema_kind (open_rows []) (why_open []) schema_kind_seen kinds_apart good (open_keeps []) (λ qs l x n. refl) es d v;
        plain = λ x. cc;
      }
