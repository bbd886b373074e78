-- Dropped members do not count: objects with a tag.
use Rattle.std.proofs.Common.{◌≡◌, ℕ, Bool, true, false, cond, ◌&&◌, ◌||◌, List, [], ◌∷◌, Option, Some, None}
use Rattle.std.proofs.Common.{refl, sym, ap, ◌∙◌, subst}
use Rattle.std.proofs.lemmas.Bool.{and_parts}
use Rattle.std.specs.List.{list_any}
use Rattle.openapi_node.specs.Place.{Place, named}
use Rattle.openapi_node.specs.Tree.{Tree, null, flag, whole, text, list, object}
use Rattle.openapi_tables.specs.Conforms.{chosen_holds, conforms, constant_holds, is_text, root_conforms, row_holds}
use Rattle.openapi_tables.specs.Faults.{asks_inner, asks_own, asks_rows, here, asks_tag, root_asks, tag_table}
use Rattle.openapi_tables.specs.Faults.{words}
use Rattle.openapi_tables.specs.Form.{fields, forms_of}
use Rattle.openapi_tables.specs.Kind.{Case, Row, by, constant}
use Rattle.openapi_tables.specs.Kind.{one_of, required, row}
use Rattle.openapi_tables.specs.Kind.{tagged, takes}
use Rattle.openapi_tables.specs.Lists.{each, every, join, same_text}
use Rattle.openapi_tables.specs.Members.{Choice, case_rows, checked_rows, first_tree, held, is_case}
use Rattle.openapi_tables.specs.Members.{trees}
use Rattle.openapi_tables.specs.Members.{own, plain, rows_of, tag, tag_choice}
use Rattle.openapi_tables.specs.Sound.{apart}
use Rattle.openapi_tables.specs.Tables.{final_tables}
use Rattle.openapi_tables.specs.Tree.{Entry, an_object, members_list, members_of, of_members}
use Rattle.openapi_tables.proofs.DistinctLaws.{Differ}
use Rattle.openapi_tables.proofs.FaultLaws.{askeds, judged, own_judged, rows_at_tag, seen_members}
use Rattle.openapi_tables.proofs.ListLaws.{Each, Each-only, each_under, every_each}
use Rattle.openapi_tables.proofs.ListLaws.{same_text-refl, same_text_eq}
use Rattle.openapi_tables.proofs.ReadLaws.{form-fields, slot_in}
use Rattle.openapi_tables.proofs.RowLaws.{TakesAll, apart_takes}
use Rattle.openapi_tables.proofs.TreeLaws.{of_members-of}
use Rattle.openapi_tables.proofs.WellMade.{final_sound}
use Rattle.openapi_tables.proofs.Writes.{object_conforms}
use Rattle.openapi_faults.specs.Dropped.{dropped_at, dropped_in, is_tag, is_taken, tag_of_table}
use Rattle.openapi_faults.specs.Dropped.{takes_second, why_lost}
use Rattle.openapi_faults.specs.Laws.{dropped_places}
use Rattle.openapi_faults.specs.Without.{inside, without}
use Rattle.openapi_faults.specs.declared.dropped.DropReason.TheVariants.{SecondOfTwo, UnknownMember}
use Rattle.openapi_faults.proofs.DropPlaces.{places}
use Rattle.openapi_faults.proofs.Gather.{gather_join}
use Rattle.openapi_faults.proofs.Locations.{left, left_first, members_left, own_left, stays}
use Rattle.openapi_faults.proofs.Picked.{dropping, other_rows}
use Rattle.openapi_faults.proofs.Once.{case_apart}
use Rattle.openapi_faults.proofs.Trimmed.{Alike, below_none, rows_fine}
use Rattle.openapi_faults.proofs.Trimmed.{slots_fine}
use Rattle.openapi_faults.proofs.IgnoredRows.{Good, ValuesIgnore, gone_is, inside_is, stays_at, unchanged}
use Rattle.openapi_faults.proofs.IgnoredTables.{table_fine, table_good, table_keeps, table_members, table_parts, table_rest, table_seen, table_still}
use Rattle.openapi_faults.proofs.IgnoredValues.{no_reason, only_here}

pub leaf_none : (ws : List (List ℕ)) (t : Tree) → dropped_in (one_of ws) t ≡ []
leaf_none ws (object ms) = only_here (members_list (members_of (trees (of_members (root_asks final_tables) ms))))
leaf_none ws null = refl
leaf_none ws (flag b) = refl
leaf_none ws (whole z) = refl
leaf_none ws (text s) = refl
leaf_none ws (list ts) = refl

pub case_tag : (n : List ℕ) (cs : List Case) (s : List ℕ) → every (λ (c : Case). is_tag (tag_of_table c.table) n) cs ≡ true
    → is_case cs s ≡ true → is_tag (tag_of_table (tag_table cs s)) n ≡ true
case_tag n [] s h e = cc
case_tag n (c ∷ cs) s h e =
    let p = and_parts (is_tag (tag_of_table c.table) n) (every (λ (x : Case). is_tag (tag_of_table x.table) n) cs) h in
    go (same_text c.word s) e p.0 (λ r. case_tag n cs s p.1 r)
  where
    go : (b : Bool) → (b || is_case cs s) ≡ true → is_tag (tag_of_table c.table) n ≡ true
        → (is_case cs s ≡ true → is_tag (tag_of_table (tag_table cs s)) n ≡ true)
        → is_tag (tag_of_table (cond b c.table (tag_table cs s))) n ≡ true
    go true e q f = q
    go false e q f = f e

pub none_taken : (v : Row) (ws : List Row) (n : List ℕ) → Each (λ w. apart v w ≡ true) ws → takes v n ≡ true → is_taken ws n ≡ false
none_taken v [] n a t = refl
none_taken v (w ∷ ws) n a t = ap (λ b. b || is_taken ws n) (apart_takes v w n a.0 t) ∙ none_taken v ws n a.1 t

module _ (n : List ℕ) (cs : List Case) (o : Good (tagged n cs)) where
  pub own_tag_none : (l : List (Entry Tree)) → dropping (asks_own (row n required (one_of (words cs))) (askeds final_tables l)) ≡ []
  own_tag_none [] = refl
  own_tag_none (e ∷ l) = below_none (named e.name) (one_of (words cs)) e.value (leaf_none (words cs) e.value)

  pub tag_drops : (es : List (Entry Tree)) → dropped_in (tagged n cs) (object (members_of es))
      ≡ dropping (asks_tag final_tables n cs (askeds final_tables es) (tag_choice cs (held n es)))
  tag_drops es =
      ap (λ l. join l (dropping (asks_inner final_tables (tagged n cs) (of_members (root_asks final_tables) (members_of es)))))
      (no_reason (members_list (members_of (trees (of_members (root_asks final_tables) (members_of es))))))
      ∙ ap (λ l. dropping (asks_inner final_tables (tagged n cs) l)) (of_members-of (root_asks final_tables) es)
      ∙ gather_join dropped_at (asks_own (row n required (one_of (words cs))) (own (constant n []) (askeds final_tables es)))
      (asks_tag final_tables n cs (askeds final_tables es) (tag_choice cs (held n (trees (askeds final_tables es)))))
      ∙ ap (λ l. join l (dropping (asks_tag final_tables n cs (askeds final_tables es) (tag_choice cs (held n (trees (askeds final_tables es)))))))
      (ap (λ l. dropping (asks_own (row n required (one_of (words cs))) l)) (own_judged (root_asks final_tables) (constant n []) es)
      ∙ own_tag_none (own (constant n []) es))
      ∙ ap (λ l. dropping (asks_tag final_tables n cs (askeds final_tables es) (tag_choice cs (held n l)))) (seen_members (root_asks final_tables) es)

  module _ (es : List (Entry Tree)) (d : Differ es) (v : ValuesIgnore es) where
    -- if the tag selects no table, nothing is dropped
    pub untagged : tag_choice cs (held n es) ≡ None → dropped_in (tagged n cs) (object (members_of es)) ≡ []
    untagged h = tag_drops es ∙ ap (λ c. dropping (asks_tag final_tables n cs (askeds final_tables es) c)) h

    module _ (s : List ℕ) (is : held n es ≡ text s) (known : is_case cs s ≡ true) where
      pub chosen : (l : List (Entry Tree)) → held n l ≡ text s → tag_choice cs (held n l) ≡ Some (tag s)
      chosen l h = ap (tag_choice cs) h ∙ ap (λ b. cond b (Some (tag s)) None) known

      pub as_table : (l : List (Entry Tree)) → held n l ≡ text s
          → dropped_in (tagged n cs) (object (members_of l)) ≡ dropped_in (by (tag_table cs s)) (object (members_of l))
      as_table l h =
          tag_drops l ∙ ap (λ c. dropping (asks_tag final_tables n cs (askeds final_tables l) c)) (chosen l h)
          ∙ ap (λ x. dropping (here (by (tag_table cs s)) (an_object x) ∷ asks_rows x (checked_rows final_tables (by (tag_table cs s)) plain)))
          (sym (of_members-of (root_asks final_tables) l))

      abbrev pub tag_gone : List Place
      tag_gone = dropped_places (by (tag_table cs s)) (object (members_of es))

      pub away : Each (λ w. apart (constant n []) w ≡ true) (final_tables (tag_table cs s))
      away = every_each (apart (constant n [])) (final_tables (tag_table cs s)) (case_apart final_tables final_sound n cs s o.0 known)

      pub tag_kept : (e : Entry Tree) → takes (constant n []) e.name ≡ true → stays (dropped_places (by (tag_table cs s)) (object (members_of es))) e ≡ true
      tag_kept e t =
          let i = tag_table cs s in
          let rows = asks_rows (askeds final_tables es) (final_tables i) in
          let g = gone_is (by i) (final_tables i) (why_lost i) (table_seen i) (table_parts i).0 (table_good i) (table_keeps i) (table_still i) es d v in
          let why : why_lost i es e.name ≡ None =
          ap (λ b. cond b (cond (list_any (takes_second es e.name) (final_tables i)) (Some SecondOfTwo) None)
          (cond (is_tag (tag_of_table i) e.name) None (Some UnknownMember))) (none_taken (constant n []) (final_tables i) e.name away t)
          ∙ ap (λ b. cond b None (Some UnknownMember))
          (subst (λ m. is_tag (tag_of_table i) m ≡ true) (same_text_eq n e.name t) (case_tag n cs s o.1 known)) in
          stays_at (why_lost i es) es rows tag_gone g e []
          (inside_is (why_lost i es) es rows tag_gone g e why
          ∙ other_rows es (final_tables i) e.name (each_under (λ w (a : apart (constant n []) w ≡ true). apart_takes (constant n []) w e.name a t) (final_tables i) away))
          refl

      pub tag_first : (l : List (Entry Tree)) → TakesAll (constant n []) l → first_tree l ≡ text s
          → first_tree (left (dropped_places (by (tag_table cs s)) (object (members_of es))) l) ≡ text s
      tag_first [] t h = cc
      tag_first (e ∷ l) t h =
          ap first_tree (left_first tag_gone e l (tag_kept e t.0)) ∙ ap (without (inside (named e.name) tag_gone)) h

      pub still_tagged : held n (left (dropped_places (by (tag_table cs s)) (object (members_of es))) es) ≡ text s
      still_tagged =
          ap first_tree (own_left tag_gone (constant n []) es)
          ∙ tag_first (own (constant n []) es) (Each-only (λ (e : Entry Tree). takes (constant n []) e.name) es) is

      pub tag_holds : (l : List (Entry Tree)) → held n l ≡ text s → row_holds (judged final_tables l) (constant n s) ≡ true
      tag_holds l h = ap (constant_holds s) (own_judged (root_conforms final_tables) (constant n s) l) ∙ go (own (constant n s) l) h
        where
          go : (l : List (Entry Tree)) → first_tree l ≡ text s → constant_holds s (judged final_tables l) ≡ true
          go [] h = cc
          go (e ∷ l) h = ap (is_text s) h ∙ same_text-refl s

      pub tag_verdict : (l : List (Entry Tree)) → held n l ≡ text s → conforms final_tables (tagged n cs) (object (members_of l))
          ≡ every (row_holds (judged final_tables l)) (final_tables (tag_table cs s))
      unfolding checked_rows
      tag_verdict l h =
          object_conforms final_tables (tagged n cs) l ∙ ap (chosen_holds final_tables (tagged n cs) (judged final_tables l)) (chosen l h)
          ∙ ap (λ ws. row_holds (judged final_tables l) (constant n s) && every (row_holds (judged final_tables l)) ws)
          (rows_at_tag final_tables cs s known)
          ∙ ap (λ b. b && every (row_holds (judged final_tables l)) (final_tables (tag_table cs s))) (tag_holds l h)

      pub tagged_alike : Alike (tagged n cs) (object (members_of es))
          (object (members_of (left (dropped_places (by (tag_table cs s)) (object (members_of es))) es)))
      unfolding rows_of checked_rows
      tagged_alike =
          let i = tag_table cs s in
          let ds = left tag_gone es in
          let f = table_fine i es d v in
          let rows : case_rows final_tables cs s ≡ final_tables i = rows_at_tag final_tables cs s known in
          record {
            read = form-fields final_tables (tagged n cs) (tag s) ds (chosen ds still_tagged)
                ∙ ap (λ ws. fields (tag s) (forms_of (each (slot_in final_tables ds) (constant n s ∷ ws)))) rows
                ∙ ap (λ l. fields (tag s) (forms_of l)) (slots_fine tag_gone es (constant n s ∷ final_tables i) (tt, f))
                ∙ ap (λ ws. fields (tag s) (forms_of (each (slot_in final_tables es) (constant n s ∷ ws)))) (sym rows)
                ∙ sym (form-fields final_tables (tagged n cs) (tag s) es (chosen es is));
            verdict = tag_verdict ds still_tagged ∙ rows_fine tag_gone es (final_tables i) (table_members i) f ∙ sym (tag_verdict es is);
            rest = as_table ds still_tagged ∙ table_rest i es d v;
            plain = λ h. cc;
          }

    pub no_tag : tag_choice cs (held n es) ≡ None
        → Alike (tagged n cs) (object (members_of es)) (object (members_of (left (dropped_places (tagged n cs) (object (members_of es))) es)))
    no_tag q =
        subst (λ m. Alike (tagged n cs) (object (members_of es)) (object m))
        (members_left (dropped_places (tagged n cs) (object (members_of es))) es)
        (unchanged (tagged n cs) (object (members_of es)) (untagged q))

    pub tag_alike : (c : Option Choice) → tag_choice cs (held n es) ≡ c
        → Alike (tagged n cs) (object (members_of es)) (object (members_of (left (dropped_places (tagged n cs) (object (members_of es))) es)))
    tag_alike None q = no_tag q
    tag_alike (Some c) q = at_value (held n es) refl q
      where
        at_text : (s : List ℕ) → held n es ≡ text s → (b : Bool) → is_case cs s ≡ b
            → Alike (tagged n cs) (object (members_of es)) (object (members_of (left (dropped_places (tagged n cs) (object (members_of es))) es)))
        at_text s h true e =
            subst (λ l. Alike (tagged n cs) (object (members_of es)) (object (members_of (left (places l) es)))) (sym (as_table s h e es h))
            (tagged_alike s h e)
        at_text s h false e = no_tag (ap (tag_choice cs) h ∙ ap (λ b. cond b (Some (tag s)) None) e)

        at_value : (t : Tree) → held n es ≡ t → tag_choice cs t ≡ Some c
            → Alike (tagged n cs) (object (members_of es)) (object (members_of (left (dropped_places (tagged n cs) (object (members_of es))) es)))
        at_value (text s) h e = at_text s h (is_case cs s) refl
        at_value null h e = cc
        at_value (flag b) h e = cc
        at_value (whole z) h e = cc
        at_value (list ts) h e = cc
        at_value (object ms) h e = cc
