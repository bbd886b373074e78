-- Without its dropped members a value is read as before, and nothing more is dropped.
use Rattle.std.proofs.Common.{◌≡◌, true}
use Rattle.std.proofs.Common.{refl, sym, ap, ◌∙◌, subst}
use Rattle.std.proofs.lemmas.Bool.{and_parts}
use Rattle.openapi_node.specs.Tree.{Tree, list, object, Members}
use Rattle.openapi_tables.specs.Conforms.{conforms}
use Rattle.openapi_tables.specs.Faults.{root_asks}
use Rattle.openapi_tables.specs.Form.{an_item}
use Rattle.openapi_tables.specs.Kind.{Kind, a_schema, a_schema_kind, by}
use Rattle.openapi_tables.specs.Kind.{flag_or_schema, list_of, map_of, ref_to}
use Rattle.openapi_tables.specs.Kind.{tagged}
use Rattle.openapi_tables.specs.Lists.{join}
use Rattle.openapi_tables.specs.Members.{held}
use Rattle.openapi_tables.specs.Members.{trees}
use Rattle.openapi_tables.specs.Members.{tag_choice}
use Rattle.openapi_tables.specs.Read.{form}
use Rattle.openapi_tables.specs.Sound.{sound, under_ref}
use Rattle.openapi_tables.specs.Tables.{final_tables}
use Rattle.openapi_tables.specs.Tree.{members_list, members_of, of_members}
use Rattle.openapi_tables.proofs.Taken.{ref_text}
use Rattle.openapi_tables.proofs.TreeLaws.{Inside, members_of-list}
use Rattle.openapi_faults.specs.Dropped.{dropped_in}
use Rattle.openapi_faults.specs.Laws.{DroppedIgnored, dropped_places}
use Rattle.openapi_faults.specs.Meaning.{kind_of}
use Rattle.openapi_faults.specs.Without.{members_without, without}
use Rattle.openapi_faults.specs.declared.kind.Kind as declared
use Rattle.openapi_faults.specs.declared.kind.Kind.TheVariants as d
use Rattle.openapi_faults.proofs.DropPlaces.{places}
use Rattle.openapi_faults.proofs.Locations.{members_left}
use Rattle.openapi_faults.proofs.NamedTrees.{NamesDiffer, by_named_trees}
use Rattle.openapi_faults.proofs.SoundKinds.{kind_sound}
use Rattle.openapi_faults.proofs.Trimmed.{Alike}
use Rattle.openapi_faults.proofs.IgnoredRows.{Good, Ignores, as_object, tags_known, unchanged}
use Rattle.openapi_faults.proofs.IgnoredTables.{table_alike}
use Rattle.openapi_faults.proofs.IgnoredSchemas.{schema_alike, schema_kind_alike}
use Rattle.openapi_faults.proofs.IgnoredValues.{list_alike, map_alike, no_reason, only_here}
use Rattle.openapi_faults.proofs.IgnoredReferences.{object_ref}
use Rattle.openapi_faults.proofs.IgnoredTags.{tag_alike}

-- a node that is no object
abbrev pub NotObject : Tree → Type 0
NotObject (object ms) = ⊥
NotObject t = Unit {0}

pub other_read : (k : Kind) (t : Tree) → NotObject t → form final_tables (ref_to k) t ≡ an_item (form final_tables k t)
other_read k (object ms) h = absurd h
other_read k t h = refl

pub other_verdict : (k : Kind) (t : Tree) → NotObject t → conforms final_tables (ref_to k) t ≡ conforms final_tables k t
other_verdict k (object ms) h = absurd h
other_verdict k t h = refl

pub other_drops : (k : Kind) (t : Tree) → NotObject t → dropped_in (ref_to k) t ≡ dropped_in k t
other_drops k (object ms) h = absurd h
other_drops k t h = refl

pub ref_other : (k : Kind) (t u : Tree) → NotObject t → NotObject u → Alike k t u → Alike (ref_to k) t u
ref_other k t u h g a =
    record {
      read = other_read k u g ∙ ap an_item a.read ∙ sym (other_read k t h);
      verdict = other_verdict k u g ∙ a.verdict ∙ sym (other_verdict k t h);
      rest = other_drops k u g ∙ a.rest;
      plain = λ x. cc;
    }

pub ignores : (k : Kind) (t : Tree) → Inside Ignores t → NamesDiffer t → Good k → Alike k t (without (dropped_places k t) t)
ignores (list_of k) (list ts) v d o = list_alike k o ts v
ignores (map_of k) (object ms) v d o = as_object (map_of k) ms (map_alike k o (members_list ms) d v)
ignores (by i) (object ms) v d o = as_object (by i) ms (table_alike i (members_list ms) d v)
ignores a_schema (object ms) v d o = as_object a_schema ms (schema_alike (members_list ms) d v)
ignores a_schema_kind (object ms) v d o = as_object a_schema_kind ms (schema_kind_alike (members_list ms) d v)
ignores (tagged n cs) (object ms) v d o =
    as_object (tagged n cs) ms (tag_alike n cs o (members_list ms) d v (tag_choice cs (held n (members_list ms))) refl)
ignores flag_or_schema (object ms) v d o = flagged_alike ms (as_object (ref_to a_schema) ms
    (object_ref a_schema (members_list ms) d (schema_alike (members_list ms) d v) (ref_text (object (members_of (members_list ms)))) refl))
  where
    flagged_alike : (ms : Members) → Alike (ref_to a_schema) (object ms) (without (dropped_places (ref_to a_schema) (object ms)) (object ms))
        → Alike flag_or_schema (object ms) (without (dropped_places flag_or_schema (object ms)) (object ms))
    flagged_alike ms a =
        subst (λ l. Alike flag_or_schema (object ms) (without (places l) (object ms))) (sym (same ms))
        (record { read = a.read; verdict = a.verdict; rest = same (members_without (dropped_places (ref_to a_schema) (object ms)) ms) ∙ a.rest; plain = λ h. cc })
      where
        same : (m : Members) → dropped_in flag_or_schema (object m) ≡ dropped_in (ref_to a_schema) (object m)
        same m =
            ap (λ l. join l (dropped_in (ref_to a_schema) (object m)))
            (no_reason (members_list (members_of (trees (of_members (root_asks final_tables) m)))))
ignores (ref_to k) (object ms) v d o =
    let es = members_list ms in
    let inner = ignores k (object ms) v d ((and_parts (under_ref final_tables k) (sound final_tables k) o.0).1, o.1) in
    as_object (ref_to k) ms
    (object_ref k es d
    (subst (λ m. Alike k (object (members_of es)) (object m)) (members_left (dropped_places k (object (members_of es))) es)
    (subst (λ m. Alike k (object m) (without (dropped_places k (object m)) (object m))) (sym (members_of-list ms)) inner))
    (ref_text (object (members_of es))) refl)
ignores (ref_to k) t v d o =
    ref_other k t (without (dropped_places k t) t) tt tt
    (ignores k t v d ((and_parts (under_ref final_tables k) (sound final_tables k) o.0).1, o.1))
ignores k (object ms) v d o =
    unchanged k (object ms) (only_here (members_list (members_of (trees (of_members (root_asks final_tables) ms)))))
ignores k t v d o = unchanged k t refl

pub kind_known : (j : declared.Kind) → tags_known (kind_of j) ≡ true
kind_known d.Text = refl
kind_known j = refl

pub dropped_ignored : DroppedIgnored
dropped_ignored k t h =
    let a = by_named_trees Ignores (λ u v d j o. ignores j u v d o) t h (kind_of k) (kind_sound k, kind_known k) in
    record { read = a.read; verdict = a.verdict; rest = a.rest }
