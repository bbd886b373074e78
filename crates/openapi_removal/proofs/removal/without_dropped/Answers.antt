use Rattle.std.proofs.Common.{◌≡◌, true, Some, map, sym, ap, subst, ◌∙◌}
use Rattle.openapi_node.specs.Named.{well_named}
use Rattle.openapi_json.specs.Ordered.{tree_of}
use Rattle.openapi_tables.specs.Kind.{by, open_api}
use Rattle.openapi_tables.specs.Lists.{each}
use Rattle.openapi_faults.specs.Dropped.{dropped_in, dropped_of}
use Rattle.openapi_faults.specs.Laws.{CountsForNothing, dropped_places}
use Rattle.openapi_faults.specs.declared.kind.Kind.TheVariants.{Object}
use Rattle.openapi_faults.specs.declared.table.TableName.TheVariants.{OpenAPI}
use Rattle.openapi_removal.specs.Cleaned.{places_in}
use Rattle.openapi_removal.specs.Without.{json_without}
use Rattle.openapi_removal.proofs.Reported.{places_reported}
use Rattle.openapi_removal.proofs.Trees.{tree_without}
use Rattle.openapi_removal.proofs.removal.without_dropped.Goals as goal

pub returns-clause-ok : goal.returns-clause-ok
returns-clause-ok c =
    let node = c.in_ok-node.ensures.ok in
    let j = node.value in
    let t = tree_of j in
    let ds = c.in_ok-dropped.dropped.items in
    let gone = dropped_places (by open_api) t in
    let dropped : map dropped_of ds ≡ dropped_in (by open_api) t = c.in_ok-dropped.ensures.dropped ∙ ap (dropped_in (by open_api)) node.tree in
    let places : places_in ds ≡ gone = places_reported ds ∙ ap (each (λ d. d.0)) dropped in
    let named : well_named t ≡ true = ap well_named (sym node.tree) ∙ c.names_differ.ensures in
    record {
      utf8 = node.utf8;
      value = j;
      reads = node.reads;
      dropped = dropped;
      text = c.in_ok-text.ensures.text j node.reads ∙ ap (λ ps. Some (json_without ps j)) (ap places_in c.as_slice.ensures.value ∙ places);
      cut = c.in_ok-text.ensures.cut;
      ignored = subst (CountsForNothing (by open_api) t) (sym (tree_without gone j)) (c.dropped_ignored.ensures (Object OpenAPI) t named);
      unchanged = λ none. c.in_ok-text.ensures.unchanged (c.as_slice.ensures.value ∙ none);
    }
