use Rattle.std.proofs.Common.{◌∷◌, ap, subst, sym, ◌∙◌}
use Rattle.openapi_node.specs.Tree.{members_of}
use Rattle.openapi_tables.specs.Prelude.{AreRows, absent, object_sort, final_tables}
use Rattle.openapi_tables.specs.Kind.{object_type}
use Rattle.openapi_schema.specs.SchemaForms.{Sorted}
use Rattle.openapi_schema.specs.TypeForms.{behind_tag, sort_word}
use Rattle.openapi_schema.proofs.OpenedForms.{object_rows-out, object_rows-type}
use Rattle.openapi_schema.proofs.schema_type.of_type.Goals as goal

pub returns-in_ok-from_members-in-Object : goal.returns-in_ok-from_members-in-Object
returns-in_ok-from_members-in-Object c =
    let x = c.in_ok-from_members-in-Object.field-0 in
    let ms = members_of c.args.members.now in
    let rows = object_rows-type x ∙ ap (λ fs. (object_sort, absent ∷ fs)) (object_rows-out x) in
    let read = c.from_members-in-Object.ensures in
    rw c.in-Object.is (record {
      reads = subst (λ (s : Sorted). AreRows final_tables (final_tables object_type) (behind_tag s.1) ms)
          (sym rows) c.in_ok-from_members-in-Object.ensures.reads;
      word = ap (λ (s : Sorted). sort_word s.0) rows;
      count = (read.rises, read.count);
    })
