use Rattle.std.proofs.Common.{refl}
use Rattle.openapi_tables.specs.Prelude.{schema_or_content, final_tables, tables_with}
use Rattle.openapi_fields.specs.Forms.{record_slots}
use Rattle.openapi_media_types.specs.Fields.{format_fields}
use Rattle.openapi_media_types.proofs.Opened.{format_held}
use Rattle.openapi_media_types.proofs.format.ParameterSchemaOrContentRecord.put_rows.Goals as goal

pub put_decided-requires-clause-slot : goal.put_decided-requires-clause-slot
unfolding final_tables tables_with
put_decided-requires-clause-slot c =
    let x = c.args.self.now in
    format_held (record_slots schema_or_content format_fields x) x c.format_name.result.now c.write_format.result refl
    c.format_name.ensures c.write_format.ensures
