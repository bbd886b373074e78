use Rattle.std.proofs.Common.{refl}
use Rattle.openapi_node.specs.Tree.{members_of}
use Rattle.openapi_tables.specs.Prelude.{by, schema_or_content, final_tables, tables_with}
use Rattle.openapi_media_types.proofs.Opened.{only_format}
use Rattle.openapi_media_types.proofs.format.ParameterSchemaOrContentRecord.from_members.Goals as goal

pub returns-clause-reads : goal.returns-clause-reads
unfolding final_tables tables_with
returns-clause-reads c =
    only_format c.read_format.result (members_of c.args.members.now)
    (c.read_format.ensures.reads schema_or_content refl)
