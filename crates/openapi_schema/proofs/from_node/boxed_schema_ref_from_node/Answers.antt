use Rattle.std.proofs.Common.{ap, refl, subst, arith}
use Rattle.openapi_node.specs.Tree.{size_of}
use Rattle.openapi_tables.specs.Kind.{ref_to, a_schema}
use Rattle.openapi_fields.specs.Returned.{ReadAs}
use Rattle.openapi_fields.proofs.Below.{refuses}
use Rattle.openapi_schema.specs.Reading.{ref_form, inner_box_form}
use Rattle.openapi_schema.specs.SchemaForms.{schema_form}
use Rattle.openapi_schema.proofs.from_node.boxed_schema_ref_from_node.Goals as goal

pub returns-clause-reads : goal.returns-clause-reads
returns-clause-reads c =
    c.in_inner_box.ensures schema_form (ref_to a_schema) c.args.node.now (subst (λ u. ReadAs ref_form c.read_schema_ref.result
    (ref_to a_schema) u) c.open-view.ensures.shown c.read_schema_ref.ensures.reads)

pub returns-clause-refuses : goal.returns-clause-refuses
returns-clause-refuses c =
    refuses (ref_to a_schema) c.args.node.now refl inner_box_form c.in_inner_box.result
    (c.in_inner_box.ensures schema_form (ref_to a_schema) c.args.node.now (subst (λ u. ReadAs ref_form c.read_schema_ref.result
    (ref_to a_schema) u) c.open-view.ensures.shown c.read_schema_ref.ensures.reads))

pub returns-clause-count : goal.returns-clause-count
returns-clause-count c =
    omega (arith, c.open-view.ensures.counted, ap size_of c.open-view.ensures.shown, c.read_schema_ref.ensures.count.1)
