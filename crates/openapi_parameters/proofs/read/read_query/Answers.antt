use Rattle.std.proofs.Common.{refl, rules, [], ◌∷◌}
use Rattle.std.proofs.lemmas.Result.{err_from_is_err_and}
use Rattle.openapi_node.specs.Tree.{members_of}
use Rattle.openapi_tables.specs.Kind.{query_parameter}
use Rattle.openapi_tables.specs.Tables.{final_tables, tables_with}
use Rattle.openapi_fields.specs.Forms.{flag_form, optional_form}
use Rattle.openapi_values.specs.Words.{word_form, query_style_word}
use Rattle.openapi_parameters.proofs.SharedRows.{data_refused, data_reads}
use Rattle.openapi_parameters.proofs.read.read_query.Goals as goal

pub returns-in_err-from_members : goal.returns-in_err-from_members
unfolding final_tables tables_with
returns-in_err-from_members c =
    let p = err_from_is_err_and c.from_residual-in_err-from_members.result c.from_residual-in_err-from_members.ensures.1 in
    rw (p.1, p.2) (data_refused query_parameter refl _ _ c.in_err-from_members.ensures.reads (search rules))

pub returns-in_err-allow_reserved : goal.returns-in_err-allow_reserved
unfolding final_tables tables_with
returns-in_err-allow_reserved c =
    record { reads = search rules; word = search rules; count = search rules }

pub returns-in_err-style : goal.returns-in_err-style
unfolding final_tables tables_with
returns-in_err-style c =
    record { reads = search rules; word = search rules; count = search rules }

pub returns-in_err-allow_empty_value : goal.returns-in_err-allow_empty_value
unfolding final_tables tables_with
returns-in_err-allow_empty_value c =
    record { reads = search rules; word = search rules; count = search rules }

pub returns : goal.returns
unfolding final_tables tables_with
returns c =
    record {
      reads = data_reads query_parameter refl (members_of c.args.members.now) c.in_ok-from_members.field-0
          (flag_form c.in_ok-allow_reserved.allow_reserved ∷ word_form query_style_word c.in_ok-style.style
          ∷ optional_form flag_form c.in_ok-allow_empty_value.allow_empty_value ∷ []) c.in_ok-from_members.ensures.reads (
            c.in_ok-allow_reserved.ensures.reads,
            (c.in_ok-style.ensures.reads, (c.in_ok-allow_empty_value.ensures.reads, tt)),
          );
      word = refl;
      count = search rules;
    }
