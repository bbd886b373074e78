use Rattle.std.proofs.Common.{◌∙◌, Some, Ok, Err, ap, sym, codes}
use Rattle.std.proofs.lemmas.Result.{err_from_is_err_and}
use Rattle.openapi_tables.specs.Prelude.{absent, constant}
use Rattle.openapi_parameters.proofs.SharedSlots.{data_loses, data_new, data_put, of_data}
use Rattle.openapi_parameters.proofs.write.put_shared.Goals as goal

pub put_tag-requires-clause-slot : goal.put_tag-requires-clause-slot
put_tag-requires-clause-slot c =
    ap (λ w. Some (constant (codes "in") w, absent)) (sym (c.as_str.ensures ∙ c.location.ensures))

pub returns-in_err-record_rows-clause-err : goal.returns-in_err-record_rows-clause-err
returns-in_err-record_rows-clause-err c =
    let x = c.args.value.now in
    let f = c.in_err-record_rows.field-0.0 in
    let p = err_from_is_err_and c.from_residual-in_err-record_rows.result c.from_residual-in_err-record_rows.ensures.1 in
    rw (p.1, p.2) (data_loses x f (of_data x c.parameter_data_ref.result.now c.parameter_data_ref.ensures (Err f)
    c.in_err-record_rows.ensures))

pub append-requires : goal.append-requires
append-requires c =
    let x = c.args.value.now in
    let more = c.in_ok-record_rows.field-0 in
    data_new x c.put_tag.new.out more c.in_ok-put_tag.ensures.ok
    (of_data x c.parameter_data_ref.result.now c.parameter_data_ref.ensures (Ok more) c.in_ok-record_rows.ensures)

pub returns-clause-ok : goal.returns-clause-ok
returns-clause-ok c =
    let x = c.args.value.now in
    let more = c.in_ok-record_rows.field-0 in
    data_put x c.put_tag.new.out more c.in_ok-put_tag.ensures.ok
    (of_data x c.parameter_data_ref.result.now c.parameter_data_ref.ensures (Ok more) c.in_ok-record_rows.ensures)
    c.append.result c.append.new.out c.append.ensures.ok
