use Rattle.openapi_node.specs.Tree.{members_of}
use Rattle.openapi_tables.specs.Prelude.{by, path_item, final_tables, tables_with}
use Rattle.openapi_fields.proofs.Joining.{row_first, row_joined}
use Rattle.openapi_documents.proofs.Opened.{path_item_read}
use Rattle.openapi_documents.proofs.parts.path_item_with.Goals as goal

pub returns-in-Ok-clause-reads : goal.returns-in-Ok-clause-reads
unfolding final_tables tables_with
returns-in-Ok-clause-reads c =
    let k = by path_item in
    let ms = members_of c.args.members.now in
    let one = row_first _ _ k _ ms c.optional.ensures.reads in
    let two = row_joined _ _ _ _ _ k _ _ ms c.joined-join.ensures one c.optional-2.ensures.reads in
    let three = row_joined _ _ _ _ _ k _ _ ms c.joined-join-2.ensures two c.or_implied.ensures.reads in
    let four = row_joined _ _ _ _ _ k _ _ ms c.joined-join-3.ensures three c.or_implied-2.ensures.reads in
    let five = row_joined _ _ _ _ _ k _ _ ms c.joined-beside.ensures four c.extensions.ensures.reads in
    let all = rw c.in-Ok.is at five in
    let done = c.requires in
    path_item_read _ ms
    (all.1.1.1.1.0, (all.1.1.1.0, (done.0, (done.1.0, (done.1.1.0, (done.1.1.1.0, (done.1.1.1.1.0, (done.1.1.1.1.1.0, (done.1.1.1.1.1.1.0, (done.1.1.1.1.1.1.1.0, (all.1.1.0, (all.1.0, (all.0, tt)))))))))))))

pub returns-in-Err-clause-reads : goal.returns-in-Err-clause-reads
unfolding final_tables tables_with
returns-in-Err-clause-reads c =
    let k = by path_item in
    let ms = members_of c.args.members.now in
    let one = row_first _ _ k _ ms c.optional.ensures.reads in
    let two = row_joined _ _ _ _ _ k _ _ ms c.joined-join.ensures one c.optional-2.ensures.reads in
    let three = row_joined _ _ _ _ _ k _ _ ms c.joined-join-2.ensures two c.or_implied.ensures.reads in
    let four = row_joined _ _ _ _ _ k _ _ ms c.joined-join-3.ensures three c.or_implied-2.ensures.reads in
    let five = row_joined _ _ _ _ _ k _ _ ms c.joined-beside.ensures four c.extensions.ensures.reads in
    rw c.in-Err.is at five
