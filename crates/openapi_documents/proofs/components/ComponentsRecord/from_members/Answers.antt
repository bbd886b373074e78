use Rattle.openapi_node.specs.Tree.{members_of}
use Rattle.openapi_tables.specs.Kind.{by, components}
use Rattle.openapi_tables.specs.Tables.{final_tables, tables_with}
use Rattle.openapi_fields.proofs.Joining.{row_first, row_joined}
use Rattle.openapi_documents.proofs.components.ComponentsRecord.from_members.Goals as goal

pub returns-in-Ok-from_joined-clause-reads : goal.returns-in-Ok-from_joined-clause-reads
unfolding final_tables tables_with
returns-in-Ok-from_joined-clause-reads c =
    let k = by components in
    let ms = members_of c.args.members.now in
    let one = row_first _ _ k _ ms c.or_implied.ensures.reads in
    let two = row_joined _ _ _ _ _ k _ _ ms c.from_joined-join.ensures one c.or_implied-2.ensures.reads in
    let three = row_joined _ _ _ _ _ k _ _ ms c.from_joined-join-2.ensures two c.or_implied-3.ensures.reads in
    let four = row_joined _ _ _ _ _ k _ _ ms c.from_joined-join-3.ensures three c.or_implied-4.ensures.reads in
    let five = row_joined _ _ _ _ _ k _ _ ms c.from_joined-join-4.ensures four c.or_implied-5.ensures.reads in
    let six = row_joined _ _ _ _ _ k _ _ ms c.from_joined-join-5.ensures five c.or_implied-6.ensures.reads in
    let seven = row_joined _ _ _ _ _ k _ _ ms c.from_joined-join-6.ensures six c.or_implied-7.ensures.reads in
    let eight = row_joined _ _ _ _ _ k _ _ ms c.from_joined-join-7.ensures seven c.or_implied-8.ensures.reads in
    let nine = row_joined _ _ _ _ _ k _ _ ms c.from_joined-join-8.ensures eight c.or_implied-9.ensures.reads in
    let ten = row_joined _ _ _ _ _ k _ _ ms c.from_joined-join-9.ensures nine c.extensions.ensures.reads in
    let all = rw c.in-Ok-from_joined.is at ten in
    (all.1.1.1.1.1.1.1.1.1.0, (all.1.1.1.1.1.1.1.1.0, (all.1.1.1.1.1.1.1.0, (all.1.1.1.1.1.1.0, (all.1.1.1.1.1.0, (all.1.1.1.1.0, (all.1.1.1.0, (all.1.1.0, (all.1.0, (all.0, tt))))))))))

pub returns-in-Err-from_joined-clause-reads : goal.returns-in-Err-from_joined-clause-reads
unfolding final_tables tables_with
returns-in-Err-from_joined-clause-reads c =
    let k = by components in
    let ms = members_of c.args.members.now in
    let one = row_first _ _ k _ ms c.or_implied.ensures.reads in
    let two = row_joined _ _ _ _ _ k _ _ ms c.from_joined-join.ensures one c.or_implied-2.ensures.reads in
    let three = row_joined _ _ _ _ _ k _ _ ms c.from_joined-join-2.ensures two c.or_implied-3.ensures.reads in
    let four = row_joined _ _ _ _ _ k _ _ ms c.from_joined-join-3.ensures three c.or_implied-4.ensures.reads in
    let five = row_joined _ _ _ _ _ k _ _ ms c.from_joined-join-4.ensures four c.or_implied-5.ensures.reads in
    let six = row_joined _ _ _ _ _ k _ _ ms c.from_joined-join-5.ensures five c.or_implied-6.ensures.reads in
    let seven = row_joined _ _ _ _ _ k _ _ ms c.from_joined-join-6.ensures six c.or_implied-7.ensures.reads in
    let eight = row_joined _ _ _ _ _ k _ _ ms c.from_joined-join-7.ensures seven c.or_implied-8.ensures.reads in
    let nine = row_joined _ _ _ _ _ k _ _ ms c.from_joined-join-8.ensures eight c.or_implied-9.ensures.reads in
    let ten = row_joined _ _ _ _ _ k _ _ ms c.from_joined-join-9.ensures nine c.extensions.ensures.reads in
    rw c.in-Err-from_joined.is at ten
