use Rattle.openapi_node.specs.Tree.{members_of}
use Rattle.openapi_tables.specs.Kind.{any_schema, by}
use Rattle.openapi_tables.specs.Tables.{final_tables, tables_with, any_rows}
use Rattle.openapi_fields.proofs.Joining.{row_first, row_joined}
use Rattle.openapi_schema.proofs.OwnRows.{any_read}
use Rattle.openapi_schema.proofs.any_schema.AnySchemaRecord.from_members.Goals as goal

pub returns-in-Ok-from_joined-clause-reads : goal.returns-in-Ok-from_joined-clause-reads
unfolding final_tables tables_with any_rows
returns-in-Ok-from_joined-clause-reads c =
    let k = by any_schema in
    let ms = members_of c.args.members.now in
    let one = row_first _ _ k _ ms c.optional.ensures.reads in
    let two = row_joined _ _ _ _ _ k _ _ ms c.from_joined-join.ensures one c.optional-2.ensures.reads in
    let three = row_joined _ _ _ _ _ k _ _ ms c.from_joined-join-2.ensures two c.optional-3.ensures.reads in
    let four = row_joined _ _ _ _ _ k _ _ ms c.from_joined-join-3.ensures three c.optional-4.ensures.reads in
    let five = row_joined _ _ _ _ _ k _ _ ms c.from_joined-join-4.ensures four c.optional-5.ensures.reads in
    let six = row_joined _ _ _ _ _ k _ _ ms c.from_joined-join-5.ensures five c.optional-6.ensures.reads in
    let seven = row_joined _ _ _ _ _ k _ _ ms c.from_joined-join-6.ensures six c.optional-7.ensures.reads in
    let eight = row_joined _ _ _ _ _ k _ _ ms c.from_joined-join-7.ensures seven c.optional-8.ensures.reads in
    let nine = row_joined _ _ _ _ _ k _ _ ms c.from_joined-join-8.ensures eight c.optional-9.ensures.reads in
    let ten = row_joined _ _ _ _ _ k _ _ ms c.from_joined-join-9.ensures nine c.optional-10.ensures.reads in
    let eleven = row_joined _ _ _ _ _ k _ _ ms c.from_joined-join-10.ensures ten c.optional-11.ensures.reads in
    let twelve = row_joined _ _ _ _ _ k _ _ ms c.from_joined-join-11.ensures eleven c.optional-12.ensures.reads in
    let thirteen = row_joined _ _ _ _ _ k _ _ ms c.from_joined-join-12.ensures twelve c.optional-13.ensures.reads in
    let fourteen = row_joined _ _ _ _ _ k _ _ ms c.from_joined-join-13.ensures thirteen c.optional-14.ensures.reads in
    let fifteen = row_joined _ _ _ _ _ k _ _ ms c.from_joined-join-14.ensures fourteen c.optional-15.ensures.reads in
    let sixteen = row_joined _ _ _ _ _ k _ _ ms c.from_joined-join-15.ensures fifteen c.or_implied.ensures.reads in
    let seventeen = row_joined _ _ _ _ _ k _ _ ms c.from_joined-join-16.ensures sixteen c.or_implied-2.ensures.reads in
    let eighteen = row_joined _ _ _ _ _ k _ _ ms c.from_joined-join-17.ensures seventeen c.optional-16.ensures.reads in
    let nineteen = row_joined _ _ _ _ _ k _ _ ms c.from_joined-join-18.ensures eighteen c.optional-17.ensures.reads in
    let twenty = row_joined _ _ _ _ _ k _ _ ms c.from_joined-join-19.ensures nineteen c.optional-18.ensures.reads in
    let twenty_one = row_joined _ _ _ _ _ k _ _ ms c.from_joined-join-20.ensures twenty c.or_implied-3.ensures.reads in
    let twenty_two = row_joined _ _ _ _ _ k _ _ ms c.from_joined-join-21.ensures twenty_one c.or_implied-4.ensures.reads in
    let twenty_three = row_joined _ _ _ _ _ k _ _ ms c.from_joined-join-22.ensures twenty_two c.or_implied-5.ensures.reads in
    let twenty_four = row_joined _ _ _ _ _ k _ _ ms c.from_joined-join-23.ensures twenty_three c.or_implied-6.ensures.reads in
    let all = rw c.in-Ok-from_joined.is at twenty_four in
    any_read _ ms (all.1.1.1.1.1.1.1.1.1.1.1.1.1.1.1.1.1.1.1.1.1.1.1.0, (all.1.1.1.1.1.1.1.1.1.1.1.1.1.1.1.1.1.1.1.1.1.1.0, (all.1.1.1.1.1.1.1.1.1.1.1.1.1.1.1.1.1.1.1.1.0, (all.1.1.1.1.1.1.1.1.1.1.1.1.1.1.1.1.1.1.1.0, (all.1.1.1.1.1.1.1.1.1.1.1.1.1.1.1.1.1.1.0, (all.1.1.1.1.1.1.1.1.1.1.1.1.1.1.1.1.1.0, (all.1.1.1.1.1.1.1.1.1.1.1.1.1.1.1.1.0, (all.0, (all.1.1.1.1.1.1.1.1.0, (all.1.1.1.1.1.1.0, (all.1.1.1.1.1.1.1.1.1.1.1.1.1.1.1.0, (all.1.1.1.1.1.1.1.1.1.1.1.1.1.1.0, (all.1.1.1.1.0, (all.1.1.1.1.1.1.1.1.1.1.1.1.1.0, (all.1.1.1.1.1.1.1.1.1.1.1.1.0, (all.1.1.1.1.1.1.1.1.1.1.1.0, (all.1.1.1.1.1.1.1.0, (all.1.1.1.1.1.1.1.1.1.1.1.1.1.1.1.1.1.1.1.1.1.0, (all.1.1.1.1.1.1.1.1.1.1.0, (all.1.1.1.1.1.1.1.1.1.0, (all.1.1.1.0, (all.1.1.0, (all.1.0, (all.1.1.1.1.1.0, tt))))))))))))))))))))))))

pub returns-in-Err-from_joined-clause-reads : goal.returns-in-Err-from_joined-clause-reads
unfolding final_tables tables_with any_rows
returns-in-Err-from_joined-clause-reads c =
    let k = by any_schema in
    let ms = members_of c.args.members.now in
    let one = row_first _ _ k _ ms c.optional.ensures.reads in
    let two = row_joined _ _ _ _ _ k _ _ ms c.from_joined-join.ensures one c.optional-2.ensures.reads in
    let three = row_joined _ _ _ _ _ k _ _ ms c.from_joined-join-2.ensures two c.optional-3.ensures.reads in
    let four = row_joined _ _ _ _ _ k _ _ ms c.from_joined-join-3.ensures three c.optional-4.ensures.reads in
    let five = row_joined _ _ _ _ _ k _ _ ms c.from_joined-join-4.ensures four c.optional-5.ensures.reads in
    let six = row_joined _ _ _ _ _ k _ _ ms c.from_joined-join-5.ensures five c.optional-6.ensures.reads in
    let seven = row_joined _ _ _ _ _ k _ _ ms c.from_joined-join-6.ensures six c.optional-7.ensures.reads in
    let eight = row_joined _ _ _ _ _ k _ _ ms c.from_joined-join-7.ensures seven c.optional-8.ensures.reads in
    let nine = row_joined _ _ _ _ _ k _ _ ms c.from_joined-join-8.ensures eight c.optional-9.ensures.reads in
    let ten = row_joined _ _ _ _ _ k _ _ ms c.from_joined-join-9.ensures nine c.optional-10.ensures.reads in
    let eleven = row_joined _ _ _ _ _ k _ _ ms c.from_joined-join-10.ensures ten c.optional-11.ensures.reads in
    let twelve = row_joined _ _ _ _ _ k _ _ ms c.from_joined-join-11.ensures eleven c.optional-12.ensures.reads in
    let thirteen = row_joined _ _ _ _ _ k _ _ ms c.from_joined-join-12.ensures twelve c.optional-13.ensures.reads in
    let fourteen = row_joined _ _ _ _ _ k _ _ ms c.from_joined-join-13.ensures thirteen c.optional-14.ensures.reads in
    let fifteen = row_joined _ _ _ _ _ k _ _ ms c.from_joined-join-14.ensures fourteen c.optional-15.ensures.reads in
    let sixteen = row_joined _ _ _ _ _ k _ _ ms c.from_joined-join-15.ensures fifteen c.or_implied.ensures.reads in
    let seventeen = row_joined _ _ _ _ _ k _ _ ms c.from_joined-join-16.ensures sixteen c.or_implied-2.ensures.reads in
    let eighteen = row_joined _ _ _ _ _ k _ _ ms c.from_joined-join-17.ensures seventeen c.optional-16.ensures.reads in
    let nineteen = row_joined _ _ _ _ _ k _ _ ms c.from_joined-join-18.ensures eighteen c.optional-17.ensures.reads in
    let twenty = row_joined _ _ _ _ _ k _ _ ms c.from_joined-join-19.ensures nineteen c.optional-18.ensures.reads in
    let twenty_one = row_joined _ _ _ _ _ k _ _ ms c.from_joined-join-20.ensures twenty c.or_implied-3.ensures.reads in
    let twenty_two = row_joined _ _ _ _ _ k _ _ ms c.from_joined-join-21.ensures twenty_one c.or_implied-4.ensures.reads in
    let twenty_three = row_joined _ _ _ _ _ k _ _ ms c.from_joined-join-22.ensures twenty_two c.or_implied-5.ensures.reads in
    let twenty_four = row_joined _ _ _ _ _ k _ _ ms c.from_joined-join-23.ensures twenty_three c.or_implied-6.ensures.reads in
    rw c.in-Err-from_joined.is at twenty_four
