use Rattle.std.proofs.Common.{◌≡◌, ◌++◌, take, true}
use Rattle.openapi_tables.specs.Lists.{every}
use Rattle.openapi_fields.specs.Entries.{written_entries, all_whole}
use Rattle.openapi_fields.proofs.entries.put_entries.Given as goal

abbrev pub invariant-loop-i : goal.invariant-loop-i
invariant-loop-i g l =
    let done = take l.i l.values in
    record {
      written : l.out ≡ l.initial.out ++ written_entries g.T.FromNode.form_of g.T.FromNode.kind done;
      named : every (λ e. g.N.Names.test e.0) done ≡ true;
      whole : all_whole g.T.FromNode.form_of g.T.FromNode.kind done ≡ true;
    }
