use Rattle.std.proofs.Common.{◌≡◌, ◌++◌, map, true}
use Rattle.std.specs.Map.Iter.{deref_pair}
use Rattle.openapi_responses.proofs.CodeWriting.{members, all_kept}
use Rattle.openapi_responses.proofs.codes.put_coded.Given as goal

abbrev pub invariant-loop-code : goal.invariant-loop-code
invariant-loop-code g l =
    let done = map deref_pair l.yielded in
    record {
      written : l.out ≡ l.initial.out ++ members g.T.FromNode.form_of g.T.FromNode.kind done;
      kept : all_kept g.T.FromNode.form_of g.T.FromNode.kind done ≡ true;
    }
