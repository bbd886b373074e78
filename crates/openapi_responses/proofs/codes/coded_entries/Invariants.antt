use Rattle.std.proofs.Common.{◌≡◌, ◌+◌, ◌*◌, ◌≤◌, take, true}
use Rattle.openapi_tables.specs.Prelude.{every, final_tables, conforms, form}
use Rattle.openapi_fields.specs.Entries.{entries_size}
use Rattle.openapi_responses.specs.Codes.{coded_pairs}
use Rattle.openapi_responses.proofs.CodeReading.{statuses, gathered}
use Rattle.openapi_responses.proofs.codes.coded_entries.Given as goal

abbrev pub invariant-loop-i : goal.invariant-loop-i
invariant-loop-i g l =
    let done = statuses (take l.i l.members) in
    record {
      holds : every (λ e. conforms final_tables g.T.FromNode.kind e.1) done ≡ true;
      same : gathered (form final_tables g.T.FromNode.kind) done ≡ coded_pairs g.T.FromNode.form_of l.values.entries;
      rises : l.initial.steps ≤ l.steps;
      counted : l.steps ≤ l.initial.steps + 3 * entries_size done;
    }
