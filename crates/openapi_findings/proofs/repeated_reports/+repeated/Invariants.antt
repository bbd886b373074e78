use Rattle.std.proofs.Common.{◌≡◌, ◌++◌, [], drop, map}
use Rattle.json.specs.Value.{items_view, members_view}
use Rattle.openapi_node.specs.Fault.{step_of}
use Rattle.openapi_findings.specs.Repeated.{repeated_in_items, repeated_in_members, stated_of_entry}
use Rattle.openapi_findings.specs.Stated.{statement_of}
use Rattle.openapi_findings.proofs.repeated_reports.+repeated.Given as goal

-- the reports so far, with those of the rest, are those of all
abbrev pub invariant-reports_in_items-loop-index : goal.invariant-reports_in_items-loop-index
invariant-reports_in_items-loop-index l =
    let p = map step_of l.initial.place.items in
    record {
      place : l.place.items ≡ l.initial.place.items;
      reports : map statement_of l.reports.items ++ repeated_in_items p l.index (items_view (drop l.index l.values.items))
          ≡ repeated_in_items p 0 (items_view l.values.items);
    }

abbrev pub invariant-reports_in_members-loop-member : goal.invariant-reports_in_members-loop-member
invariant-reports_in_members-loop-member l =
    let p = map step_of l.initial.place.items in
    record {
      place : l.place.items ≡ l.initial.place.items;
      reports : repeated_in_members p (members_view (drop l.member-index l.member-items)) (map stated_of_entry l.found)
          ≡ repeated_in_members p (members_view l.member-items) [];
    }
