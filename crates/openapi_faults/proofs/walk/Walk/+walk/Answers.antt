use Rattle.std.proofs.Common.{◌+◌, false, cond, [], ◌∷◌, map, take, OnOk, refl, sym, ap, ◌∙◌, subst, arith}
use Rattle.std.proofs.lemmas.List.{length-take-le, map-append}
use Rattle.openapi_node.specs.Place.{named}
use Rattle.openapi_node.specs.Tree.{find, members_of, size_of}
use Rattle.openapi_node.proofs.TreeLemmas.{next_item, next_member}
use Rattle.openapi_node.specs.View.{shown}
use Rattle.openapi_tables.specs.Kind.{schema_data}
use Rattle.openapi_tables.specs.Tables.{final_tables}
use Rattle.openapi_tables.specs.ByRow.{asking}
use Rattle.openapi_tables.specs.Faults.{asked}
use Rattle.openapi_tables.specs.Lists.{join}
use Rattle.openapi_tables.proofs.ListLaws.{join-nil}
use Rattle.openapi_faults.specs.Meaning.{kind_of, table_of}
use Rattle.openapi_faults.specs.Walk.{Visits, asked_below, asked_entries, asked_inside, entries_size, is_chosen, place_in, rows_as, step_of}
use Rattle.openapi_faults.specs.declared.walk.Walk.{Walk}
use Rattle.openapi_faults.proofs.Inside.{asked_here}
use Rattle.openapi_faults.proofs.Folding.{popped, visits_below, visits_none, visits_one, visits_then}
use Rattle.openapi_faults.proofs.Listing.{next_open_row}
use Rattle.openapi_faults.proofs.Rows.{either_within}
use Rattle.openapi_faults.proofs.Listing.{all_size, entry_size-le, next_at, next_entry, next_entry-size, next_item-asked}
use Rattle.openapi_faults.proofs.Shown.{known_asked, no_text_asked, unknown_asked}
use Rattle.openapi_faults.proofs.Shown.{not_null, optional_asked, reference_asked, untagged_asked}
use Rattle.openapi_faults.proofs.Shown.{item_asked, items_asked, members_asked, on_ok, rows_asked_by, schema_asked, schema_weight}
use Rattle.openapi_faults.proofs.Shown.{table_weight, type_asked}
use Rattle.openapi_faults.proofs.Walking.{next_visited, so_far_as}
use Rattle.openapi_faults.proofs.walk.Walk.+walk.Goals as goal
use Rattle.openapi_faults.proofs.walk.Walk.+walk.Goals.{entries-then-is_among+in_ok-below, entries-else-is_among}

pub shown_below-returns-clause-visits : goal.shown_below-returns-clause-visits
shown_below-returns-clause-visits g t c =
    let deeper = ap (map step_of) c.in_ok-push.ensures.items ∙ map-append step_of c.args.self.now.place.items (c.args.step ∷ []) in
    visits_below g.V.Visitor.Takes (step_of c.args.step) (asked final_tables (kind_of c.args.kind) (shown c.args.view.now)) c.args.self.now
    (record { visitor = c.args.self.now.visitor; place = c.push.new.self }) c.shown.new.self
    (record { visitor = c.shown.new.self.visitor; place = c.pop.new.self }) refl deeper c.in_ok-shown.ensures.visits refl
    (popped step_of _ c.shown.new.self.place.items c.pop.new.self.items (place_in c.args.self.now) (step_of c.args.step)
    (sym c.shown.new.self.place.ok.0) (c.in_ok-shown.ensures.visits.back ∙ deeper) c.pop.ensures.rest)

pub below-returns-clause-visits : goal.below-returns-clause-visits
below-returns-clause-visits g t c =
    subst (λ u. OnOk c.shown_below.result (Visits g.V.Visitor.Takes (asked_below (step_of c.args.step) (kind_of c.args.kind) u) c.args.self.now c.shown_below.new.self))
    c.open-view.ensures.shown c.shown_below.ensures.visits

pub items-below-requires : goal.items-below-requires
items-below-requires g t c =
    let next = next_item c.args.items.now c.loop-index.index c.index-items-index.result c.loop-index-test.true c.index-items-index.is in
    λ κs h. (omega (arith, next.within, c.decreases), h)

pub items-returns-in_err-below-clause-count : goal.items-returns-in_err-below-clause-count
items-returns-in_err-below-clause-count g t c =
    let next = next_item c.args.items.now c.loop-index.index c.index-items-index.result c.loop-index-test.true c.index-items-index.is in
    omega (arith, next.within, c.loop-index.invariant.count, c.below.ensures.count)

pub items-loop-index-preserved : goal.items-loop-index-preserved
items-loop-index-preserved g t c =
    let ts = c.args.items.now in
    let i = c.loop-index.index in
    let next = next_item ts i c.index-items-index.result c.loop-index-test.true c.index-items-index.is in
    next_visited g.V.Visitor.Takes _ _ _ _ _ _ c.args.self.now c.loop-index.self c.below.new.self c.args.steps.now c.loop-index.steps c.below.new.steps
    (next_item-asked (kind_of c.args.kind) ts i c.index-items-index.result
    (next_at ts i c.index-items-index.result c.loop-index-test.true c.index-items-index.is) (length-take-le i ts (omega (arith, c.loop-index.auto.index-end))))
    next.adds c.loop-index.invariant c.in_ok-below.ensures.visits c.in_ok-below.ensures.rises c.in_ok-below.ensures.count

pub entries-below-requires : goal.entries-below-requires
entries-below-requires g t c =
    let next = next_member c.args.members.now c.loop-i.i (c.entry_at.result.0.now, c.entry_at.result.1.now) c.entry_at.ensures in
    λ κs h. (omega (arith, next.within, c.decreases), h)

pub entries-returns-in_err-below-clause-count : goal.entries-returns-in_err-below-clause-count
entries-returns-in_err-below-clause-count g t c =
    let p = is_chosen c.args.class in
    let yes = ap (λ b. cond b (size_of c.entry_at.result.1.now) 0) (sym c.is_among.ensures ∙ c.if-is_among.true) in
    omega (
      arith,
      entry_size-le p c.args.members.now c.loop-i.i c.entry_at.result.0.now c.entry_at.result.1.now c.entry_at.ensures,
      yes,
      c.loop-i.invariant.count,
      c.below.ensures.count,
    )

pub entries-loop-i-preserved : goal.entries-loop-i-preserved
entries-loop-i-preserved g t c =
    let p = is_chosen c.args.class in
    let k = kind_of c.args.kind in
    let es = c.args.members.now in
    let i = c.loop-i.i in
    let n = c.entry_at.result.0.now in
    let u = c.entry_at.result.1.now in
    let asked = next_entry p es i n u c.entry_at.ensures k in
    let size = next_entry-size p es i n u c.entry_at.ensures in
    elim c.if-is_among.branch [
      | entries-then-is_among+in_ok-below w ↦
          (let yes = sym c.is_among.ensures ∙ w.if-is_among.true in
          rw w.self-is (rw w.steps-is (next_visited g.V.Visitor.Takes _ _ _ _ _ _ c.args.self.now c.loop-i.self w.below.new.self c.args.steps.now c.loop-i.steps w.below.new.steps
          (asked ∙ ap (λ b. join (asked_entries p k (take i es)) (cond b (asked_below (named n) k u) [])) yes)
          (size ∙ ap (λ b. entries_size p (take i es) + cond b (size_of u) 0) yes)
          c.loop-i.invariant w.in_ok-below.ensures.visits w.in_ok-below.ensures.rises w.in_ok-below.ensures.count)))
      | entries-else-is_among w ↦
          (let no = sym c.is_among.ensures ∙ w.if-is_among.false in
          rw w.self-is (rw w.steps-is (so_far_as g.V.Visitor.Takes _ _ _ _ c.args.self.now c.loop-i.self c.args.steps.now c.loop-i.steps
          (asked ∙ ap (λ b. join (asked_entries p k (take i es)) (cond b (asked_below (named n) k u) [])) no ∙ join-nil (asked_entries p k (take i es)))
          (size ∙ ap (λ b. entries_size p (take i es) + cond b (size_of u) 0) no ∙ omega arith)
          c.loop-i.invariant)))
    ]

pub inside-returns-in_err-rows-in-Object-view-4-clause-count : goal.inside-returns-in_err-rows-in-Object-view-4-clause-count
inside-returns-in_err-rows-in-Object-view-4-clause-count g t c =
    let ms = members_of c.in-Object-view-4.members.now in
    rw c.in-Object-view-4.is (omega (
      arith,
      table_weight schema_data (rows_as false c.rows-in-Object-view-4.result.now) ms c.rows-in-Object-view-4.ensures,
      c.rows-in-Object-view-4-2.ensures.count,
    ))

pub inside-returns-in-Item-clause-visits : goal.inside-returns-in-Item-clause-visits
inside-returns-in-Item-clause-visits g t c =
    subst (λ l. OnOk c.shown.result (Visits g.V.Visitor.Takes l c.args.self.now c.shown.new.self))
    (item_asked (kind_of c.args.kind) (kind_of c.in-Item.item) (shown c.args.view.now) c.in-Item.ensures c.requires) c.shown.ensures.visits

pub inside-returns-in-List-clause-visits : goal.inside-returns-in-List-clause-visits
inside-returns-in-List-clause-visits g t c =
    subst (λ l. OnOk c.items.result (Visits g.V.Visitor.Takes l c.args.self.now c.items.new.self))
    (items_asked (kind_of c.args.kind) (kind_of c.in-Items.item) c.args.view.now c.in-List.items c.in-Items.ensures c.in-List.is)
    c.items.ensures.visits

pub inside-returns-in-Object-clause-visits : goal.inside-returns-in-Object-clause-visits
inside-returns-in-Object-clause-visits g t c =
    subst (λ l. OnOk c.entries.result (Visits g.V.Visitor.Takes l c.args.self.now c.entries.new.self))
    (members_asked (kind_of c.args.kind) c.args.view.now c.in-Object.members c.in-Object.is (kind_of c.in-Members.value) c.in-Members.ensures)
    c.entries.ensures.visits

pub inside-returns-in-Object-clause-count : goal.inside-returns-in-Object-clause-count
inside-returns-in-Object-clause-count g t c =
    rw c.in-Object.is (omega (arith, all_size c.in-Object.members.now, c.entries.ensures.count))

pub inside-returns-in-Object-view-clause-visits : goal.inside-returns-in-Object-view-clause-visits
inside-returns-in-Object-view-clause-visits g t c =
    subst (λ l. OnOk c.rows-in-Object-view.result (Visits g.V.Visitor.Takes l c.args.self.now c.rows-in-Object-view.new.self))
    (rows_asked_by (kind_of c.args.kind) c.args.view.now c.in-Object-view.members c.in-Object-view.is (table_of c.in-Rows.table)
    (rows_as false c.rows.result.now) c.in-Rows.ensures c.rows.ensures) c.rows-in-Object-view.ensures.visits

pub inside-returns-in-Object-view-clause-count : goal.inside-returns-in-Object-view-clause-count
inside-returns-in-Object-view-clause-count g t c =
    let ms = members_of c.in-Object-view.members.now in
    rw c.in-Object-view.is (omega (
      arith,
      table_weight (table_of c.in-Rows.table) (rows_as false c.rows.result.now) ms c.rows.ensures,
      c.rows-in-Object-view.ensures.count,
    ))

pub inside-returns-in_ok-rows-in-Object-view-4-clause-visits : goal.inside-returns-in_ok-rows-in-Object-view-4-clause-visits
inside-returns-in_ok-rows-in-Object-view-4-clause-visits g t c =
    on_ok c.rows-in-Object-view-4-4.result (λ h. subst (λ l. Visits g.V.Visitor.Takes l c.args.self.now c.rows-in-Object-view-4-4.new.self)
    (schema_asked (kind_of c.args.kind) c.args.view.now c.in-Object-view-4.members c.in-Object-view-4.is
    (rows_as false c.rows-in-Object-view-4.result.now) c.rows-in-Object-view-4-3.result.now c.in-SchemaRows.ensures
    c.rows-in-Object-view-4.ensures c.rows-in-Object-view-4-3.ensures)
    (visits_then g.V.Visitor.Takes _ _ c.args.self.now c.rows-in-Object-view-4-2.new.self c.rows-in-Object-view-4-4.new.self
    c.in_ok-rows-in-Object-view-4.ensures.visits h)) c.rows-in-Object-view-4-4.ensures.visits

pub inside-returns-in_ok-rows-in-Object-view-4-clause-count : goal.inside-returns-in_ok-rows-in-Object-view-4-clause-count
inside-returns-in_ok-rows-in-Object-view-4-clause-count g t c =
    let ms = members_of c.in-Object-view-4.members.now in
    rw c.in-Object-view-4.is (omega (
      arith,
      schema_weight (rows_as false c.rows-in-Object-view-4.result.now) c.rows-in-Object-view-4-3.result.now ms
          c.rows-in-Object-view-4.ensures c.rows-in-Object-view-4-3.ensures,
      c.in_ok-rows-in-Object-view-4.ensures.count,
      c.rows-in-Object-view-4-4.ensures.count,
    ))

pub inside-returns-in-Object-view-5-clause-visits : goal.inside-returns-in-Object-view-5-clause-visits
inside-returns-in-Object-view-5-clause-visits g t c =
    subst (λ l. OnOk c.rows-in-Object-view-5-2.result (Visits g.V.Visitor.Takes l c.args.self.now c.rows-in-Object-view-5-2.new.self))
    (type_asked (kind_of c.args.kind) c.args.view.now c.in-Object-view-5.members c.in-Object-view-5.is
    c.rows-in-Object-view-5.result.now c.in-TypeRows.ensures c.rows-in-Object-view-5.ensures) c.rows-in-Object-view-5-2.ensures.visits

pub inside-returns-in-Object-view-5-clause-count : goal.inside-returns-in-Object-view-5-clause-count
inside-returns-in-Object-view-5-clause-count g t c =
    let ms = members_of c.in-Object-view-5.members.now in
    rw c.in-Object-view-5.is (omega (
      arith,
      schema_weight (final_tables schema_data) c.rows-in-Object-view-5.result.now ms refl c.rows-in-Object-view-5.ensures,
      c.rows-in-Object-view-5-2.ensures.count,
    ))

pub optional-returns-else-is_null-clause-visits : goal.optional-returns-else-is_null-clause-visits
optional-returns-else-is_null-clause-visits g t c =
    let null = not_null c.is_null.result (shown c.open-view.result) c.is_null.ensures c.if-is_null.false in
    subst (λ l. OnOk c.shown_below.result (Visits g.V.Visitor.Takes l c.args.self.now c.shown_below.new.self))
    (optional_asked c.args.name.now (kind_of c.args.kind) (members_of c.args.members.now) c.in-Some.node.now (shown c.open-view.result)
    c.in-Some.ensures.found c.open-view.ensures.shown null) c.shown_below.ensures.visits

pub row-below-requires : goal.row-below-requires
row-below-requires g t c =
    let small = either_within c.in-Either.first.now (kind_of c.in-Either.one) c.in-Either.second.now (kind_of c.in-Either.other)
    c.args.members.now c.in-Some.name.now c.in-Some.node.now (sym c.in-Some.ensures) in
    λ κs h. (omega (arith, small, c.decreases), h)

pub rows-returns-in_err-row-clause-count : goal.rows-returns-in_err-row-clause-count
rows-returns-in_err-row-clause-count g t c =
    let next = next_open_row (members_of c.args.members.now) c.args.is_open c.args.rows.now c.loop-i.i _ _ c.loop-i-test.true c.made_optional_if-row.ensures in
    omega (arith, next.within, c.loop-i.invariant.count, c.row.ensures.count)

pub rows-loop-i-preserved : goal.rows-loop-i-preserved
rows-loop-i-preserved g t c =
    let next = next_open_row (members_of c.args.members.now) c.args.is_open c.args.rows.now c.loop-i.i _ _ c.loop-i-test.true c.made_optional_if-row.ensures in
    next_visited g.V.Visitor.Takes _ _ _ _ _ _ c.args.self.now c.loop-i.self c.row.new.self c.args.steps.now c.loop-i.steps c.row.new.steps
    next.asked next.weight c.loop-i.invariant c.in_ok-row.ensures.visits c.in_ok-row.ensures.rises c.in_ok-row.ensures.count

pub by_tag-returns-in-Some-table-clause-visits : goal.by_tag-returns-in-Some-table-clause-visits
by_tag-returns-in-Some-table-clause-visits g t c =
    let asked = known_asked c.args.tag (members_of c.args.members.now) c.args.node.now (shown c.open-view.result) c.requires c.open-view.ensures.shown
    c.in-Some.text.now (table_of c.in-Some-table.table) c.in-Some.ensures (sym c.in-Some-table.ensures.known) c.in-Some-table.ensures.some in
    on_ok c.shown.result (λ h. subst (λ l. Visits g.V.Visitor.Takes l c.args.self.now c.shown.new.self) asked
    (visits_then g.V.Visitor.Takes _ _ c.args.self.now c.tag.new.self c.shown.new.self c.in_ok-tag.ensures h)) c.shown.ensures.visits

pub by_tag-returns-in-None-table-clause-visits : goal.by_tag-returns-in-None-table-clause-visits
by_tag-returns-in-None-table-clause-visits g t c =
    subst (λ l. Visits g.V.Visitor.Takes l c.args.self.now c.tag.new.self)
    (unknown_asked c.args.tag (members_of c.args.members.now) c.args.node.now (shown c.open-view.result) c.requires c.open-view.ensures.shown
    c.in-Some.text.now c.in-Some.ensures (sym c.in-None-table.ensures.known)) c.in_ok-tag.ensures

pub by_tag-returns-in-None-clause-visits : goal.by_tag-returns-in-None-clause-visits
by_tag-returns-in-None-clause-visits g t c =
    subst (λ l. Visits g.V.Visitor.Takes l c.args.self.now c.tag.new.self)
    (no_text_asked c.args.tag (members_of c.args.members.now) c.args.node.now (shown c.open-view.result) c.requires c.open-view.ensures.shown
    c.in-None.ensures) c.in_ok-tag.ensures

pub shown-returns-then-is_some-clause-visits : goal.shown-returns-then-is_some-clause-visits
shown-returns-then-is_some-clause-visits g t c =
    let k = kind_of c.args.kind in
    let u = shown c.args.view.now in
    let after : Walk g.row.V.Denot = record { visitor = c.visit.new.self; place = c.args.self.now.place } in
    subst (λ l. Visits g.V.Visitor.Takes l c.args.self.now after)
    (sym (reference_asked k u c.reference_in-reference.result c.reference_in-reference.ensures.text (sym c.is_some.ensures ∙ c.if-is_some.true)))
    (visits_one g.V.Visitor.Takes k u c.args.self.now after
    (subst (λ l. g.V.Visitor.Takes c.args.self.now.visitor (asking (map step_of l) k u) c.visit.new.self) c.as_slice.ensures.value c.in_ok-visit.ensures)
    refl)

pub shown-returns-else-is_some-clause-visits : goal.shown-returns-else-is_some-clause-visits
shown-returns-else-is_some-clause-visits g t c =
    let k = kind_of c.args.kind in
    let u = shown c.args.view.now in
    let after : Walk g.row.V.Denot = record { visitor = c.visit.new.self; place = c.args.self.now.place } in
    let here = visits_one g.V.Visitor.Takes k u c.args.self.now after
    (subst (λ l. g.V.Visitor.Takes c.args.self.now.visitor (asking (map step_of l) k u) c.visit.new.self) c.as_slice.ensures.value c.in_ok-visit.ensures) refl in
    on_ok c.inside.result (λ h. subst (λ l. Visits g.V.Visitor.Takes l c.args.self.now c.inside.new.self) (sym (asked_here k u))
    (visits_then g.V.Visitor.Takes (asking [] k u ∷ []) (asked_inside k u) c.args.self.now after c.inside.new.self here h)) c.inside.ensures.visits

pub tagged-returns-in-None-clause-visits : goal.tagged-returns-in-None-clause-visits
tagged-returns-in-None-clause-visits g t c =
    subst (λ l. Visits g.V.Visitor.Takes l c.args.self.now c.args.self.now)
    (untagged_asked c.args.tag (members_of c.args.members.now)
    (c.in-None.ensures.found ∙ ap (λ n. find n (members_of c.args.members.now)) c.name.ensures))
    (visits_none g.V.Visitor.Takes c.args.self.now)
