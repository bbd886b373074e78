use Rattle.std.proofs.Common.{Some, None, string_bytes, sym, ap, ◌∙◌}
use Rattle.std.specs.Str.{bytes_eq}
use Rattle.indexmap.proofs.MapLemmas.{Found-position}
use Rattle.indexmap.specs.IndexMap.{set_value_at}
use Rattle.openapi_map.specs.Held.{kept}
use Rattle.openapi_map.proofs.EntryLemmas.{at_bytes, get-missing, insert-found, insert-missing}
use Rattle.openapi_map.proofs.OrderedMap.insert.Goals as goal

pub value_at-requires : goal.value_at-requires
value_at-requires g c =
    let m = c.args.self.now in
    let name = string_bytes c.args.name in
    let at = at_bytes (kept c.self.inside.held) m c.self.view_is _ _ name c.in-Some.ensures c.as_str.ensures.value in
    (Found-position (bytes_eq name) m c.in-Some.place (sym at)).within

pub returns-in-Some-clause-old : goal.returns-in-Some-clause-old
returns-in-Some-clause-old g c =
    let m = c.args.self.now in
    let name = string_bytes c.args.name in
    let at = at_bytes (kept c.self.inside.held) m c.self.view_is _ _ name c.in-Some.ensures c.as_str.ensures.value in
    ap Some c.replace.ensures.value
    ∙ sym ((Found-position (bytes_eq name) m c.in-Some.place (sym at)).value ∙ c.value_at.ensures.value)

pub returns-in-Some-clause-entries : goal.returns-in-Some-clause-entries
returns-in-Some-clause-entries g c =
    let m = c.args.self.now in
    let name = string_bytes c.args.name in
    let i = c.in-Some.place in
    let at = at_bytes (kept c.self.inside.held) m c.self.view_is _ _ name c.in-Some.ensures c.as_str.ensures.value in
    ap (set_value_at m i) c.replace.ensures.after ∙ insert-found name m i c.args.value at

pub push_new-requires : goal.push_new-requires
push_new-requires g c =
    let m = c.args.self.now in
    let name = string_bytes c.args.name in
    let none = at_bytes (kept c.self.inside.held) m c.self.view_is None _ name c.in-None.ensures c.as_str.ensures.value in
    sym (get-missing name m none)

pub returns-in_ok-push_new-in-None-clause-old : goal.returns-in_ok-push_new-in-None-clause-old
returns-in_ok-push_new-in-None-clause-old g c =
    let m = c.args.self.now in
    let name = string_bytes c.args.name in
    let none = at_bytes (kept c.self.inside.held) m c.self.view_is None _ name c.in-None.ensures c.as_str.ensures.value in
    get-missing name m none

pub returns-in_ok-push_new-in-None-clause-entries : goal.returns-in_ok-push_new-in-None-clause-entries
returns-in_ok-push_new-in-None-clause-entries g c =
    let m = c.args.self.now in
    let name = string_bytes c.args.name in
    let none = at_bytes (kept c.self.inside.held) m c.self.view_is None _ name c.in-None.ensures c.as_str.ensures.value in
    c.in_ok-push_new-in-None.ensures.entries ∙ insert-missing name m c.args.value (sym (get-missing name m none))
