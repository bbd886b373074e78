use Rattle.std.proofs.Common.{◌++◌, ◌∷◌, [], string_bytes, sym, ap, subst, ◌∙◌, arith}
use Rattle.std.specs.List.{zip}
use Rattle.openapi_map.specs.Entries.{names_of}
use Rattle.openapi_map.specs.Index.{IsIndexAt}
use Rattle.openapi_map.proofs.EntryLemmas.{names_of-push}
use Rattle.openapi_map.proofs.HeldLemmas.{even_names}
use Rattle.openapi_map.proofs.ZipLemmas.{zip-push}
use Rattle.openapi_map.proofs.Held.push_last.Goals as goal

pub returns-clause-entries : goal.returns-clause-entries
returns-clause-entries g c =
    let h = c.args.self.now in
    let name = c.args.name in
    let v = c.args.value in
    let names = c.push_reserved.ensures.items ∙ ap (λ ns. ns ++ name ∷ []) c.reserve.ensures.items in
    let values = c.push_reserved-2.ensures.items ∙ ap (λ vs. vs ++ v ∷ []) c.reserve-2.ensures.items in
    (λ j. zip (names_of (names j)) (values j))
    ∙ ap (λ ns. zip ns (h.values.items ++ v ∷ [])) (names_of-push h.names.items name)
    ∙ zip-push (names_of h.names.items) h.values.items (string_bytes name) v (even_names h c.requires)

pub returns-clause-consistent : goal.returns-clause-consistent
returns-clause-consistent g c =
    let h = c.args.self.now in
    let reserved = c.reserve.new.self.items in
    let names = c.push_reserved.new.self in
    let values = c.push_reserved-2.new.self in
    record {
      even = omega (
        arith,
        c.requires.even,
        c.reserve.ensures.len,
        c.reserve-2.ensures.len,
        c.push_reserved.ensures.len,
        c.push_reserved-2.ensures.len,
        h.names.ok.0,
        h.values.ok.0,
        names.ok.0,
        values.ok.0,
      );
      index = subst (λ ns. IsIndexAt ns c.add_name.new.finder)
          (ap (λ n. names_of reserved ++ n ∷ []) c.as_str.ensures.value
          ∙ sym (ap names_of c.push_reserved.ensures.items ∙ names_of-push reserved c.args.name))
          c.in_ok-add_name.ensures.ok;
    }
