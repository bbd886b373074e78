use Rattle.std.proofs.Common.{slice_get, Some, sym, ap, subst, ◌∙◌, remove, arith}
use Rattle.std.specs.List.{zip}
use Rattle.openapi_map.specs.Entries.{names_of}
use Rattle.openapi_map.specs.Former.{length-names_of}
use Rattle.openapi_map.specs.Index.{IsIndexAt}
use Rattle.openapi_map.proofs.EntryLemmas.{names_of-remove}
use Rattle.openapi_map.proofs.HeldLemmas.{even_names, held_values, length-held}
use Rattle.openapi_map.proofs.IndexLemmas.{linked}
use Rattle.openapi_map.proofs.ZipLemmas.{slice_get-at, zip-remove}
use Rattle.openapi_map.proofs.Held.remove_at.Goals as goal

pub drop_name-requires : goal.drop_name-requires
drop_name-requires g c =
    let h = c.args.self.now in
    let names = h.names.items in
    linked (names_of names) h.finder c.args.place c.requires.consistent.index
    (omega (arith, c.requires.within, length-held h c.requires.consistent, length-names_of names))

pub remove-requires : goal.remove-requires
remove-requires g c =
    let h = c.args.self.now in
    omega (arith, c.requires.within, length-held h c.requires.consistent, h.names.ok.0)

pub remove-requires-2 : goal.remove-requires-2
remove-requires-2 g c =
    let h = c.args.self.now in
    omega (arith, c.requires.within, length-held h c.requires.consistent, c.requires.consistent.even, h.values.ok.0)

pub returns-clause-value : goal.returns-clause-value
returns-clause-value g c =
    let h = c.args.self.now in
    let i = c.args.place in
    let is = c.requires.consistent in
    ap (λ vs. slice_get vs i) (sym (held_values h is))
    ∙ slice_get-at h.values.items i c.remove-2.result (omega (arith, c.requires.within, length-held h is, is.even))
    ∙ ap Some (sym c.remove-2.ensures.value)

pub returns-clause-entries : goal.returns-clause-entries
returns-clause-entries g c =
    let h = c.args.self.now in
    let i = c.args.place in
    (λ j. zip (names_of (c.remove.ensures.items j)) (c.remove-2.ensures.items j))
    ∙ ap (λ ns. zip ns (remove h.values.items i)) (names_of-remove h.names.items i)
    ∙ zip-remove (names_of h.names.items) h.values.items i (even_names h c.requires.consistent)

pub returns-clause-consistent : goal.returns-clause-consistent
returns-clause-consistent g c =
    let h = c.args.self.now in
    let is = c.requires.consistent in
    let names = c.remove.new.self in
    let values = c.remove-2.new.self in
    record {
      even = omega (
        arith,
        is.even,
        c.remove.ensures.len,
        c.remove-2.ensures.len,
        h.names.ok.0,
        h.values.ok.0,
        names.ok.0,
        values.ok.0,
      );
      index = subst (λ ns. IsIndexAt ns c.drop_name.new.finder)
          (sym (ap names_of c.remove.ensures.items ∙ names_of-remove h.names.items c.args.place))
          (c.drop_name.ensures (names_of h.names.items) is.index);
    }
