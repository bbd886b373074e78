use Rattle.std.proofs.Common.{◌≡◌, ◌+◌, ℕ, List, ◌<◌, ◌≤◌, length, get_or, set, string_bytes, refl, sym, ap, subst, ◌∙◌}
use Rattle.std.proofs.Common.{arith, of_calls}
use Rattle.std.proofs.lemmas.List.{length-set}
use Rattle.std.specs.List.{swap}
use Rattle.std.specs.Map.Calls.{RetainsPairs, CalledAtPair}
use Rattle.openapi_map.specs.Entries.{Entries, entries_of, names_of}
use Rattle.openapi_map.specs.Former.{length-names_of}
use Rattle.openapi_map.proofs.EntryLemmas.{names_of-get_or}
use Rattle.openapi_map.proofs.RetainLemmas.{Sifted, sifted-passed, sifted-kept, sifted-all}
use Rattle.openapi_map.proofs.RetainLemmas.{column-written, columns-swapped, columns-taken}
use Rattle.openapi_map.proofs.ZipLemmas.{length-zip, get_or-zip}
use Rattle.openapi_map.proofs.retain.retain_columns.Goals.{then-keep, else-keep}
use Rattle.openapi_map.proofs.retain.retain_columns.Goals as goal

pub loop-place-preserved : goal.loop-place-preserved
loop-place-preserved g c =
    let T = CalledAtPair g.F.FnMut in
    let at = c.loop-place in
    let ns = at.names.items in
    let vs = at.values.items in
    let i = at.place in
    let n = c.index.result.now in
    let v = c.index_mut.result.now in
    let w = c.keep.new.arg3 in
    let keep = c.keep.new.self in
    let bounds = at.invariant.1 in
    let even : length vs ≡ length ns = omega (arith, bounds, at.names.ok.0, at.values.ok.0) in
    let bytes : length vs ≡ length (names_of ns) = even ∙ sym (length-names_of ns) in
    let within : i < length (entries_of ns vs) =
    omega (arith, c.loop-place-test.true, bounds, at.names.ok.0, length-zip (names_of ns) vs bytes, length-names_of ns) in
    let e : List ℕ × _ = (string_bytes n, v) in
    let name = ap string_bytes c.index.ensures ∙ names_of-get_or ns i n in
    let there : e ≡ get_or (entries_of ns vs) i e =
    (λ j. (name j, c.index_mut.ensures.value j)) ∙ get_or-zip (names_of ns) vs i (string_bytes n) v bytes in
    let written = column-written ns vs i n w c.index.ensures in
    let asked : T at.keep (string_bytes n) v c.keep.result w keep =
    record {
      key = c.as_str.result;
      value = _;
      shows = (c.as_str.ensures.value, refl);
      left = _;
      called = c.keep.ensures;
      leaves = refl;
    } in
    let Next : Entries _ → ℕ → Type 0 =
    λ es k. Sifted T c.args.keep (entries_of c.args.names.now.items c.args.values.now.items) keep es k (i + 1) in
    elim c.if-keep.branch [
      | then-keep one ↦
          let told = subst (λ b. T at.keep (string_bytes n) v b w keep) one.if-keep.true asked in
          let names = ap (λ x. x.items) one.names-is ∙ one.swap.ensures.items in
          let values = ap (λ x. x.items) one.values-is ∙ one.swap-then-keep.ensures.items in
          let moved = columns-swapped ns (set vs i w) at.kept i (length-set vs i w ∙ even) in
          let is = (λ j. entries_of (names j) (values j)) ∙ moved in
          let next = sifted-kept T at.invariant.2 bounds.2 within e there w keep told in (
            search of_calls,
            omega (
              arith,
              bounds,
              one.kept-is,
              ap (λ x. x.len) one.names-is,
              ap (λ x. x.len) one.values-is,
              one.swap.ensures.len,
              one.swap-then-keep.ensures.len,
              c.loop-place-test.true,
            ),
            subst (λ k. Next (entries_of c.if-keep.names.items c.if-keep.values.items) k) (sym one.kept-is)
                (subst (λ es. Next es (at.kept + 1)) (sym is)
                (subst (λ es. Next (swap es at.kept i) (at.kept + 1)) (sym written) next)),
          )
      | else-keep other ↦
          let told = subst (λ b. T at.keep (string_bytes n) v b w keep) other.if-keep.false asked in
          let names = ap (λ x. x.items) other.names-is in
          let values = ap (λ x. x.items) other.values-is in
          let is = (λ j. entries_of (names j) (values j)) ∙ written in
          let next = sifted-passed T at.invariant.2 bounds.2 within e there w keep told in (
            search of_calls,
            omega (
              arith,
              bounds,
              other.kept-is,
              ap (λ x. x.len) other.names-is,
              ap (λ x. x.len) other.values-is,
              c.loop-place-test.true,
            ),
            subst (λ k. Next (entries_of c.if-keep.names.items c.if-keep.values.items) k) (sym other.kept-is)
                (subst (λ es. Next es at.kept) (sym is) next),
          )
    ]

pub returns-clause-entries : goal.returns-clause-entries
returns-clause-entries g c =
    let at = c.loop-place in
    let ns = at.names.items in
    let vs = at.values.items in
    let bytes : length vs ≡ length (names_of ns) =
    omega (arith, at.invariant.1, at.names.ok.0, at.values.ok.0, length-names_of ns) in
    let past : length (entries_of ns vs) ≤ at.place =
    omega (
      arith,
      c.loop-place-test.false,
      at.invariant.1,
      at.names.ok.0,
      length-zip (names_of ns) vs bytes,
      length-names_of ns,
    ) in
    let left = (λ j. entries_of (c.truncate.ensures.items j) (c.truncate-2.ensures.items j)) ∙ columns-taken ns vs at.kept in
    subst (RetainsPairs (CalledAtPair g.F.FnMut) c.args.keep (entries_of c.args.names.now.items c.args.values.now.items))
    (sym left) (sifted-all (CalledAtPair g.F.FnMut) at.invariant.2 past)
