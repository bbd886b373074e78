use Rattle.std.proofs.Common.{ℕ, List, ◌++◌, ◌∷◌, [], refl, sym, ap, ◌∙◌, subst}
use Rattle.std.specs.String.{string_bytes}
use Rattle.openapi_map.specs.Entries.{HasDistinctNames}
use Rattle.openapi_node.specs.Tree.{Tree}
use Rattle.openapi_fields.specs.Writing.{AreNew}
use Rattle.openapi_fields.proofs.Appending.{first_new, moved_on, still_new, still_distinct, nothing_left}
use Rattle.openapi_fields.proofs.writing.append.Goals as goal

pub push_new-requires : goal.push_new-requires
push_new-requires c =
    let e : List ℕ × Tree = (string_bytes c.in-Some.name, c.in-Some.node) in
    first_new c.loop-name.out e c.next.new.self c.loop-name.name-iterator (c.loop-name.out ++ e ∷ [])
    c.in-Some.ensures.steps refl c.loop-name.invariant.new

pub loop-name-init : goal.loop-name-init
loop-name-init c =
    let gives = c.into_iter-name-iterator.ensures.into_iter_gives in
    record {
      joined = refl;
      distinct = subst HasDistinctNames (sym gives.0) gives.2;
      new = subst (λ es. AreNew es c.args.out.now) (sym gives.0) c.requires;
    }

pub loop-name-preserved : goal.loop-name-preserved
loop-name-preserved c =
    let e : List ℕ × Tree = (string_bytes c.in-Some.name, c.in-Some.node) in
    let more = c.loop-name.name-iterator in
    let is = c.in-Some.ensures.steps in
    let put = c.in-Ok.ensures.entries in
    record {
      joined = moved_on c.loop-name.out e c.next.new.self more c.push_new.new.self is put
          ∙ c.loop-name.invariant.joined;
      distinct = still_distinct c.loop-name.out e c.next.new.self more c.push_new.new.self is put
          c.loop-name.invariant.distinct;
      new = still_new c.loop-name.out e c.next.new.self more c.push_new.new.self is put
          c.loop-name.invariant.distinct c.loop-name.invariant.new;
    }

pub returns-clause-ok : goal.returns-clause-ok
returns-clause-ok c =
    nothing_left c.loop-name.out c.args.out.now c.args.more c.loop-name.name-iterator
    (c.loop-name.invariant.joined
    ∙ ap (λ es. c.args.out.now ++ es) c.into_iter-name-iterator.ensures.into_iter_gives.0)
    c.in-None.ensures.steps.0
