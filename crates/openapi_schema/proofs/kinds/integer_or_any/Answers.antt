use Rattle.std.proofs.Common.{◌≡◌, ◌∙◌, Bool, true, false, ◌&&◌, refl}
use Rattle.openapi_tables.specs.Members.{integer_sort, is_null_or_signed}
use Rattle.openapi_schema.specs.Kinds.{entries_test, limit_test, trees_in}
use Rattle.openapi_schema.proofs.KindTests.{integer_further, passes_by, fails_by}
use Rattle.openapi_schema.proofs.kinds.integer_or_any.Goals as goal

all_pass : (a b c d : Bool) → a ≡ true → (b && c && d) ≡ true → (a && b && c && d) ≡ true
all_pass true b c d e h = h
all_pass false b c d e h = cc

limit_fails : (a b c d : Bool) → (b && c && d) ≡ false → (a && b && c && d) ≡ false
limit_fails true b c d h = h
limit_fails false b c d h = refl

entry_fails : (a b c d : Bool) → a ≡ false → (a && b && c && d) ≡ false
entry_fails true b c d e = cc
entry_fails false b c d e = refl

pub returns-in_default-clause-reads : goal.returns-in_default-clause-reads
returns-in_default-clause-reads c =
    let a = c.args.names in
    fails_by integer_sort a c.any_kind.result
    (λ ms rows. integer_further a ms rows ∙ limit_fails
    (entries_test is_null_or_signed (trees_in c.args.names.enumeration)) (limit_test a.plain.multiple_of)
    (limit_test a.plain.minimum) (limit_test a.plain.maximum) c.in_default.ensures)
    c.any_kind.ensures.ok

pub returns-in-Some-2-clause-reads : goal.returns-in-Some-2-clause-reads
returns-in-Some-2-clause-reads c =
    let entries = (rw c.in-Some-2.is at (c.in_ok-enumeration.ensures {u = tt}).reads).0 in
    passes_by integer_sort c.args.names c.integer_kind.result
    (λ ms rows. integer_further c.args.names ms rows ∙ all_pass
    (entries_test is_null_or_signed (trees_in c.args.names.enumeration)) (limit_test c.args.names.plain.multiple_of)
    (limit_test c.args.names.plain.minimum) (limit_test c.args.names.plain.maximum) entries c.in-Some.ensures.0)
    c.integer_kind.ensures

pub returns-in-None-clause-reads : goal.returns-in-None-clause-reads
returns-in-None-clause-reads c =
    let a = c.args.names in
    let entries = rw c.in-None.is at (c.in_ok-enumeration.ensures {u = tt}).reads in
    fails_by integer_sort a c.any_kind-in-None.result
    (λ ms rows. integer_further a ms rows ∙ entry_fails
    (entries_test is_null_or_signed (trees_in c.args.names.enumeration)) (limit_test a.plain.multiple_of)
    (limit_test a.plain.minimum) (limit_test a.plain.maximum) entries)
    c.any_kind-in-None.ensures.ok
