use Rattle.std.proofs.Common.{◌≡◌, ◌++◌, map}
use Rattle.openapi_json.specs.Zeros.{numbers_of_entry, of_all, replaced_of}
use Rattle.openapi_json.proofs.zeros.all_numbers.Given as goal

-- the numbers so far, with those of the entries that are left, are those of all
abbrev pub invariant-loop-numbers : goal.invariant-loop-numbers
invariant-loop-numbers l =
    map replaced_of l.all.items ++ of_all (map numbers_of_entry l.numbers-iterator)
    ≡ of_all (map numbers_of_entry l.initial.numbers-iterator)
