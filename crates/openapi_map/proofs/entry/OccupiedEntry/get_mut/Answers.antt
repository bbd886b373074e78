use Rattle.std.proofs.Common.{◌≡◌, Option, Some, ℕ, refl, ap, ◌∙◌}
use Rattle.std.proofs.Props.{props}
use Rattle.openapi_map.specs.Entry.{still_found, with_entry_value}
use Rattle.openapi_map.proofs.PlaceLemmas.{occupied_value, occupied_written}
use Rattle.openapi_map.proofs.entry.OccupiedEntry.get_mut.Goals as goal

-- there is at most one proof that a place was found
found-prop : (r : Option ℕ) (i : ℕ) → IsProp (r ≡ Some i)
found-prop r i = hlevel props

pub invariant_of-self-lent : goal.invariant_of-self-lent
invariant_of-self-lent g c w = (still_found c.args.self.now w, tt)

pub returns : goal.returns
returns g c =
    let o = c.args.self.now in (
      (
        refl,
        λ w. ap (λ q. record (with_entry_value o w) { found = q }) (found-prop _ o.place _ (still_found o w)),
      ),
      record {
        writes_back = tt;
        value = occupied_value o ∙ c.value_at.ensures.value;
        written = occupied_written o;
      },
    )
