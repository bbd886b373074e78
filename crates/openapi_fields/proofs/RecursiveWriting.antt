-- What mutually recursive writers return for the entries of a map, which are written one after another.
use Rattle.std.proofs.Common.{◌≡◌, ◌≤◌, ◌+◌, ◌∙◌, ℕ, true, List, [], Result, Ok, Err, Some, None, refl, sym, ap, subst, slice_get, take, length}
use Rattle.std.proofs.lemmas.List.{take_all}
use Rattle.openapi_map.specs.Entries.{Entries, get, HasDistinctNames}
use Rattle.openapi_node.specs.Tree.{Tree, object, members_of}
use Rattle.openapi_node.specs.declared.fault.Fault.{Fault}
use Rattle.openapi_node.specs.declared.node.Node.{Node}
use Rattle.openapi_tables.specs.Prelude.{Kind, map_of, Form}
use Rattle.openapi_fields.specs.Entries.{all_whole, written_entries}
use Rattle.openapi_fields.specs.Forms.{map_form}
use Rattle.openapi_fields.specs.Returned.{WrittenAs}
use Rattle.openapi_fields.specs.Reading.{any_name}
use Rattle.openapi_fields.specs.Writing.{PutAs}
use Rattle.openapi_fields.proofs.Mapped.{map_loses, map_written}
use Rattle.openapi_fields.proofs.Written.{entry_loses, next_absent, next_whole, next_written}

module _ {X : Type 0} (view : X → Form) (k : Kind) (vs : Entries X) where
  -- the first `i` entries were written as the members `out`, and nothing in their values is unwritable
  abbrev pub WrittenSoFar : ℕ → Entries Tree → Type 0
  WrittenSoFar i out = record {
    written : out ≡ written_entries view k (take i vs);
    whole : all_whole view k (take i vs) ≡ true;
  }

  -- the next entry
  module _ (i : ℕ) {n : List ℕ} {x : X} (out : Entries Tree) (at : slice_get vs i ≡ Some (n, x)) (h : WrittenSoFar i out) where
    -- if no name of the entries is repeated, its name is not among those written so far
    pub unwritten : HasDistinctNames vs → get n out ≡ None
    unwritten d = next_absent view k vs i n x at [] out refl d h.written

    module _ (new : Entries Tree) (r : Result Node Fault) (q : Result (Unit {0}) Fault) (w : WrittenAs k (view x) r)
        (put : (l : Kind) (f : Form) → WrittenAs l f r → PutAs l f n q out new) where
      -- if the member that it is written as is appended, the entries up to and including it were written
      pub next_put : q ≡ Ok tt → WrittenSoFar (i + 1) new
      next_put is =
          let p = subst (λ s. PutAs k (view x) n s out new) is (put k (view x) w) in
          record {
            written = next_written view k vs i n x at [] out new h.written p.0;
            whole = next_whole view k vs i n x at h.whole p.1;
          }

      -- if writing it or appending it fails, that is an error of writing the map
      pub next_lost : (f : Fault) → q ≡ Err f → WrittenAs (map_of k) (map_form view vs) (Err f)
      next_lost f is =
          map_loses view k vs f
          (entry_loses view k vs i n x at any_name f (subst (λ s. PutAs k (view x) n s out new) is (put k (view x) w)))

  -- if all entries were written, the object of their members is what the map is written as
  pub all_put : (i : ℕ) (out : Entries Tree) (node : Node) → length vs ≤ i → WrittenSoFar i out
      → node ≡ object (members_of out) → WrittenAs (map_of k) (map_form view vs) (Ok node)
  all_put i out node end h is =
      let all = take_all i vs end in
      map_written view k vs out node (h.written ∙ ap (written_entries view k) all)
      (sym (ap (all_whole view k) all) ∙ h.whole) is
