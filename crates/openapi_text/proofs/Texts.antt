-- What reading JSON text returns, stated in the terms of `openapi_text`.
use Rattle.std.proofs.Common.{◌≡◌, ℕ, List, inl, inr, subst, sym, refl}
use Rattle.openapi_json.specs.Ordered.{IsTreeInOrder}
use Rattle.openapi_json.specs.Reading as texts
use Rattle.openapi_json.specs.declared.fault.JsonFault.{JsonFault}
use Rattle.openapi_json.specs.declared.fault.JsonFault.TheVariants as unread
use Rattle.openapi_node.specs.Tree.{Tree}
use Rattle.openapi_text.specs.Texts.{IsTextOf, IsUnread, IsUnwhole, run_fault_of}
use Rattle.openapi_text.specs.declared.fault.RunFault.{RunFault}
use Rattle.openapi_text.specs.declared.layout.Layout.TheVariants.{ByName, InOrder, Pretty}

pub tree_by_name : (bytes : List ℕ) (t : Tree) → texts.IsTreeOfText bytes t → IsTextOf ByName bytes (λ u. t ≡ u)
tree_by_name bytes t is = record { tree = t; is = is; holds = refl }

pub tree_in_order : (bytes : List ℕ) (t : Tree) → IsTreeInOrder bytes t → IsTextOf InOrder bytes (λ u. t ≡ u)
tree_in_order bytes t is = record { tree = t; is = is; holds = refl }

pub tree_of_pretty : (bytes : List ℕ) (t : Tree) → IsTreeInOrder bytes t → IsTextOf Pretty bytes (λ u. t ≡ u)
tree_of_pretty bytes t is = record { tree = t; is = is; holds = refl }

pub unread_text : (bytes : List ℕ) (f : JsonFault) (e : RunFault) → e ≡ run_fault_of f → texts.Explains bytes f
    → IsUnread bytes e
unread_text bytes unread.NotJson e is why = inr (inl (is, why))
unread_text bytes (unread.NotWhole f) e is why =
    inr (inr (record {
      utf8 = why.0;
      value = why.1;
      reads = why.2;
      names = subst (IsUnwhole why.1) (sym is) why.3;
    }))
unread_text bytes unread.Memory e is why = inl is
