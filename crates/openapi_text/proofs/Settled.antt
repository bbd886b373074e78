-- What `settle` writes is written again by `settle` without changes.
use Rattle.std.proofs.Common.{◌≡◌, ◌≤◌, ℕ, List, true, sym, ap, subst, ◌∙◌, arith}
use Rattle.std.specs.Str.{IsUtf8}
use Rattle.json.specs.Lex.{tokens}
use Rattle.serde_json.specs.Read.{max_depth}
use Rattle.openapi_json.specs.Ordered.{IsTreeInOrder}
use Rattle.openapi_json.specs.Reading.{IsTreeOfText}
use Rattle.openapi_json.specs.Writing.{data_in_order, data_tokens, nesting, tree_by_name}
use Rattle.openapi_json.proofs.ByName.{named_line, read_by_name}
use Rattle.openapi_json.proofs.ReadBack.{line_spelled, one_in_order, pretty_spelled, read_again}
use Rattle.openapi_json.proofs.Sorted.{some_same}
use Rattle.openapi_json.proofs.Readable.{IsReadable, read_by_its_names, read_in_order}
use Rattle.openapi_node.specs.Json.{tree_of_data}
use Rattle.openapi_node.specs.Tree.{Tree}
use Rattle.openapi_tables.specs.Prelude.{Kind, by, clean, conforms, final_tables, form, print}
use Rattle.openapi_tables.specs.Kind.{open_api}
use Rattle.openapi_tables.proofs.AllReadProper.{read_proper}
use Rattle.openapi_tables.proofs.DistinctReads.{reads_distinct}
use Rattle.openapi_tables.proofs.DistinctWrites.{writes_named}
use Rattle.openapi_tables.proofs.WellMade.{final_sound}
use Rattle.openapi_tables.proofs.Writes.{writes_all}
use Rattle.openapi_tables.proofs.again.Cleaned.{cleaned_thrice}
use Rattle.openapi_fields.specs.Settled.{settled}
use Rattle.openapi_documents.proofs.Documents.{document_sound}
use Rattle.openapi_text.specs.Laws.{IsSettledTo}
use Rattle.openapi_text.specs.Texts.{IsTextOf, rewritten, text_in}
use Rattle.openapi_text.specs.declared.layout.Layout.{Layout}
use Rattle.openapi_text.specs.declared.layout.Layout.TheVariants.{ByName, InOrder, Pretty}
use Rattle.openapi_text.specs.declared.rewriting.Rewriting.TheVariants.{Settle}
use Rattle.openapi_text.proofs.Kept.{keeps}
use Rattle.openapi_text.proofs.KindsByName.{clean_same}
use Rattle.openapi_text.proofs.SameByName.{Same}
use Rattle.openapi_text.proofs.TextsByName.{IsByName, put_by_name, text_by_name}

-- neither the normalized node nor the stable form nests deeper than the node
pub nests_no_deeper : (k : Kind) (t : Tree)
    → (nesting (clean final_tables k t) ≤ nesting t) × (nesting (settled k t) ≤ nesting t)
nests_no_deeper k t =
    let once = (keeps final_tables t k).0 in
    let twice = (keeps final_tables (clean final_tables k t) k).0 in
    (once, omega (arith, once, twice))

abbrev document : Kind
document = by open_api

-- a node that can be read from a text, and conforms as a document
record IsDocument (t : Tree) : Type 0 where
  readable : IsReadable max_depth t
  accepted : conforms final_tables document t ≡ true

-- the normalized node is one too
still_document : (t : Tree) → IsDocument t → IsDocument (clean final_tables document t)
still_document t d =
    let proper = read_proper final_tables final_sound t document document_sound d.accepted in
    let r = d.readable in
    let kept = keeps final_tables t document in
    record {
      readable = record {
        nests = omega (arith, kept.0, r.nests);
        whole = kept.1 r.whole;
        named = writes_named final_tables final_sound (form final_tables document t) document document_sound proper
            (reads_distinct final_tables t document r.named);
      };
      accepted = writes_all final_tables final_sound (form final_tables document t) document document_sound proper;
    }

-- and so is the stable form
settled_document : (t : Tree) → IsDocument t → IsDocument (settled document t)
settled_document t d = still_document (clean final_tables document t) (still_document t d)

settled_stays : (t : Tree) → IsDocument t → settled document (settled document t) ≡ settled document t
settled_stays t d =
    let once = cleaned_thrice final_tables final_sound document t document_sound d.accepted in
    ap (clean final_tables document) once ∙ once

-- a text with the tokens of the stable form is read in order as the stable form
written_again : (text : List ℕ) (t : Tree) → IsUtf8 text
    → tokens text ≡ data_tokens (data_in_order (settled document t)) → IsDocument t → IsTreeInOrder text (settled document t)
written_again text t utf8 is d =
    let s = settled_document t d in
    read_again text (settled document t) utf8 is s.readable.named s.readable.whole s.readable.nests

-- a text is read, by name, as at most one node
one_by_name : (text : List ℕ) (t u : Tree) → IsTreeOfText text t → IsTreeOfText text u → t ≡ u
one_by_name text t u a b =
    let same : a.value ≡ b.value = some_same (sym a.reads ∙ b.reads) in
    a.is.same ∙ ap tree_of_data same ∙ sym b.is.same

-- the stable form of a document that is sorted by name is `Same`
settled_by_name : (t : Tree) → IsDocument t → IsByName t → Same final_tables document (settled document t)
settled_by_name t d b =
    let c = clean final_tables document t in
    let u = tree_by_name c in
    let once = clean_same t b.stands b.named document document_sound d.accepted in
    let named = put_by_name c in
    let accepted : conforms final_tables document u ≡ true = once.1 ∙ (still_document t d).accepted in
    subst (Same final_tables document) (ap (print final_tables document) once.0)
    (clean_same u named.stands named.named document document_sound accepted)

pub settled_text_reads : (bytes text : List ℕ) → IsUtf8 text → IsSettledTo ByName bytes text
    → IsTextOf ByName bytes (λ t. IsTreeOfText text (tree_by_name (rewritten Settle t)))
settled_text_reads bytes text utf8 it =
    let t = it.tree in
    let c = clean final_tables document t in
    let s = settled document t in
    let source = read_by_its_names bytes t it.is in
    let first = keeps final_tables t document in
    let second = keeps final_tables c document in
    let whole = second.1 (first.1 source.1) in
    record {
      tree = t;
      is = it.is;
      holds = read_by_name text s utf8 (ap tokens it.holds.1 ∙ named_line s whole) whole
          (omega (arith, source.0, first.0, second.0));
    }

pub settled_text_stays : (l : Layout) (bytes text : List ℕ) → IsUtf8 text → IsSettledTo l bytes text
    → IsSettledTo l text text × ((other : List ℕ) → IsSettledTo l text other → other ≡ text)
settled_text_stays ByName bytes text utf8 it =
    let t = it.tree in
    let s = settled document t in
    let u = tree_by_name s in
    let source = read_by_its_names bytes t it.is in
    let b = text_by_name bytes t it.is in
    let d : IsDocument t =
    record { readable = record { nests = source.0; whole = source.1; named = b.named }; accepted = it.holds.0 } in
    let e = settled_document t d in
    let alike = settled_by_name t d b in
    let stays : settled document u ≡ s =
    ap (λ f. clean final_tables document (print final_tables document f)) alike.0 ∙ settled_stays t d in
    let same : text ≡ text_in ByName (rewritten Settle u) = it.holds.1 ∙ ap (text_in ByName) (sym stays) in
    let is : IsTreeOfText text u =
    read_by_name text s utf8 (ap tokens it.holds.1 ∙ named_line s e.readable.whole) e.readable.whole e.readable.nests in (
      record { tree = u; is = is; holds = (alike.1 ∙ e.accepted, same) },
      λ other o. o.holds.1 ∙ ap (λ v. text_in ByName (rewritten Settle v)) (one_by_name text o.tree u o.is is) ∙ sym same,
    )
settled_text_stays InOrder bytes text utf8 it =
    let t = it.tree in
    let s = settled document t in
    let d : IsDocument t = record { readable = read_in_order bytes t it.is; accepted = it.holds.0 } in
    let e = settled_document t d in
    let same : text ≡ text_in InOrder (rewritten Settle s) =
    it.holds.1 ∙ ap (text_in InOrder) (sym (settled_stays t d)) in
    let is : IsTreeInOrder text s =
    written_again text t utf8 (ap tokens it.holds.1 ∙ line_spelled s e.readable.named e.readable.whole) d in (
      record { tree = s; is = is; holds = (e.accepted, same) },
      λ other o. o.holds.1 ∙ ap (λ u. text_in InOrder (rewritten Settle u)) (one_in_order text o.tree s o.is is) ∙ sym same,
    )
settled_text_stays Pretty bytes text utf8 it =
    let t = it.tree in
    let s = settled document t in
    let d : IsDocument t = record { readable = read_in_order bytes t it.is; accepted = it.holds.0 } in
    let e = settled_document t d in
    let same : text ≡ text_in Pretty (rewritten Settle s) =
    it.holds.1 ∙ ap (text_in Pretty) (sym (settled_stays t d)) in
    let is : IsTreeInOrder text s =
    written_again text t utf8 (ap tokens it.holds.1 ∙ pretty_spelled s e.readable.named e.readable.whole) d in (
      record { tree = s; is = is; holds = (e.accepted, same) },
      λ other o. o.holds.1 ∙ ap (λ u. text_in Pretty (rewritten Settle u)) (one_in_order text o.tree s o.is is) ∙ sym same,
    )
