-- The slot of one row, written and read again.
use Rattle.std.proofs.Common.{ℕ, Bool, true, false, cond, List, [], ◌≡◌, refl, sym, ap, ◌∙◌, subst}
use Rattle.openapi_tables.specs.Prelude.{each, members_list, of_members, Kind, one_of, list_of, map_of, ref_to}
use Rattle.openapi_tables.specs.Prelude.{a_schema, Mode, required, optional, nullable, listed, flagged, styled}
use Rattle.openapi_tables.specs.Prelude.{formatted, Row, row, Tables, is_null, rows_of, Form, absent, leaf, unset}
use Rattle.openapi_tables.specs.Prelude.{sequence, named, Forms, no_forms, more, Named, no_named, under, root_form}
use Rattle.openapi_tables.specs.Prelude.{default_of, slot_of_own, slot, form, is_silent, one, row_print, print, again}
use Rattle.openapi_tables.specs.Prelude.{mode_fits, sound, stays}
use Rattle.openapi_node.specs.Tree.{Tree, null, flag, text}
use Rattle.openapi_tables.specs.Read.{empty_of}
use Rattle.openapi_tables.proofs.ListLaws.{same_text-refl}
use Rattle.openapi_tables.proofs.Taken.{Taken, as_leaf, as_unset, as_list, as_map, as_fields, as_item, as_schema}
use Rattle.openapi_tables.proofs.Taken.{as_inner, taken}
use Rattle.openapi_tables.proofs.ReadLaws.{reads}
use Rattle.openapi_tables.proofs.PrintLaws.{printed, print-fields, print-null_or, print-flag_or_schema}
use Rattle.openapi_tables.proofs.RowLaws.{TakesAll}

-- if the form of a node under a sound kind stays, it is unchanged when it is written and read again
abbrev pub Good : (T : Tables) → Tree → Type 0
Good T t = (k : Kind) → sound T k ≡ true → stays T k (form T k t) ≡ true → again T k (form T k t) ≡ form T k t

-- a form that is read from a node other than null is not written as null
pub not_null : (T : Tables) (k : Kind) (t : Tree) (f : Form) → Taken T k t f → is_null t ≡ false
    → is_null (print T k f) ≡ false
not_null T k t f (as_leaf j u e) h = h
not_null T k t f (as_unset ws b) h = cc
not_null T k t f (as_fields j c ms e) h =
    ap is_null (print-fields T j c (members_list ms) (each (slot (of_members (root_form T) ms)) (rows_of T j c)) e)
not_null T k t f (as_item j u g e x) h = not_null T j u g x h
not_null T k t f (as_schema u g e x) h = ap is_null (print-flag_or_schema T g) ∙ not_null T (ref_to a_schema) u g x h
not_null T k t f (as_inner j u g x) h = ap is_null (print-null_or T j g) ∙ not_null T j u g x h
not_null T k t f x h = refl

silent_sequence : (fs : Forms) → is_silent listed (sequence fs) ≡ true → sequence no_forms ≡ sequence fs
silent_sequence no_forms h = refl
silent_sequence (more f fs) h = cc

silent_named : (es : Named) → is_silent listed (named es) ≡ true → named no_named ≡ named es
silent_named no_named h = refl
silent_named (under n f es) h = cc

silent_listed : (T : Tables) (k : Kind) (t : Tree) (f : Form) → Taken T k t f → mode_fits listed k ≡ true
    → is_silent listed f ≡ true → empty_of k ≡ f
silent_listed T k t f (as_list j ts) g h = silent_sequence _ h
silent_listed T k t f (as_map j ms) g h = silent_named _ h
silent_listed T k t f x g h = cc

silent_optional : (f : Form) → is_silent optional f ≡ true → absent ≡ f
silent_optional absent h = refl
silent_optional f h = cc

silent_formatted : (f : Form) → is_silent formatted f ≡ true → unset ≡ f
silent_formatted unset h = refl
silent_formatted f h = cc

silent_flagged : (f : Form) → is_silent flagged f ≡ true → leaf (flag false) ≡ f
silent_flagged (leaf (flag false)) h = refl
silent_flagged (leaf null) h = cc
silent_flagged f h = cc

-- a form that was read and for which a row writes nothing is the default of the row
pub silent_default : (T : Tables) (m : Mode) (k : Kind) (t : Tree) (f : Form) → Taken T k t f → mode_fits m k ≡ true
    → is_silent m f ≡ true → default_of m k ≡ f
silent_default T optional k t f x g h = silent_optional f h
silent_default T listed k t f x g h = silent_listed T k t f x g h
silent_default T flagged k t f x g h = silent_flagged f h
silent_default T formatted k t f x g h = silent_formatted f h
silent_default T m k t f x g h = cc

-- a row takes what it writes for a form, and reads that form again
abbrev pub Settled : (T : Tables) → Row → Form → Type 0
Settled T w f = TakesAll w (row_print w (printed T f)) × (slot_of_own w (reads T (row_print w (printed T f))) ≡ f)

settled_silent : (T : Tables) (n : List ℕ) (m : Mode) (k : Kind) (f : Form) → is_silent m f ≡ true
    → default_of m k ≡ f → Settled T (row n m k) f
settled_silent T n m k f h e =
    let p : row_print (row n m k) (printed T f) ≡ [] = ap (λ b. cond b [] (one n (print T k f))) h in (
      subst (λ es. TakesAll (row n m k) es) (sym p) tt,
      ap (λ es. slot_of_own (row n m k) (reads T es)) p ∙ e,
    )

settled_written : (T : Tables) (n : List ℕ) (m : Mode) (k : Kind) (f : Form) → is_silent m f ≡ false
    → cond (is_null (print T k f)) (default_of m k) (again T k f) ≡ f → Settled T (row n m k) f
settled_written T n m k f h e =
    let p : row_print (row n m k) (printed T f) ≡ one n (print T k f) = ap (λ b. cond b [] (one n (print T k f))) h in (
      subst (λ es. TakesAll (row n m k) es) (sym p) (same_text-refl n, tt),
      ap (λ es. slot_of_own (row n m k) (reads T es)) p ∙ e,
    )

-- a row reads its default again from what it writes for it
pub settled_default : (T : Tables) (n : List ℕ) (m : Mode) (k : Kind) → mode_fits m k ≡ true
    → Settled T (row n m k) (default_of m k)
settled_default T n required k h = settled_written T n required k absent refl refl
settled_default T n optional k h = settled_silent T n optional k absent refl refl
settled_default T n nullable k h = settled_written T n nullable k absent refl refl
settled_default T n listed (list_of k) h = settled_silent T n listed (list_of k) (sequence no_forms) refl refl
settled_default T n listed (map_of k) h = settled_silent T n listed (map_of k) (named no_named) refl refl
settled_default T n flagged k h = settled_silent T n flagged k (leaf (flag false)) refl refl
settled_default T n (styled s) (one_of ws) h = settled_written T n (styled s) (one_of ws) (leaf (text s)) refl refl
settled_default T n formatted k h = settled_silent T n formatted k unset refl refl
settled_default T n listed k h = cc
settled_default T n (styled s) k h = cc

-- a row reads the form of a node other than null again from what it writes for it, if the form is read again under the
-- kind
pub settled_value : (T : Tables) (n : List ℕ) (m : Mode) (k : Kind) (t : Tree) → mode_fits m k ≡ true
    → is_null t ≡ false → again T k (form T k t) ≡ form T k t → (b : Bool) → is_silent m (form T k t) ≡ b
    → Settled T (row n m k) (form T k t)
settled_value T n m k t g h e true s =
    settled_silent T n m k (form T k t) s (silent_default T m k t (form T k t) (taken T k t) g s)
settled_value T n m k t g h e false s =
    settled_written T n m k (form T k t) s
    (ap (λ b. cond b (default_of m k) (again T k (form T k t))) (not_null T k t (form T k t) (taken T k t) h) ∙ e)
