-- Distinct names and keys, as facts about each pair of entries.
use Rattle.std.proofs.Common.{ℕ, Bool, true, false, not, ◌&&◌, List, [], ◌∷◌, ◌≡◌, refl, ap, ◌∙◌, subst, cond, sym}
use Rattle.std.proofs.lemmas.Bool.{and_parts, and_from, not-true, both_ways}
use Rattle.openapi_tables.specs.Prelude.{each, only, every, same_text, Entry, items_list, members_of, Class, no_forms}
use Rattle.openapi_tables.specs.Prelude.{Form, sequence, named, fields, forms_of, named_of, Key, name, coded, Pair}
use Rattle.openapi_tables.specs.Prelude.{Forms, Named, f_named, named_list, of_forms, forms_list, more, Choice}
use Rattle.openapi_tables.specs.Prelude.{same_key, key_in, text_of_key, is_written}
use Rattle.openapi_node.specs.Tree.{Tree, list, object, Items, no_items, item, items_of}
use Rattle.openapi_tables.specs.Form.{Shown}
use Rattle.openapi_node.specs.Named.{lacks, well_named}
use Rattle.openapi_tables.specs.Distinct.{keys_differ, face_distinct, distinct}
use Rattle.openapi_tables.proofs.ListLaws.{Each, every_each, every_from, Each_within-only, same_text_eq, each_under}
use Rattle.openapi_tables.proofs.ListLaws.{same_bytes}
use Rattle.std.specs.Str.{bytes_eq}
use Rattle.openapi_tables.proofs.FormLaws.{show, on_pair, of_forms-of, of_named-of, of_named_lem}
use Rattle.openapi_tables.proofs.KeyLaws.{Distinct}
use Rattle.openapi_tables.proofs.RowLaws.{not_both}
use Rattle.openapi_tables.proofs.CodeLaws.{same_code_eq}
use Rattle.openapi_tables.proofs.ReadProper.{same_key-refl}

-- no two entries of a list have the same name
abbrev pub Differ : {X : Type 0} → List (Entry X) → Type 0
Differ [] = Unit {0}
Differ {X} (e ∷ es) = Each (λ (d : Entry X). same_text e.name d.name ≡ false) es × Differ es

not_false : (b : Bool) → b ≡ false → not b ≡ true
not_false b h = ap not h

every_not : {A : Type 0} → (p : A → Bool) (xs : List A) → every (λ x. not (p x)) xs ≡ true → Each (λ x. p x ≡ false) xs
every_not p xs h = each_under (λ x (e : not (p x) ≡ true). not-true (p x) e) xs (every_each (λ x. not (p x)) xs h)

not_every : {A : Type 0} → (p : A → Bool) (xs : List A) → Each (λ x. p x ≡ false) xs → every (λ x. not (p x)) xs ≡ true
not_every p xs h = every_from (λ x. not (p x)) xs (each_under (λ x (e : p x ≡ false). not_false (p x) e) xs h)

pub of_keys_differ : {X : Type 0} → (es : List (Pair X)) → keys_differ es ≡ true → Distinct es
of_keys_differ [] h = tt
of_keys_differ {X} (e ∷ es) h =
    let p = and_parts _ (keys_differ es) h in
    (every_not (λ (d : Pair X). same_key e.key d.key) es p.0, of_keys_differ es p.1)

pub to_keys_differ : {X : Type 0} → (es : List (Pair X)) → Distinct es → keys_differ es ≡ true
to_keys_differ [] h = refl
to_keys_differ {X} (e ∷ es) h = and_from _ (keys_differ es) (not_every (λ (d : Pair X). same_key e.key d.key) es h.0)
    (to_keys_differ es h.1)

-- members with distinct names keep distinct names if one more is put in front of them, or is left out, by a boolean
only_differ : {X : Type 0} → (p : Entry X → Bool) (b : Bool) (e : Entry X) (es : List (Entry X))
    → Each (λ (d : Entry X). same_text e.name d.name ≡ false) es
    → Differ (only p es) → Differ (cond b (e ∷ only p es) (only p es))
only_differ {X} p true e es h g = (Each_within-only (λ (d : Entry X). same_text e.name d.name ≡ false) p es h, g)
only_differ p false e es h g = g

-- if no two members have the same name, no two of those that pass a test do
pub Differ-only : {X : Type 0} → (p : Entry X → Bool) (es : List (Entry X)) → Differ es → Differ (only p es)
Differ-only p [] h = tt
Differ-only p (e ∷ es) h = only_differ p (p e) e es h.0 (Differ-only p es h.1)

-- a name that no member has differs from the name of each member
lacks_apart : (n : List ℕ) (es : List (Entry Tree)) → lacks n (members_of es) ≡ true
    → Each (λ (d : Entry Tree). same_text n d.name ≡ false) es
lacks_apart n [] h = tt
lacks_apart n (e ∷ es) h =
    let p = and_parts (not (bytes_eq n e.name)) (lacks n (members_of es)) h in
    (same_bytes n e.name ∙ not-true (bytes_eq n e.name) p.0, lacks_apart n es p.1)

apart_lacks : (n : List ℕ) (es : List (Entry Tree)) → Each (λ (d : Entry Tree). same_text n d.name ≡ false) es
    → lacks n (members_of es) ≡ true
apart_lacks n [] h = refl
apart_lacks n (e ∷ es) h =
    and_from (not (bytes_eq n e.name)) (lacks n (members_of es))
    (not_false (bytes_eq n e.name) (sym (same_bytes n e.name) ∙ h.0)) (apart_lacks n es h.1)

-- the members have distinct names and well named values
abbrev pub WellNamed : List (Entry Tree) → Type 0
WellNamed es = Differ es × Each (λ (e : Entry Tree). well_named e.value ≡ true) es

-- the members of a well named object have distinct names and well named values
pub of_object : (es : List (Entry Tree)) → well_named (object (members_of es)) ≡ true → WellNamed es
of_object [] h = (tt, tt)
of_object (e ∷ es) h =
    let rest = well_named (object (members_of es)) in
    let p = and_parts (lacks e.name (members_of es)) (well_named e.value && rest) h in
    let q = and_parts (well_named e.value) rest p.1 in
    let w = of_object es q.1 in
    ((lacks_apart e.name es p.0, w.0), (q.0, w.1))

-- an object is well named if its members have distinct names and well named values
pub to_object : (es : List (Entry Tree)) → WellNamed es → well_named (object (members_of es)) ≡ true
to_object [] h = refl
to_object (e ∷ es) h =
    let rest = well_named (object (members_of es)) in
    and_from (lacks e.name (members_of es)) (well_named e.value && rest) (apart_lacks e.name es h.0.0)
    (and_from (well_named e.value) rest h.1.0 (to_object es (h.0.1, h.1.1)))

-- each item of a well named list is well named
pub of_list_named : (ts : Items) → well_named (list ts) ≡ true → Each (λ t. well_named t ≡ true) (items_list ts)
of_list_named no_items h = tt
of_list_named (item t ts) h = let p = and_parts (well_named t) _ h in (p.0, of_list_named ts p.1)

-- a list of well named items is well named
pub to_list_named : (ts : List Tree) → Each (λ t. well_named t ≡ true) ts → well_named (list (items_of ts)) ≡ true
to_list_named [] h = refl
to_list_named (t ∷ ts) h = and_from (well_named t) _ h.0 (to_list_named ts h.1)

-- if each form of a list is distinct, the check of all of them passes
all_distinct : (fs : List Form) → Each (λ f. distinct f ≡ true) fs
    → every (λ (p : Shown Bool). p.answer) (each (show face_distinct) fs) ≡ true
all_distinct [] h = refl
all_distinct (f ∷ fs) h = and_from (distinct f) _ h.0 (all_distinct fs h.1)

-- a sequence of distinct forms is distinct
pub distinct-sequence : (fs : List Form) → Each (λ f. distinct f ≡ true) fs → distinct (sequence (forms_of fs)) ≡ true
distinct-sequence fs h = ap (λ l. every (λ (p : Shown Bool). p.answer) l) (of_forms-of face_distinct fs)
    ∙ all_distinct fs h

-- the form of an object is distinct if each of its slots is
pub distinct-fields : (c : Choice) (fs : List Form) → Each (λ f. distinct f ≡ true) fs
    → distinct (fields c (forms_of fs)) ≡ true
distinct-fields c fs h = ap (λ l. every (λ (p : Shown Bool). p.answer) l) (of_forms-of face_distinct fs)
    ∙ all_distinct fs h

pairs_distinct : (es : List (Pair Form)) → Distinct es → Each (λ (e : Pair Form). distinct e.value ≡ true) es
    → face_distinct (f_named (each (on_pair (show face_distinct)) es)) ≡ true
pairs_distinct es h g = and_from _ _ (to_keys_differ (each (on_pair (show face_distinct)) es) (keys es h)) (values es g)
  where
    apart : (k : Key) (ds : List (Pair Form)) → Each (λ (d : Pair Form). same_key k d.key ≡ false) ds
        → Each (λ (d : Pair (Shown Bool)). same_key k d.key ≡ false) (each (on_pair (show face_distinct)) ds)
    apart k [] g = tt
    apart k (d ∷ ds) g = (g.0, apart k ds g.1)

    keys : (es : List (Pair Form)) → Distinct es → Distinct (each (on_pair (show face_distinct)) es)
    keys [] h = tt
    keys (e ∷ es) h = (apart e.key es h.0, keys es h.1)

    values : (es : List (Pair Form)) → Each (λ (e : Pair Form). distinct e.value ≡ true) es
        → every (λ (e : Pair (Shown Bool)). e.value.answer) (each (on_pair (show face_distinct)) es) ≡ true
    values [] g = refl
    values (e ∷ es) g = and_from (distinct e.value) _ g.0 (values es g.1)

-- a map or class is distinct if no two of its keys are the same and each of its values is distinct
pub distinct-named : (es : List (Pair Form)) → Distinct es → Each (λ (e : Pair Form). distinct e.value ≡ true) es
    → distinct (named (named_of es)) ≡ true
distinct-named es h g = ap (λ l. face_distinct (f_named l)) (of_named-of face_distinct es) ∙ pairs_distinct es h g

-- the keys of a distinct map or class differ, and its values are distinct
pub of_named : (es : Named) → distinct (named es) ≡ true
    → Distinct (named_list es) × Each (λ (e : Pair Form). distinct e.value ≡ true) (named_list es)
of_named es h =
    let p = and_parts _ _ (subst (λ l. face_distinct (f_named l) ≡ true) (of_named_lem face_distinct es) h) in (
      keys (named_list es) (of_keys_differ (each (on_pair (show face_distinct)) (named_list es)) p.0),
      values
          (named_list es) p.1,
    )
  where
    apart : (k : Key) (ds : List (Pair Form))
        → Each (λ (d : Pair (Shown Bool)). same_key k d.key ≡ false) (each (on_pair (show face_distinct)) ds)
        → Each (λ (d : Pair Form). same_key k d.key ≡ false) ds
    apart k [] g = tt
    apart k (d ∷ ds) g = (g.0, apart k ds g.1)

    keys : (es : List (Pair Form)) → Distinct (each (on_pair (show face_distinct)) es) → Distinct es
    keys [] h = tt
    keys (e ∷ es) h = (apart e.key es h.0, keys es h.1)

    values : (es : List (Pair Form))
        → every (λ (e : Pair (Shown Bool)). e.value.answer) (each (on_pair (show face_distinct)) es) ≡ true
        → Each (λ (e : Pair Form). distinct e.value ≡ true) es
    values [] g = tt
    values (e ∷ es) g = let p = and_parts (distinct e.value) _ g in (p.0, values es p.1)

-- if the check of all forms of a sequence or an object passes, each of them is distinct
pub of_forms_distinct : (fs : Forms) → every (λ (p : Shown Bool). p.answer) (of_forms face_distinct fs) ≡ true
    → Each (λ f. distinct f ≡ true) (forms_list fs)
of_forms_distinct no_forms h = tt
of_forms_distinct (more f fs) h = let p = and_parts (distinct f) _ h in (p.0, of_forms_distinct fs p.1)

-- two keys that are the same by `same_key` are equal
same_key_eq : (m n : Key) → same_key m n ≡ true → m ≡ n
same_key_eq (name m) (name n) h = ap name (same_text_eq m n h)
same_key_eq (coded c) (coded d) h = ap coded (same_code_eq c d h)
same_key_eq (name m) (coded d) h = cc
same_key_eq (coded c) (name n) h = cc

written_key : (c : Class) (m : Key) → is_written c m ≡ true → key_in c (text_of_key m) ≡ m
written_key c m h = same_key_eq (key_in c (text_of_key m)) m (and_parts (same_key (key_in c (text_of_key m)) m) _ h).0

-- two keys that differ, and are read again in a class, are written as different names
pub texts_differ : (c : Class) (m n : Key) → is_written c m ≡ true → is_written c n ≡ true → same_key m n ≡ false
    → same_text (text_of_key m) (text_of_key n) ≡ false
texts_differ c m n h g d = not_both (same_text (text_of_key m) (text_of_key n)) same
  where
    same : same_text (text_of_key m) (text_of_key n) ≡ true → ⊥
    same e =
        let p : m ≡ n = sym (written_key c m h) ∙ ap (key_in c) (same_text_eq (text_of_key m) (text_of_key n) e)
        ∙ written_key c n g in
        both_ways (same_key m n) d (subst (λ k. same_key m k ≡ true) p (same_key-refl m))
