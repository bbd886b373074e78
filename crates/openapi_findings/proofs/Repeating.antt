-- The names that occur more than once: there are none in a value with unique names, and how they are collected.
use Rattle.std.proofs.Common.{◌≡◌, ◌≢◌, ◌<◌, ◌≤◌, ◌+◌, ℕ, suc, Bool, true, false, cond, List, [], ◌∷◌, ◌++◌}
use Rattle.std.proofs.Common.{Option, Some, None, is_some, option_and_then, length, map, get_or, drop, append_assoc, append-nil}
use Rattle.std.proofs.Common.{arith, refl, sym, ap, ◌∙◌}
use Rattle.std.proofs.lemmas.List.{drop_all, drop_more, map-append}
use Rattle.std.proofs.lemmas.Slice.Eq.{bytes_eq-Decides}
use Rattle.std.specs.Borrow.{Bor}
use Rattle.std.specs.Global.{Vec}
use Rattle.std.specs.Str.{bytes_eq}
use Rattle.json.proofs.Found.{not_found, one_reading, Some_inj}
use Rattle.json.specs.Json as json
use Rattle.json.specs.Json.{document, if_last}
use Rattle.json.specs.Lex.{tokens}
use Rattle.json.specs.Strict.{AreDistinct, HasUniqueKeys, ItemsHaveUniqueKeys, MembersHaveUniqueKeys, keys}
use Rattle.json.specs.Token.{Token}
use Rattle.json.specs.Value.{items_view, members_view, value_view}
use Rattle.json.specs.declared.value.Value.{Value}
use Rattle.openapi_json.specs.Ordered.{parsed}
use Rattle.openapi_map.specs.Entries.{Entries, get, insert_entry}
use Rattle.openapi_node.specs.Place.{Place, indexed, named}
use Rattle.openapi_findings.specs.Repeated.{of_all, repeated_if, repeated_in, repeated_in_items, repeated_in_members, stated_of_entry}
use Rattle.openapi_findings.specs.Stated.{Statement, statement_of}
use Rattle.openapi_findings.specs.declared.report.Report.{Report}

-- ---- one text has one value, however deep it may nest

-- how deep a text from which a node is read may nest
abbrev read_depth : ℕ
read_depth = 127

pub one_value : (text : List ℕ) (j k : json.Json) → parsed text ≡ Some j → document text ≡ Some k → j ≡ k
one_value text j k e f = by (json.value read_depth (tokens text)) (json.value json.max_depth (tokens text)) refl refl e f
  where
    last : json.Json × List Token → Option json.Json
    last p = if_last p.0 p.1

    by : (o p : Option (json.Json × List Token)) → json.value read_depth (tokens text) ≡ o → json.value json.max_depth (tokens text) ≡ p
        → option_and_then last o ≡ Some j → option_and_then last p ≡ Some k → j ≡ k
    by None p a b e f = not_found j e
    by (Some x) None a b e f = not_found k f
    by (Some x) (Some y) a b e f =
        Some_inj j k (sym e ∙ ap (option_and_then last) (one_reading read_depth json.max_depth (tokens text) x y a b) ∙ f)

-- ---- names that are unique

-- the lists of all entries are empty
abbrev AllEmpty : Entries (List Statement) → Type 0
AllEmpty [] = Unit {0}
AllEmpty (e ∷ es) = (e.1 ≡ []) × AllEmpty es

all_empty : (es : Entries (List Statement)) → AllEmpty es → of_all es ≡ []
all_empty [] h = refl
all_empty (e ∷ es) h = λ i. h.0 i ++ all_empty es h.1 i

empty_put : (es : Entries (List Statement)) (k : List ℕ) (v : List Statement) → v ≡ [] → AllEmpty es → AllEmpty (insert_entry es k v)
empty_put [] k v e h = (e, tt)
empty_put (x ∷ es) k v e h = by (bytes_eq k x.0) (empty_put es k v e h.1)
  where
    by : (b : Bool) → AllEmpty (insert_entry es k v) → AllEmpty (cond b ((x.0, v) ∷ es) (x ∷ insert_entry es k v))
    by true rest = (e, h.1)
    by false rest = (h.0, rest)

-- a name that is not in a map is not in it after an insert under another name
absent_put : (n : List ℕ) (es : Entries (List Statement)) (k : List ℕ) (v : List Statement) → bytes_eq n k ≡ false
    → get n es ≡ None → get n (insert_entry es k v) ≡ None
absent_put n [] k v d h = ap (λ b. cond b (Some v) None) d
absent_put n (x ∷ es) k v d h = by (bytes_eq k x.0) (parts (bytes_eq n x.0) refl h) (absent_put n es k v d)
  where
    parts : (b : Bool) → bytes_eq n x.0 ≡ b → cond b (Some x.1) (get n es) ≡ None → (bytes_eq n x.0 ≡ false) × (get n es ≡ None)
    parts true e h = not_found x.1 (sym h)
    parts false e h = (e, h)

    by : (c : Bool) → (bytes_eq n x.0 ≡ false) × (get n es ≡ None) → (get n es ≡ None → get n (insert_entry es k v) ≡ None)
        → get n (cond c ((x.0, v) ∷ es) (x ∷ insert_entry es k v)) ≡ None
    by true p more = ap (λ b. cond b (Some v) (get n es)) p.0 ∙ p.1
    by false p more = ap (λ b. cond b (Some x.1) (get n (insert_entry es k v))) p.0 ∙ more p.1

-- none of these names is in the map
abbrev AllAbsent : Entries (List Statement) → List (List ℕ) → Type 0
AllAbsent es [] = Unit {0}
AllAbsent es (n ∷ ns) = (get n es ≡ None) × AllAbsent es ns

all_absent : (ns : List (List ℕ)) → AllAbsent [] ns
all_absent [] = tt
all_absent (n ∷ ns) = (refl, all_absent ns)

-- none of these names is the same as another
abbrev AllOther : List ℕ → List (List ℕ) → Type 0
AllOther k [] = Unit {0}
AllOther k (n ∷ ns) = (bytes_eq n k ≡ false) × AllOther k ns

absents_put : (es : Entries (List Statement)) (k : List ℕ) (v : List Statement) (ns : List (List ℕ)) → AllOther k ns → AllAbsent es ns
    → AllAbsent (insert_entry es k v) ns
absents_put es k v [] o h = tt
absents_put es k v (n ∷ ns) o h = (absent_put n es k v o.0 h.0, absents_put es k v ns o.1 h.1)

apart : (n k : List ℕ) → k ≢ n → bytes_eq n k ≡ false
apart n k d = by (bytes_eq n k) refl
  where
    by : (b : Bool) → bytes_eq n k ≡ b → bytes_eq n k ≡ false
    by true e = absurd (d (sym ((bytes_eq-Decides n k).0 e)))
    by false e = e

all_other : (k : List ℕ) (ns : List (List ℕ)) → ((i : ℕ) (d : List ℕ) → i < length ns → k ≢ get_or ns i d) → AllOther k ns
all_other k [] h = tt
all_other k (n ∷ ns) h = (apart n k (h 0 n (omega arith)), all_other k ns (λ i d lt. h (suc i) d (omega (arith, lt))))

first_other : (k : List ℕ) (ns : List (List ℕ)) → AreDistinct (k ∷ ns) → AllOther k ns
first_other k ns h = all_other k ns (λ i d lt. h 0 (suc i) d (omega arith) (omega (arith, lt)))

rest_distinct : (k : List ℕ) (ns : List (List ℕ)) → AreDistinct (k ∷ ns) → AreDistinct ns
rest_distinct k ns h = λ i j d lt le. h (suc i) (suc j) d (omega (arith, lt)) (omega (arith, le))

mutual
  pub none_repeated : (p : Place) (j : json.Json) → HasUniqueKeys j → repeated_in p j ≡ []
  none_repeated p json.null u = refl
  none_repeated p (json.boolean b) u = refl
  none_repeated p (json.number s) u = refl
  none_repeated p (json.string s) u = refl
  none_repeated p (json.array js) u = none_in_items p 0 js u
  none_repeated p (json.object ms) u =
      all_empty (repeated_in_members p ms []) (none_in_members p ms [] tt u.0 (all_absent (keys ms)) u.1)

  none_in_items : (p : Place) (i : ℕ) (js : json.Items) → ItemsHaveUniqueKeys js → repeated_in_items p i js ≡ []
  none_in_items p i json.no_items u = refl
  none_in_items p i (json.item j js) u =
      (λ x. none_repeated (p ++ indexed i ∷ []) j u.0 x ++ none_in_items p (i + 1) js u.1 x)

  none_in_members : (p : Place) (ms : json.Members) (es : Entries (List Statement)) → AllEmpty es → AreDistinct (keys ms)
      → AllAbsent es (keys ms) → MembersHaveUniqueKeys ms → AllEmpty (repeated_in_members p ms es)
  none_in_members p json.no_members es h d a u = h
  none_in_members p (json.member k j ms) es h d a u =
      let q = p ++ named k ∷ [] in
      let v = repeated_if (is_some (get k es)) q ++ repeated_in q j in
      let none : v ≡ [] = λ x. repeated_if (is_some (a.0 x)) q ++ none_repeated q j u.0 x in
      none_in_members p ms (insert_entry es k v) (empty_put es k v none h) (rest_distinct k (keys ms) d)
      (absents_put es k v (keys ms) (first_other k (keys ms) d) a.1) u.1

-- in a text with unique names none occurs more than once
pub none_in_text : (text : List ℕ) (j k : json.Json) → parsed text ≡ Some j → document text ≡ Some k → HasUniqueKeys k
    → repeated_in [] j ≡ []
none_in_text text j k e f u = ap (repeated_in []) (one_value text j k e f) ∙ none_repeated [] k u

-- ---- how they are collected

-- with the reports of the next item, those so far and those of the rest are all
pub items_next : {A : Type 0} (p : Place) (vs : List (Value A)) (i : ℕ) (v : Value A) (old new more : List Report)
    (all : List Statement) → i < length vs → v ≡ get_or vs i v → new ≡ old ++ more
    → map statement_of more ≡ repeated_in (p ++ indexed i ∷ []) (value_view v)
    → map statement_of old ++ repeated_in_items p i (items_view (drop i vs)) ≡ all
    → map statement_of new ++ repeated_in_items p (i + 1) (items_view (drop (i + 1) vs)) ≡ all
items_next p vs i v old new more all lt is n m h =
    let rest = repeated_in_items p (i + 1) (items_view (drop (i + 1) vs)) in
    let split : repeated_in_items p i (items_view (drop i vs)) ≡ repeated_in (p ++ indexed i ∷ []) (value_view v) ++ rest =
    ap (λ us. repeated_in_items p i (items_view us)) (drop_more vs i v lt)
    ∙ ap (λ w. repeated_in (p ++ indexed i ∷ []) (value_view w) ++ rest) (sym is) in
    ap (λ l. map statement_of l ++ rest) n ∙ ap (λ l. l ++ rest) (map-append statement_of old more)
    ∙ append_assoc (map statement_of old) (map statement_of more) rest
    ∙ ap (λ l. map statement_of old ++ l) (ap (λ l. l ++ rest) m ∙ sym split) ∙ h

-- if no item is left, the reports so far are all
pub items_end : {A : Type 0} (p : Place) (vs : List (Value A)) (i : ℕ) (ns all : List Statement) → length vs ≤ i
    → ns ++ repeated_in_items p i (items_view (drop i vs)) ≡ all → ns ≡ all
items_end p vs i ns all le h =
    sym (append-nil ns) ∙ ap (λ us. ns ++ repeated_in_items p i (items_view us)) (sym (drop_all i vs le)) ∙ h

-- to insert reports under a name is to insert their statements under it
reports_put : (es : Entries (Vec Report)) (k : List ℕ) (v : Vec Report)
    → map stated_of_entry (insert_entry es k v) ≡ insert_entry (map stated_of_entry es) k (map statement_of v.items)
reports_put [] k v = refl
reports_put (e ∷ es) k v = by (bytes_eq k e.0) (reports_put es k v)
  where
    by : (b : Bool) → map stated_of_entry (insert_entry es k v) ≡ insert_entry (map stated_of_entry es) k (map statement_of v.items)
        → map stated_of_entry (cond b ((e.0, v) ∷ es) (e ∷ insert_entry es k v))
        ≡ cond b ((e.0, map statement_of v.items) ∷ map stated_of_entry es)
        (stated_of_entry e ∷ insert_entry (map stated_of_entry es) k (map statement_of v.items))
    by true rest = refl
    by false rest = ap (λ l. stated_of_entry e ∷ l) rest

-- a name is in a map of reports if and only if it is in that of their statements
some_same : (n : List ℕ) (es : Entries (Vec Report)) → is_some (get n es) ≡ is_some (get n (map stated_of_entry es))
some_same n [] = refl
some_same n (e ∷ es) = by (bytes_eq n e.0) (some_same n es)
  where
    by : (b : Bool) → is_some (get n es) ≡ is_some (get n (map stated_of_entry es))
        → is_some (cond b (Some e.1) (get n es)) ≡ is_some (cond b (Some (map statement_of e.1.items)) (get n (map stated_of_entry es)))
    by true rest = refl
    by false rest = rest

-- with the reports of the next member, those so far and those of the rest are all
pub members_next : {A : Type 0} (p : Place) (ms : List (Bor (List ℕ) × Value A)) (i : ℕ) (m : Bor (List ℕ) × Value A)
    (old new : Entries (Vec Report)) (k : List ℕ) (v : Vec Report) (b : Bool) (all : Entries (List Statement)) → i < length ms
    → m ≡ get_or ms i m → k ≡ m.0.now → b ≡ is_some (get m.0.now old) → new ≡ insert_entry old k v
    → map statement_of v.items
    ≡ repeated_if b (p ++ named m.0.now ∷ []) ++ repeated_in (p ++ named m.0.now ∷ []) (value_view m.1)
    → repeated_in_members p (members_view (drop i ms)) (map stated_of_entry old) ≡ all
    → repeated_in_members p (members_view (drop (i + 1) ms)) (map stated_of_entry new) ≡ all
members_next {A = A} p ms i m old new k v b all lt is name known n h each =
    let rest = members_view (drop (i + 1) ms) in
    let before = map stated_of_entry old in
    let own : Bor (List ℕ) × Value A → List Statement = λ w.
    repeated_if (is_some (get w.0.now before)) (p ++ named w.0.now ∷ []) ++ repeated_in (p ++ named w.0.now ∷ []) (value_view w.1) in
    let same : map statement_of v.items ≡ own m =
    h ∙ ap (λ c. repeated_if c (p ++ named m.0.now ∷ []) ++ repeated_in (p ++ named m.0.now ∷ []) (value_view m.1))
    (known ∙ some_same m.0.now old) in
    let put : map stated_of_entry new ≡ insert_entry before m.0.now (own m) =
    ap (map stated_of_entry) n ∙ reports_put old k v ∙ (λ j. insert_entry before (name j) (same j)) in
    let split : repeated_in_members p (members_view (drop i ms)) before
    ≡ repeated_in_members p rest (insert_entry before m.0.now (own m)) =
    ap (λ us. repeated_in_members p (members_view us) before) (drop_more ms i m lt)
    ∙ ap (λ w. repeated_in_members p rest (insert_entry before w.0.now (own w))) (sym is) in
    ap (repeated_in_members p rest) put ∙ sym split ∙ each

-- with the reports of the next entry, those so far and those of the rest are all
pub entries_next : (es : Entries (Vec Report)) (e : List ℕ × Vec Report) (left : Entries (Vec Report))
    (old new : List Report) (all : List Statement) → es ≡ e ∷ left → new ≡ old ++ e.1.items
    → map statement_of old ++ of_all (map stated_of_entry es) ≡ all → map statement_of new ++ of_all (map stated_of_entry left) ≡ all
entries_next es e left old new all is n h =
    let rest = of_all (map stated_of_entry left) in
    ap (λ l. map statement_of l ++ rest) n ∙ ap (λ l. l ++ rest) (map-append statement_of old e.1.items)
    ∙ append_assoc (map statement_of old) (map statement_of e.1.items) rest
    ∙ ap (λ l. map statement_of old ++ of_all (map stated_of_entry l)) (sym is) ∙ h

-- if no entry is left, the reports so far are all
pub entries_end : (es : Entries (Vec Report)) (ns all : List Statement) → es ≡ []
    → ns ++ of_all (map stated_of_entry es) ≡ all → ns ≡ all
entries_end es ns all is h = sym (append-nil ns) ∙ ap (λ l. ns ++ of_all (map stated_of_entry l)) (sym is) ∙ h
