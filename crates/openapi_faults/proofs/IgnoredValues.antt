-- Dropped members do not count: maps and lists.
use Rattle.std.proofs.Common.{◌≡◌, ℕ, suc, Bool, true, ◌&&◌, List, [], ◌∷◌, None}
use Rattle.std.proofs.Common.{refl, sym, ap, ◌∙◌, subst}
use Rattle.openapi_node.specs.Place.{Place, indexed}
use Rattle.openapi_node.specs.Tree.{Tree, list, object, Items, no_items, item}
use Rattle.openapi_tables.specs.Conforms.{conforms, root_conforms}
use Rattle.openapi_tables.specs.Faults.{asked, asks_items, asks_members, below, root_asks}
use Rattle.openapi_tables.specs.Form.{Form, an_item, fields, forms_of, named_of, reference, sequence}
use Rattle.openapi_tables.specs.Form as forms
use Rattle.openapi_tables.specs.Kind.{Kind}
use Rattle.openapi_tables.specs.Kind.{list_of, map_of}
use Rattle.openapi_tables.specs.Lists.{each, every, join}
use Rattle.openapi_tables.specs.Members.{trees}
use Rattle.openapi_tables.specs.Read.{form, root_form}
use Rattle.openapi_tables.specs.Tables.{final_tables}
use Rattle.openapi_tables.specs.Tree.{Entry, Seen, items_list, members_list, members_of, of_items, of_members}
use Rattle.openapi_tables.proofs.DistinctLaws.{Differ}
use Rattle.openapi_tables.proofs.FaultLaws.{askeds}
use Rattle.openapi_tables.proofs.ListLaws.{Each, each_all}
use Rattle.openapi_tables.proofs.ListLaws.{join-nil}
use Rattle.openapi_tables.proofs.PlainLaws.{is_plain}
use Rattle.openapi_tables.proofs.ReadLaws.{form-map}
use Rattle.openapi_tables.proofs.TreeLaws.{of_members-of}
use Rattle.openapi_faults.specs.Dropped.{dropped_at, dropped_in}
use Rattle.openapi_faults.specs.Laws.{dropped_places}
use Rattle.openapi_faults.specs.Without.{inside, items_without, without}
use Rattle.openapi_faults.proofs.DropPlaces.{lost, none_lost, places}
use Rattle.openapi_faults.proofs.Gather.{gather_join}
use Rattle.openapi_faults.proofs.Locations.{left}
use Rattle.openapi_faults.proofs.Picked.{ItemsAt, dropping, items_picked, members_picked}
use Rattle.openapi_faults.proofs.Trimmed.{Alike, Stays, all_fine, below_none, none_below, pairs_fine}
use Rattle.openapi_faults.proofs.IgnoredRows.{Good, Ignores, ValuesIgnore, all_stay}

-- ---- objects none of whose own members is dropped

pub no_reason : (es : List (Entry Tree)) → lost [] (λ n. None) es ≡ []
no_reason es = none_lost [] (λ n. None) es (each_all (λ e. refl) es)

pub only_here : (es : List (Entry Tree)) → join (lost [] (λ n. None) es) [] ≡ []
only_here es = join-nil (lost [] (λ n. None) es) ∙ no_reason es

-- ---- maps

module _ (k : Kind) (o : Good k) (es : List (Entry Tree)) (d : Differ es) (v : ValuesIgnore es) where
  pub map_drops : (l : List (Entry Tree)) → dropped_in (map_of k) (object (members_of l)) ≡ dropping (asks_members k (askeds final_tables l))
  map_drops l =
      ap (λ x. join x (dropping (asks_members k (of_members (root_asks final_tables) (members_of l)))))
      (no_reason (members_list (members_of (trees (of_members (root_asks final_tables) (members_of l))))))
      ∙ ap (λ x. dropping (asks_members k x)) (of_members-of (root_asks final_tables) l)

  pub map_stays : Each (Stays (dropped_places (map_of k) (object (members_of es))) k) es
  map_stays =
      all_stay (λ n. None) es (asks_members k (askeds final_tables es)) (dropped_places (map_of k) (object (members_of es)))
      (ap places (map_drops es)
      ∙ ap (λ l. join (places l) (places (dropping (asks_members k (askeds final_tables es))))) (sym (no_reason es)))
      k es o v (each_all (λ e. refl) es) (members_picked k es d)

  pub map_alike : Alike (map_of k) (object (members_of es))
      (object (members_of (left (dropped_places (map_of k) (object (members_of es))) es)))
  map_alike =
      let ps = dropped_places (map_of k) (object (members_of es)) in
      record {
        read = form-map final_tables k (left ps es) ∙ ap (λ l. forms.named (named_of l)) (pairs_fine ps forms.name k es map_stays)
            ∙ sym (form-map final_tables k es);
        verdict = ap (every (λ e. e.value.answer k)) (of_members-of (root_conforms final_tables) (left ps es))
            ∙ all_fine ps k es map_stays
            ∙ sym (ap (every (λ e. e.value.answer k)) (of_members-of (root_conforms final_tables) es));
        rest = map_drops (left ps es) ∙ none_below ps k es map_stays;
        plain = λ h. cc;
      }

-- ---- lists

module _ (k : Kind) (o : Good k) where
  -- an item is alike without the members dropped below its index
  pub item_alike : (ps : List Place) (i : ℕ) (t : Tree) → Ignores t → inside (indexed i) ps ≡ dropped_places k t
      → Alike k t (without (inside (indexed i) ps) t)
  item_alike ps i t v h = subst (λ l. Alike k t (without l t)) (sym h) (v k o)

  pub items_read : (ps : List Place) (i : ℕ) (ts : Items) → Each Ignores (items_list ts) → ItemsAt ps k i ts
      → each (λ (x : Seen (Kind → Form)). x.answer k) (of_items (root_form final_tables) (items_without ps i ts))
      ≡ each (λ (x : Seen (Kind → Form)). x.answer k) (of_items (root_form final_tables) ts)
  items_read ps i no_items v h = refl
  items_read ps i (item t ts) v h =
      ap (λ f. f ∷ each (λ (x : Seen (Kind → Form)). x.answer k) (of_items (root_form final_tables) (items_without ps (suc i) ts)))
      (item_alike ps i t v.0 h.0).read
      ∙ ap (λ l. form final_tables k t ∷ l) (items_read ps (suc i) ts v.1 h.1)

  pub items_verdict : (ps : List Place) (i : ℕ) (ts : Items) → Each Ignores (items_list ts) → ItemsAt ps k i ts
      → every (λ (x : Seen (Kind → Bool)). x.answer k) (of_items (root_conforms final_tables) (items_without ps i ts))
      ≡ every (λ (x : Seen (Kind → Bool)). x.answer k) (of_items (root_conforms final_tables) ts)
  items_verdict ps i no_items v h = refl
  items_verdict ps i (item t ts) v h =
      ap (λ b. b && every (λ (x : Seen (Kind → Bool)). x.answer k) (of_items (root_conforms final_tables) (items_without ps (suc i) ts)))
      (item_alike ps i t v.0 h.0).verdict
      ∙ ap (λ b. conforms final_tables k t && b) (items_verdict ps (suc i) ts v.1 h.1)

  pub items_rest : (ps : List Place) (i : ℕ) (ts : Items) → Each Ignores (items_list ts) → ItemsAt ps k i ts
      → dropping (asks_items k i (of_items (root_asks final_tables) (items_without ps i ts))) ≡ []
  items_rest ps i no_items v h = refl
  items_rest ps i (item t ts) v h =
      let u = without (inside (indexed i) ps) t in
      let rest = asks_items k (suc i) (of_items (root_asks final_tables) (items_without ps (suc i) ts)) in
      gather_join dropped_at (below (indexed i) (asked final_tables k u)) rest
      ∙ ap (λ l. join l (dropping rest)) (below_none (indexed i) k u (item_alike ps i t v.0 h.0).rest)
      ∙ items_rest ps (suc i) ts v.1 h.1

  pub items_plain : (ps : List Place) (i : ℕ) (ts : Items) → is_plain k ≡ true → Each Ignores (items_list ts) → ItemsAt ps k i ts
      → items_without ps i ts ≡ ts
  items_plain ps i no_items p v h = refl
  items_plain ps i (item t ts) p v h =
      ap (λ u. item u (items_without ps (suc i) ts)) ((item_alike ps i t v.0 h.0).plain p)
      ∙ ap (λ us. item t us) (items_plain ps (suc i) ts p v.1 h.1)

  pub list_alike : (ts : Items) → Each Ignores (items_list ts)
      → Alike (list_of k) (list ts) (without (dropped_places (list_of k) (list ts)) (list ts))
  list_alike ts v =
      let ps = dropped_places (list_of k) (list ts) in
      let h = items_picked k 0 ts in
      record {
        read = ap (λ l. sequence (forms_of l)) (items_read ps 0 ts v h);
        verdict = items_verdict ps 0 ts v h;
        rest = items_rest ps 0 ts v h;
        plain = λ p. ap list (items_plain ps 0 ts p v h);
      }
