-- Values that are computed in an order in which each name comes after all that it refers to.
use Rattle.std.proofs.Common.{◌≡◌, ◌≢◌, ℕ, ◌+◌, ◌<◌, List, [], ◌∷◌, ◌++◌, length, get_or, set, take, map, replicate, true, false, not, Option, Some, None, slice_get, ◌⊎◌, inl, inr, ⊎_elim, refl, sym, ap, ap₂, subst, ◌∙◌, arith}
use Rattle.std.specs.FinMap as finmap
use Rattle.std.specs.Option.{option_flatten}
use Rattle.std.proofs.lemmas.Bool.{true≢false, false≢true, false_from_ne_true, cases_Bool, cases_eq, and_from, eq-eqb, eqb-true, and_parts, not-true}
use Rattle.std.proofs.lemmas.List.{get_or-map, length-map, get_or-set_same, get_or-set_other, get_or-replicate, get_or_default, map_more, same_lists}
use Rattle.std.proofs.lemmas.Option.{same_Some, slice_get_within, slice_get-get_or}
use Rattle.base_model.specs.Options.{◌>>=◌}
use Rattle.base_model.specs.Text.{Characters}
use Rattle.custom_model.specs.Value.{CustomValue, CustomValues}
use Rattle.custom_model.specs.Expand.{Lookup}
use Rattle.custom_model.specs.Cycles.{DeclaredValues, references_of, edges, is_cyclic}
use Rattle.custom_model.specs.Computed.{after_keyword, computed}
use Rattle.custom_model.proofs.Among.{Among}
use Rattle.custom_model.proofs.WalkLemmas.{Walk, walk_of}
use Rattle.custom_model.proofs.CycleLemmas.{cyclic_walk}
use Rattle.custom_model.proofs.ExpandLemmas.{Agree, expansion_same}
use Rattle.custom_model.proofs.ComputedLemmas.{computed-undeclared, computed-invalid, computed-cyclic, computed-declared}
use Rattle.custom_properties.specs.declared.declared_map.DeclaredEntry.{DeclaredEntry}
use Rattle.cycle_search.specs.declared.mark.Mark.{Mark}
use Rattle.cycle_search.specs.Confirmed.{AreConfirmed, is_in_group}
use Rattle.custom_properties.specs.Entries.{declared_entry}
use Rattle.custom_properties.specs.Graph.{graph}
use Rattle.custom_properties.specs.KnownView.{value_at, known_in}
use Rattle.custom_properties.specs.Off.{off_cycles_of, off_cycles_at}
use Rattle.css_tokens.specs.Place.{place_in}
use Rattle.custom_properties.proofs.EntryLemmas.{length_of_entries, entry_at}
use Rattle.css_tokens.proofs.PlaceLemmas.{place_stands, place_of_name}
use Rattle.custom_properties.proofs.GraphLemmas.{all_of, name_at, no_entry, declared_at, undeclared, edge_in_graph}
use Rattle.custom_properties.proofs.MarkLemmas.{marked_cyclic, marked_free, refers_lower, stands_in_order}

no_mark : Mark
no_mark = record { group = 0; is_cyclic = false; head = 0; onward = 0; onward_rank = 0; arrival = 0; arrival_rank = 0 }

in_group : (group : ℕ) (o : Option Mark) → is_in_group group o ≡ true → (mark : Mark) × (o ≡ Some mark) × (mark.is_cyclic ≡ false) × (mark.group ≡ group)
in_group group None e = absurd (false≢true e)
in_group group (Some mark) e = let p = and_parts _ _ e in (mark, refl, not-true _ p.0, eqb-true _ _ p.1)

pub in_group_within : (marks : List Mark) (place group : ℕ) → is_in_group group (slice_get marks place) ≡ true → place < length marks
in_group_within marks place group e = let r = in_group group (slice_get marks place) e in slice_get_within marks place r.0 r.1

module _ (declared : DeclaredValues) (inherited : CustomValues) where
  abbrev name : ℕ → Characters
  name = name_at declared

  abbrev value : Lookup
  value = computed declared inherited

  abbrev count : ℕ
  count = length (all_of declared)

  -- where the values that are looked up are those computed, so is the one that comes of them
  by_declared : (text : Characters) (values : Lookup) (o : Option CustomValue) → finmap.get declared text ≡ Some o → is_cyclic declared text ≡ false → Agree values value (references_of (Some o)) → off_cycles_of values (finmap.get inherited text) o ≡ value text
  by_declared text values None e free agree = sym (computed-invalid declared inherited text e)
  by_declared text values (Some tokens) e free agree =
      ap (λ r. r >>= after_keyword (finmap.get inherited text)) (expansion_same values value tokens agree) ∙ sym (computed-declared declared inherited text tokens e free)

  pub off_computed : (values : Lookup) (place : ℕ) → place < count → is_cyclic declared (name place) ≡ false → Agree values value (edges declared (name place)) → off_cycles_at values inherited (get_or (all_of declared) place no_entry) ≡ value (name place)
  off_computed values place within free agree =
      by_declared (name place) values (get_or (all_of declared) place no_entry).1 (declared_at declared place within) free
      (subst (λ o. Agree values value (references_of o)) (declared_at declared place within) agree)

  -- a graph without edges
  module _ (empty : graph declared ≡ []) where
    no_edge : (from to : Characters) (place : ℕ) → Among to (edges declared from) → place_in (all_of declared) to ≡ Some place → ⊥
    no_edge from to place m e =
        let r = edge_in_graph declared from to place m e in subst (λ l. Among r.0 l) empty r.3

    no_walk : (from : Characters) (via : List Characters) (to : Characters) (place : ℕ) → place_in (all_of declared) to ≡ Some place → Walk (edges declared) from via to → ⊥
    no_walk from [] to place e w = no_edge from to place w e
    no_walk from (next ∷ via) to place e w = no_walk next via to place e w.1

    pub apart_at : (place : ℕ) → place < count → off_cycles_at (finmap.get inherited) inherited (get_or (all_of declared) place no_entry) ≡ value (name place)
    apart_at place within =
        off_computed (finmap.get inherited) place within
        (false_from_ne_true (is_cyclic declared (name place)) (λ cyclic.
        let walk = walk_of (edges declared) (finmap.len declared) (name place) (name place) (cyclic_walk declared (name place) cyclic) in
        no_walk (name place) walk.0 (name place) place (place_of_name (all_of declared) place no_entry within (finmap.entries_sorted declared)) walk.2))
        (λ text m. by text (place_in (all_of declared) text) refl m)
      where
        by : (text : Characters) (o : Option ℕ) → place_in (all_of declared) text ≡ o → Among text (edges declared (name place)) → finmap.get inherited text ≡ value text
        by text None e m = sym (computed-undeclared declared inherited text (undeclared declared text e))
        by text (Some to) e m = absurd (no_edge (name place) text to m e)

  -- a graph whose marks are confirmed
  module _ (marks : List Mark) (order : List ℕ) (confirmed : AreConfirmed (graph declared) marks order) (full : length marks ≡ count) where
    -- the values of names on cycles and of names in lower groups are there
    abbrev pub AreRight : List (Option CustomValue) → ℕ → Type 0
    AreRight values group = (k : ℕ) (mark : Mark) → slice_get marks k ≡ Some mark → (mark.is_cyclic ≡ true) ⊎ (mark.group < group) → get_or values k None ≡ value (name k)

    on_cycle : (text : Characters) (o : Option CustomValue) → finmap.get declared text ≡ Some o → is_cyclic declared text ≡ true → None ≡ value text
    on_cycle text None e cyclic = sym (computed-invalid declared inherited text e)
    on_cycle text (Some tokens) e cyclic = sym (computed-cyclic declared inherited text tokens e cyclic)

    marked_within : (k : ℕ) (mark : Mark) → slice_get marks k ≡ Some mark → k < count
    marked_within k mark at = let h = slice_get_within marks k mark at in omega arith

    pub right_first : AreRight (replicate count None) 0
    right_first k mark at why =
        let within = marked_within k mark at in
        get_or-replicate count k None None within
        ∙ ⊎_elim (λ cyclic. on_cycle (name k) (get_or (all_of declared) k no_entry).1 (declared_at declared k within) (marked_cyclic declared marks order confirmed k mark at cyclic)) (λ l. absurd (omega arith)) why

    -- what a free name looks up is there
    agrees : (values : List (Option CustomValue)) (group place : ℕ) (mark : Mark) → length values ≡ count → AreRight values group → slice_get marks place ≡ Some mark → mark.is_cyclic ≡ false → mark.group ≡ group → Agree (known_in declared values inherited) value (edges declared (name place))
    agrees values group place mark long right at free same text m = by (place_in (all_of declared) text) refl
      where
        by : (o : Option ℕ) → place_in (all_of declared) text ≡ o → value_at values (finmap.get inherited text) o ≡ value text
        by None e = sym (computed-undeclared declared inherited text (undeclared declared text e))
        by (Some to) e =
            let stands = place_stands (all_of declared) text to no_entry e in
            let lower = refers_lower declared marks order confirmed place mark text to (marked_within place mark at) at free m e in
            let inside : to < length values = omega (arith, stands.0) in
            ap option_flatten (slice_get-get_or values to None inside)
            ∙ (right to lower.0 lower.1 (inr (omega (arith, lower.2))) ∙ ap value stands.1)

    lower_or_here : (mark : Mark) (group : ℕ) → (mark.is_cyclic ≡ true) ⊎ (mark.group < group + 1) → ((mark.is_cyclic ≡ true) ⊎ (mark.group < group)) ⊎ ((mark.is_cyclic ≡ false) × (mark.group ≡ group))
    lower_or_here mark group why = by (cases_Bool mark.is_cyclic) why
      where
        by : (mark.is_cyclic ≡ true) ⊎ (mark.is_cyclic ≡ false) → (mark.is_cyclic ≡ true) ⊎ (mark.group < group + 1) → ((mark.is_cyclic ≡ true) ⊎ (mark.group < group)) ⊎ ((mark.is_cyclic ≡ false) × (mark.group ≡ group))
        by (inl c) why = inl (inl c)
        by (inr f) (inl c) = inl (inl c)
        by (inr f) (inr l) = ⊎_elim (λ e. inr (f, e)) (λ d. inl (inr (omega (arith, d)))) (cases_eq mark.group group)

    -- one group more, whose name has a value now
    pub right_set : (values : List (Option CustomValue)) (group place : ℕ) (v : Option CustomValue) → length values ≡ count → AreRight values group → slice_get order group ≡ Some place → is_in_group group (slice_get marks place) ≡ true
        → v ≡ off_cycles_at (known_in declared values inherited) inherited (get_or (all_of declared) place no_entry) → AreRight (set values place v) (group + 1)
    right_set values group place v long right ordered in_it is k mark at why =
        let own = in_group group (slice_get marks place) in_it in
        let within = marked_within place own.0 own.1 in
        let inside : place < length values = omega arith in
        ⊎_elim
        (λ (e : k ≡ place).
        ap (λ n. get_or (set values place v) n None) e
        ∙ (get_or-set_same values place v None inside
        ∙ (is ∙ (off_computed (known_in declared values inherited) place within (marked_free declared marks order confirmed place own.0 within own.1 own.2) (agrees values group place own.0 long right own.1 own.2 own.3)
        ∙ ap (λ n. value (name n)) (sym e)))))
        (λ (d : k ≢ place).
        get_or-set_other values place k v None d
        ∙ ⊎_elim
        (λ w. right k mark at w)
        (λ here. absurd (d (same_Some k place (sym (subst (λ g. slice_get order g ≡ Some k) here.1 (stands_in_order declared marks order confirmed k mark at here.0)) ∙ ordered))))
        (lower_or_here mark group why))
        (cases_eq k place)

    -- and one of a group of more names
    pub right_kept : (values : List (Option CustomValue)) (group place : ℕ) → AreRight values group → slice_get order group ≡ Some place → is_in_group group (slice_get marks place) ≡ false → AreRight values (group + 1)
    right_kept values group place right ordered out k mark at why =
        ⊎_elim
        (λ w. right k mark at w)
        (λ here.
        let same : k ≡ place = same_Some k place (sym (subst (λ g. slice_get order g ≡ Some k) here.1 (stands_in_order declared marks order confirmed k mark at here.0)) ∙ ordered) in
        absurd (true≢false (sym (and_from (not mark.is_cyclic) _ (ap not here.0) (eq-eqb mark.group group here.1)) ∙ (sym (ap (is_in_group group) (subst (λ n. slice_get marks n ≡ Some mark) same at)) ∙ out))))
        (lower_or_here mark group why)

    pub right_whole : (values : List (Option CustomValue)) → length values ≡ count → AreRight values (length order) → values ≡ map value (finmap.keys declared)
    right_whole values long right =
        let keys = finmap.keys declared in
        let lengths = length-map (all_of declared) (λ e. e.0) in
        let lengths_values = length-map keys value in
        same_lists values (map value keys) (omega arith) (λ k d within. at k d within (omega arith))
      where
        at : (k : ℕ) (d : Option CustomValue) → k < length values → k < length marks → get_or values k d ≡ get_or (map value (finmap.keys declared)) k d
        at k d within inside =
            let keys = finmap.keys declared in
            let lengths = length-map (all_of declared) (λ e. e.0) in
            let mark : Mark = get_or marks k no_mark in
            let is : slice_get marks k ≡ Some mark = slice_get-get_or marks k no_mark inside in
            get_or_default values k d None within
            ∙ (right k mark is (⊎_elim (λ c. inl c) (λ free. inr (slice_get_within order mark.group k (stands_in_order declared marks order confirmed k mark is free))) (cases_Bool mark.is_cyclic))
            ∙ (ap value (sym (get_or-map (λ e. e.0) (all_of declared) k no_entry [] (omega arith)))
            ∙ sym (get_or-map value keys k [] d (omega arith))))

-- one value more
pub apart_more : (declared : DeclaredValues) (inherited : CustomValues) (empty : graph declared ≡ []) (list : List DeclaredEntry) (same : map declared_entry list ≡ finmap.entries declared) (place : ℕ) (entry : DeclaredEntry) (old : List (Option CustomValue)) (v : Option CustomValue) (new : List (Option CustomValue))
    → place < length list → entry ≡ get_or list place entry → v ≡ off_cycles_at (finmap.get inherited) inherited (declared_entry entry) → new ≡ old ++ v ∷ [] → old ≡ map (computed declared inherited) (take place (finmap.keys declared))
    → new ≡ map (computed declared inherited) (take (place + 1) (finmap.keys declared))
apart_more declared inherited empty list same place entry old v new within is value_is added before =
    let many = length_of_entries declared list same in
    let lengths = length-map (finmap.entries declared) (λ e. e.0) in
    let inside : place < length (finmap.entries declared) = omega arith in
    let at : declared_entry entry ≡ get_or (finmap.entries declared) place no_entry =
    sym (ap (λ l. get_or l place no_entry) (sym same) ∙ (entry_at list place entry no_entry within ∙ ap declared_entry (sym is))) in
    let right : v ≡ computed declared inherited (get_or (finmap.keys declared) place []) =
    value_is ∙ (ap (off_cycles_at (finmap.get inherited) inherited) at ∙ (apart_at declared inherited empty place inside
    ∙ ap (computed declared inherited) (sym (get_or-map (λ e. e.0) (finmap.entries declared) place no_entry [] inside)))) in
    added ∙ (ap₂ (λ l x. l ++ x ∷ []) before right ∙ sym (map_more (computed declared inherited) (finmap.keys declared) place [] (omega arith)))

some_item : {X : Type 0} (xs : List X) (n : ℕ) → n < length xs → X
some_item [] n l = absurd (omega arith)
some_item (x ∷ xs) n l = x

-- the value of an entry as that of its place
pub listed_value_seen : (declared : DeclaredValues) (inherited : CustomValues) (list : List DeclaredEntry) (place : ℕ) (values seen : List (Option CustomValue)) (v : Option CustomValue) → map declared_entry list ≡ finmap.entries declared → place < length list → seen ≡ values
    → ((d : DeclaredEntry) → v ≡ off_cycles_at (known_in declared seen inherited) inherited (declared_entry (get_or list place d))) → v ≡ off_cycles_at (known_in declared values inherited) inherited (get_or (finmap.entries declared) place no_entry)
listed_value_seen declared inherited list place values seen v same within is value_is =
    let d = some_item list place within in
    value_is d ∙ (ap (λ l. off_cycles_at (known_in declared l inherited) inherited (declared_entry (get_or list place d))) is
    ∙ ap (off_cycles_at (known_in declared values inherited) inherited) (sym (entry_at list place d no_entry within) ∙ ap (λ l. get_or l place no_entry) same))
