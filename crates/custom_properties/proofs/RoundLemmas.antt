-- The values of declared custom properties in rounds, each of which goes by the one before it.
use Rattle.std.proofs.Common.{◌≡◌, ℕ, suc, ◌+◌, ◌<◌, List, [], ◌∷◌, ◌++◌, length, get_or, take, map, replicate}
use Rattle.std.proofs.Common.{Bool, true, false, cond, Option, Some, None, refl, sym, ap, ap₂, ◌∙◌, arith}
use Rattle.std.specs.FinMap as finmap
use Rattle.std.specs.Option.{option_flatten}
use Rattle.std.proofs.lemmas.List.{get_or-map, length-map, length-replicate, get_or-replicate, map_more}
use Rattle.std.proofs.lemmas.Option.{slice_get-get_or}
use Rattle.base_model.specs.Options.{◌>>=◌}
use Rattle.base_model.specs.Text.{Characters}
use Rattle.custom_model.specs.Value.{CustomValue, CustomValues}
use Rattle.custom_model.specs.Expand.{Lookup, expansion}
use Rattle.custom_model.specs.Cycles.{DeclaredValues, is_cyclic}
use Rattle.custom_model.specs.Computed.{after_keyword, computed_by, computed_over, computed_within, computed}
use Rattle.custom_model.proofs.ComputedLemmas.{computed_over_same, computed-within}
use Rattle.custom_properties.specs.declared.declared_map.DeclaredEntry.{DeclaredEntry}
use Rattle.custom_properties.specs.Entries.{declared_entry}
use Rattle.custom_properties.specs.KnownView.{value_at, known_in}
use Rattle.custom_properties.specs.Off.{off_cycles_of, off_cycles_at}
use Rattle.css_tokens.specs.Place.{place_in}
use Rattle.custom_properties.specs.Plain.{flag_at}
use Rattle.custom_properties.proofs.EntryLemmas.{length_of_entries, entry_at}
use Rattle.css_tokens.proofs.PlaceLemmas.{order, place_stands}
use Rattle.custom_properties.proofs.GraphLemmas.{all_of, name_at, no_entry, declared_at, undeclared}

map_alike : {X Y : Type 0} (f g : X → Y) (xs : List X) → ((x : X) → f x ≡ g x) → map f xs ≡ map g xs
map_alike f g [] h = refl
map_alike f g (x ∷ xs) h = ap₂ (λ y ys. y ∷ ys) (h x) (map_alike f g xs h)

either_way : (b : Bool) (v : Option CustomValue) → cond b v v ≡ v
either_way true v = refl
either_way false v = refl

abbrev Values : Type 0
Values = List (Option CustomValue)

module _ (declared : DeclaredValues) where
  abbrev all : List (Characters × Option CustomValue)
  all = all_of declared

  abbrev name : ℕ → Characters
  name = name_at declared

  abbrev keys : List Characters
  keys = finmap.keys declared

  length-names : length keys ≡ length all
  length-names = length-map all (λ e. e.0)

  -- the name at a place
  key_at : (place : ℕ) → place < length all → get_or keys place [] ≡ name place
  key_at place within = get_or-map (λ e. e.0) all place no_entry [] within

  -- what is told of each name, one more
  one_more : {X : Type 0} (f : Characters → X) (place : ℕ) (x : X) (old new : List X) → place < length all
      → x ≡ f (name place) → new ≡ old ++ x ∷ [] → old ≡ map f (take place keys) → new ≡ map f (take (place + 1) keys)
  one_more f place x old new within is added before =
      let lengths = length-names in
      let right = is ∙ ap f (sym (key_at place within)) in
      added ∙ (ap₂ (λ l y. l ++ y ∷ []) before right ∙ sym (map_more f keys place [] (omega arith)))

  pub cyclic_more : (place : ℕ) (b : Bool) (old new : List Bool) → place < length all
      → b ≡ is_cyclic declared (name place) → new ≡ old ++ b ∷ [] → old ≡ map (is_cyclic declared) (take place keys)
      → new ≡ map (is_cyclic declared) (take (place + 1) keys)
  cyclic_more = one_more (is_cyclic declared)

  module _ (inherited : CustomValues) where
    abbrev over : Lookup → Lookup
    over = computed_over declared inherited

    over_by : (values : Lookup) (text : Characters) (o : Option CustomValue) (b : Bool) → b ≡ is_cyclic declared text
        → cond b None (off_cycles_of values (finmap.get inherited text) o)
        ≡ computed_by declared inherited values text (Some o)
    over_by values text None b e = either_way b None
    over_by values text (Some tokens) b e =
        ap (λ c. cond c None (expansion values tokens >>= after_keyword (finmap.get inherited text))) e

    -- the value of an entry is the one of the law
    over_at : (values : Lookup) (place : ℕ) (b : Bool) → place < length all → b ≡ is_cyclic declared (name place)
        → cond b None (off_cycles_at values inherited (get_or all place no_entry)) ≡ over values (name place)
    over_at values place b within e =
        over_by values (name place) (get_or all place no_entry).1 b e
        ∙ ap (computed_by declared inherited values (name place)) (sym (declared_at declared place within))

    -- one value more
    module _ (flags : List Bool) (flags_are : flags ≡ map (is_cyclic declared) keys) (list : List DeclaredEntry)
        (same : map declared_entry list ≡ all) (place : ℕ) (within : place < length list) where
      flagged : place < length all → flag_at flags place ≡ is_cyclic declared (name place)
      flagged inside =
          let lengths = length-names in
          ap (λ l. flag_at l place) flags_are
          ∙ (get_or-map (is_cyclic declared) keys place [] false (omega arith)
          ∙ ap (is_cyclic declared) (key_at place inside))

      entry_is : (entry : DeclaredEntry) → entry ≡ get_or list place entry
          → declared_entry entry ≡ get_or all place no_entry
      entry_is entry is =
          ap declared_entry is
          ∙ (sym (entry_at list place entry no_entry within) ∙ ap (λ l. get_or l place no_entry) same)

      pub over_more : (values : Lookup) (entry : DeclaredEntry) (b : Bool) (v : Option CustomValue) (old new : Values)
          → entry ≡ get_or list place entry → b ≡ flag_at flags place
          → v ≡ cond b None (off_cycles_at values inherited (declared_entry entry)) → new ≡ old ++ v ∷ []
          → old ≡ map (over values) (take place keys) → new ≡ map (over values) (take (place + 1) keys)
      over_more values entry b v old new is flag value_is added before =
          let many = length_of_entries declared list same in
          let inside : place < length all = omega arith in
          one_more (over values) place v old new inside
          (value_is ∙ (ap (λ x. cond b None (off_cycles_at values inherited x)) (entry_is entry is)
          ∙ over_at values place b inside (flag ∙ flagged inside)))
          added before

    abbrev steps : ℕ → Lookup
    steps k = computed_within k declared inherited

    -- a round by the values after so many steps gives those after one more
    round_by : (k : ℕ) (values : Lookup) → ((text : Characters) → values text ≡ steps k text)
        → map (over values) keys ≡ map (steps (suc k)) keys
    round_by k values h =
        map_alike (over values) (steps (suc k)) keys
        (λ text. computed_over_same declared inherited values (steps k) text (λ free next edge. h next))

    -- the first round, by no values
    module _ (values : Values) (others : CustomValues) (none : values ≡ replicate (length all) None)
        (empty : others ≡ finmap.empty) where
      none_at : (text : Characters) (o : Option ℕ) → place_in all text ≡ o
          → value_at values (finmap.get others text) o ≡ None
      none_at text None e = ap (λ m. finmap.get m text) empty ∙ finmap.get-empty order text
      none_at text (Some place) e =
          let inside = (place_stands all text place no_entry e).0 in
          let long : length values ≡ length all = ap length none ∙ length-replicate (length all) None in
          ap option_flatten (slice_get-get_or values place None (omega arith))
          ∙ (ap (λ l. get_or l place None) none ∙ get_or-replicate (length all) place None None inside)

      pub round_first : (new : Values) → new ≡ map (over (known_in declared values others)) keys
          → new ≡ map (steps 1) keys
      round_first new after =
          after ∙ round_by 0 (known_in declared values others) (λ text. none_at text (place_in all text) refl)

    known_at : (k : ℕ) (values : Values) → values ≡ map (steps (suc k)) keys → (text : Characters) (o : Option ℕ)
        → place_in all text ≡ o → value_at values (finmap.get inherited text) o ≡ steps (suc k) text
    known_at k values are text None e =
        sym (ap (computed_by declared inherited (steps k) text) (undeclared declared text e))
    known_at k values are text (Some place) e =
        let stands = place_stands all text place no_entry e in
        let lengths = length-names in
        let long : length values ≡ length keys = ap length are ∙ length-map keys (steps (suc k)) in
        ap option_flatten (slice_get-get_or values place None (omega (arith, stands.0)))
        ∙ (ap (λ l. get_or l place None) are
        ∙ (get_or-map (steps (suc k)) keys place [] None (omega (arith, stands.0))
        ∙ ap (steps (suc k)) (key_at place stands.0 ∙ stands.1)))

    -- each later one
    pub round_more : (k : ℕ) (values seen new : Values) → values ≡ map (steps (k + 1)) keys → seen ≡ values
        → new ≡ map (over (known_in declared seen inherited)) keys → new ≡ map (steps (k + 1 + 1)) keys
    round_more k values seen new before same after =
        let more : k + 1 ≡ suc k = omega arith in
        let again : k + 1 + 1 ≡ suc (suc k) = omega arith in
        let were = same ∙ (before ∙ ap (λ n. map (steps n) keys) more) in
        let known = λ (text : Characters). known_at k seen were text (place_in all text) refl in
        after
        ∙ (round_by (suc k) (known_in declared seen inherited) known
        ∙ ap (λ n. map (steps n) keys) (sym again))

    -- after all rounds
    pub round_last : (k : ℕ) (values : Values) → k ≡ length all → values ≡ map (steps (k + 1)) keys
        → values ≡ map (computed declared inherited) keys
    round_last k values rounds are =
        let many = finmap.len-entries declared in
        let whole = computed-within declared inherited (k + 1) (omega arith) in
        are ∙ sym (map_alike (computed declared inherited) (steps (k + 1)) keys whole)
