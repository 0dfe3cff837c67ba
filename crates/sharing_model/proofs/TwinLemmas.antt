-- For `IsTwin`: where no test or combinator in it asks for siblings, a selector holds at twins alike.
use Rattle.std.proofs.Common.{◌≡◌, ℕ, List, true, false, not, ◌&&◌, ◌||◌, Option, Some, None, is_none, refl, sym, ap, ◌∙◌}
use Rattle.std.proofs.Common.{unwrap_or, option_and_then, option_map, option_to_list}
use Rattle.std.specs.Prelude.{codes, is_some as is_there}
use Rattle.std.specs.Cmp.Lexicographic.{slice_cmp}
use Rattle.std.specs.Ordering.{nat_cmp}
use Rattle.std.specs.FinMap as finmap
use Rattle.std.specs.List.{list_any}
use Rattle.std.specs.Option.{option_map_or}
use Rattle.std.proofs.lemmas.Bool.{or_parts, true≢false}
use Rattle.base_model.specs.Text.{Characters, same_text}
use Rattle.scene_model.specs.Element.{Element}
use Rattle.scene_model.specs.Lookups.{element_at, parent_of, attributes_of, attribute_of}
use Rattle.scene_model.specs.Words.{has_word}
use Rattle.scene_model.specs.Ancestors.{ancestors}
use Rattle.scene_model.specs.Valid.{IsValid}
use Rattle.scene_model.proofs.Climbing.{ancestors-child}
use Rattle.selector_model.specs.Comparisons.{folded, compared}
use Rattle.selector_model.specs.Selector.{Combinator, descendant, child, next_sibling, later_sibling}
use Rattle.selector_model.specs.Selector.{Simple, type_selector, id_selector, class_selector, attribute_selector, attribute_compares}
use Rattle.selector_model.specs.Selector.{root, empty, nth, only, in_state, Selector, subject, combined, Compound, any, with_test}
use Rattle.selector_model.specs.Selector.{Test, simple, is_some, where_some, not_some, Selectors, no_more, more}
use Rattle.selector_model.specs.Holds.{leftwards, is_id, passes, holds, meets, test_holds, holds_some}
use Rattle.selector_model.proofs.Leftwards.{holds-combined}
use Rattle.selector_model.specs.Parts.{is_of_place, is_of_siblings, part_within, part_in, part_among}
use Rattle.sharing_model.specs.Siblings.{asks_for_siblings}
use Rattle.sharing_model.specs.Twin.{IsTwin}

-- an attribute is one of the element's attributes
pub attribute_of-attributes : (doc : List Element) (x : ℕ) (name : Characters) → attribute_of doc x name ≡ finmap.get (attributes_of doc x) name
attribute_of-attributes doc x name = by (element_at doc x)
  where
    by : (o : Option Element) → option_and_then (λ e. finmap.get e.attrs name) o ≡ finmap.get (unwrap_or (option_map (λ e. e.attrs) o) finmap.empty) name
    by None = sym (finmap.get-empty (slice_cmp nat_cmp) name)
    by (Some e) = refl

module _ (doc : List Element) (v : IsValid doc) (y x : ℕ) (t : IsTwin doc y x) where
  pub same_attribute : (name : Characters) → attribute_of doc y name ≡ attribute_of doc x name
  same_attribute name =
      attribute_of-attributes doc y name ∙ (ap (λ a. finmap.get a name) t.attributes ∙ sym (attribute_of-attributes doc x name))

  pub same_parent_of : parent_of doc y ≡ parent_of doc x
  same_parent_of = let (p, e, f) = t.parent in e ∙ sym f

  same_ancestors : ancestors doc y ≡ ancestors doc x
  same_ancestors = let (p, e, f) = t.parent in ancestors-child doc v y p e ∙ sym (ancestors-child doc v x p f)

  passes_twin : (test : Simple) → is_of_place test ≡ false → passes doc test y ≡ passes doc test x
  passes_twin (type_selector tag) h = ap (λ text. same_text text tag) t.tag
  passes_twin (id_selector name) h = ap (λ o. option_map_or (is_id name) o false) (same_attribute (codes "id"))
  passes_twin (class_selector class) h =
      ap (λ o. option_map_or (has_word class) o false) (same_attribute (codes "class"))
  passes_twin (attribute_selector name) h = ap is_there (same_attribute name)
  passes_twin (attribute_compares name operator part case_counts) h =
      ap (λ o. option_map_or (λ value. compared operator (folded case_counts value) (folded case_counts part)) o false) (same_attribute name)
  passes_twin root h = ap is_none same_parent_of
  passes_twin empty h = absurd (true≢false h)
  passes_twin (nth n) h = absurd (true≢false h)
  passes_twin (only by_type) h = absurd (true≢false h)
  passes_twin (in_state state) h = t.states state

  left_twin : (k : Combinator) → is_of_siblings k ≡ false → leftwards doc k y ≡ leftwards doc k x
  left_twin descendant h = same_ancestors
  left_twin child h = ap option_to_list same_parent_of
  left_twin next_sibling h = absurd (true≢false h)
  left_twin later_sibling h = absurd (true≢false h)

  mutual
    -- a selector that does not ask for siblings
    pub holds_twin : (selector : Selector) → asks_for_siblings selector ≡ false → holds doc selector y ≡ holds doc selector x
    holds_twin (subject c) h = meets_twin c h
    holds_twin (combined c k r) h =
        let parts = or_parts (part_within is_of_place is_of_siblings c || asks_for_siblings r) (is_of_siblings k) h in
        let own = or_parts (part_within is_of_place is_of_siblings c) (asks_for_siblings r) parts.0 in
        holds-combined doc v c k r y
        ∙ (ap (λ b. b && list_any (holds doc r) (leftwards doc k y)) (meets_twin c own.0)
        ∙ (ap (λ l. meets doc c x && list_any (holds doc r) l) (left_twin k parts.1) ∙ sym (holds-combined doc v c k r x)))

    meets_twin : (c : Compound) → part_within is_of_place is_of_siblings c ≡ false → meets doc c y ≡ meets doc c x
    meets_twin any h = refl
    meets_twin (with_test test c) h =
        let parts = or_parts (part_in is_of_place is_of_siblings test) (part_within is_of_place is_of_siblings c) h in
        ap (λ b. b && meets doc c y) (test_twin test parts.0) ∙ ap (λ b. test_holds doc test x && b) (meets_twin c parts.1)

    test_twin : (test : Test) → part_in is_of_place is_of_siblings test ≡ false → test_holds doc test y ≡ test_holds doc test x
    test_twin (simple test) h = passes_twin test h
    test_twin (is_some selectors) h = some_twin selectors h
    test_twin (where_some selectors) h = some_twin selectors h
    test_twin (not_some selectors) h = ap not (some_twin selectors h)

    some_twin : (selectors : Selectors) → part_among is_of_place is_of_siblings selectors ≡ false → holds_some doc selectors y ≡ holds_some doc selectors x
    some_twin no_more h = refl
    some_twin (more selector rest) h =
        let parts = or_parts (asks_for_siblings selector) (part_among is_of_place is_of_siblings rest) h in
        ap (λ b. b || holds_some doc rest y) (holds_twin selector parts.0) ∙ ap (λ b. holds doc selector x || b) (some_twin rest parts.1)
