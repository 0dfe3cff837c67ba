-- For `Invalidator::mark`: by rows, the elements that are marked.
use Rattle.std.proofs.Common.{◌≡◌, ℕ, ◌||◌, ◌&&◌, Bool, true, false, List, [], ◌∷◌, Option, Some, None, option_map, flat_map, refl, sym, ap, ◌∙◌, subst}
use Rattle.std.specs.List.{cons_option, filter_map, list_any}
use Rattle.std.specs.List.Sorted.{IsPermutation}
use Rattle.std.specs.Option.{option_map_or}
use Rattle.std.proofs.lemmas.Bool.{and_parts, eqb-true, false≢true, false_from_ne_true, or_from}
use Rattle.std.proofs.lemmas.List.Folds.{list_any-append}
use Rattle.std.proofs.lemmas.List.Sorted.{list_any-IsPermutation}
use Rattle.scene_model.specs.Element.{Element}
use Rattle.scene_model.specs.Lookups.{is_element, IsElement, numbers}
use Rattle.scene_model.proofs.Any.{any_in}
use Rattle.scene_model.proofs.Found.{is_element-numbers}
use Rattle.selector_model.specs.Selector.{Selector}
use Rattle.selector_model.specs.Key.{Key, key_of}
use Rattle.edit_model.specs.Touched.{Touch}
use Rattle.edit_model.specs.TouchedBy.{is_listed}
use Rattle.edit_model.specs.Dependencies.{Dependency, Step, dependencies, leads, reaches, touch_of}
use Rattle.edit_model.specs.Marked.{is_marked}
use Rattle.edit_model.specs.MarkedAfter.{bears_around, is_hit_after, marks_after}
use Rattle.edit_model.specs.Steady.{SameTags}
use Rattle.edit_model.proofs.AfterLemmas.{is_marked_by}
use Rattle.invalidation_map.specs.Members.{Members}
use Rattle.invalidation_map.specs.Rows.{Row, is_led_to, row_of, rows_of, rows_of_selector, marks_by_row, style_touch}
use Rattle.invalidation_map.specs.Marks.{AreAtElements, AreListed, IsGrown}
use Rattle.invalidation_map.proofs.GrowthLemmas.{grown_same, listed_element}

-- lists

any-flat_map : {X Y : Type 0} (p : Y → Bool) (f : X → List Y) (xs : List X) → list_any p (flat_map f xs) ≡ list_any (λ x. list_any p (f x)) xs
any-flat_map p f [] = refl
any-flat_map p f (x ∷ xs) = list_any-append p (f x) (flat_map f xs) ∙ ap (λ b. list_any p (f x) || b) (any-flat_map p f xs)

pub any_alike : {X : Type 0} (p q : X → Bool) (xs : List X) → ((x : X) → p x ≡ q x) → list_any p xs ≡ list_any q xs
any_alike p q [] h = refl
any_alike p q (x ∷ xs) h = ap (λ b. b || list_any p xs) (h x) ∙ ap (λ b. q x || b) (any_alike p q xs h)

and_or : (a b c : Bool) → ((a && b) || (a && c)) ≡ (a && (b || c))
and_or true b c = refl
and_or false b c = refl

no_and : (a : Bool) → false ≡ (a && false)
no_and true = refl
no_and false = refl

pub reaches_element : (doc : List Element) (path : List Step) (y x : ℕ) → IsElement doc y → reaches doc path y x ≡ true → IsElement doc x
reaches_element doc [] y x there h = subst (IsElement doc) (eqb-true y x h) there
reaches_element doc (step ∷ path) y x there h =
    let (z, (i, t)) = any_in (λ z. leads doc step y z && reaches doc path z x) (numbers doc) h in
    reaches_element doc path z x (is_element-numbers doc z ∙ i) (and_parts (leads doc step y z) (reaches doc path z x) t).1

module _ (b : List Element) (pairs : List (Touch × ℕ)) where
  led_to_element : (k : Touch) (path : List Step) (x : ℕ) → is_led_to b pairs k path x ≡ true → IsElement b x
  led_to_element k path x h =
      let (y, (i, t)) = any_in (λ y. is_listed pairs k y && reaches b path y x) (numbers b) h in
      reaches_element b path y x (is_element-numbers b y ∙ i) (and_parts (is_listed pairs k y) (reaches b path y x) t).1

  row_hit : (key : Key) (path : List Step) (x : ℕ) (o : Option Touch) (rest : List Row) (h : Bool) → list_any (λ row. marks_by_row b pairs row x) rest ≡ (bears_around (is_listed pairs) b key x && h)
      → list_any (λ row. marks_by_row b pairs row x) (cons_option (option_map (λ touch. record { touch = touch; path = path; key = key }) o) rest)
      ≡ (bears_around (is_listed pairs) b key x && (option_map_or (λ k. is_led_to b pairs k path x) o false || h))
  row_hit key path x None rest h e = e
  row_hit key path x (Some k) rest h e =
      ap (λ c. (bears_around (is_listed pairs) b key x && is_led_to b pairs k path x) || c) e
      ∙ and_or (bears_around (is_listed pairs) b key x) (is_led_to b pairs k path x) h

  by_rows : (key : Key) (x : ℕ) (ds : List Dependency) → list_any (λ row. marks_by_row b pairs row x)
      (filter_map (row_of key) ds) ≡ (bears_around (is_listed pairs) b key x && list_any (λ d. is_hit_after (is_listed pairs) b d x) ds)
  by_rows key x [] = no_and (bears_around (is_listed pairs) b key x)
  by_rows key x (d ∷ ds) =
      row_hit key d.path x (touch_of d.part) (filter_map (row_of key) ds) (list_any (λ d. is_hit_after (is_listed pairs) b d x) ds) (by_rows key x ds)

  by_selectors : (x : ℕ) (selectors : List Selector) → list_any (λ row. marks_by_row b pairs row x) (rows_of selectors) ≡ list_any (λ selector. marks_after (is_listed pairs) b selector x) selectors
  by_selectors x selectors =
      any-flat_map (λ row. marks_by_row b pairs row x) rows_of_selector selectors
      ∙ any_alike (λ selector. list_any (λ row. marks_by_row b pairs row x) (rows_of_selector selector)) (λ selector. marks_after (is_listed pairs) b selector x) selectors
      (λ selector. by_rows (key_of selector) x (dependencies selector))

  -- no row marks what is not in the document
  none_off : (rows : List Row) (x : ℕ) → is_element b x ≡ false → list_any (λ row. marks_by_row b pairs row x) rows ≡ false
  none_off [] x off = refl
  none_off (row ∷ rows) x off =
      or_from (marks_by_row b pairs row x) (list_any (λ row. marks_by_row b pairs row x) rows)
      (false_from_ne_true (marks_by_row b pairs row x) (λ h. false≢true
      (sym off ∙ led_to_element row.touch row.path x (and_parts (bears_around (is_listed pairs) b row.key x) (is_led_to b pairs row.touch row.path x) h).1)))
      (none_off rows x off)

  module _ (at : AreAtElements b pairs) where
    marks_at : (selectors : List Selector) (x : ℕ) (e : Bool) → is_element b x ≡ e
        → (is_listed pairs style_touch x || list_any (λ row. marks_by_row b pairs row x) (rows_of selectors))
        ≡ (e && (is_listed pairs style_touch x || list_any (λ selector. marks_after (is_listed pairs) b selector x) selectors))
    marks_at selectors x true there = ap (λ c. is_listed pairs style_touch x || c) (by_selectors x selectors)
    marks_at selectors x false off =
        or_from (is_listed pairs style_touch x) (list_any (λ row. marks_by_row b pairs row x) (rows_of selectors))
        (false_from_ne_true (is_listed pairs style_touch x) (λ h. false≢true (sym off ∙ listed_element b pairs style_touch x at h)))
        (none_off (rows_of selectors) x off)

    -- what the rows of some selectors add is what they mark
    pub marked : (a : List Element) → SameTags a b → AreListed a b pairs → (selectors : List Selector) (rows : List Row) (style : Touch) (old new : Members) → style ≡ style_touch
        → IsPermutation (rows_of selectors) rows → IsGrown (λ x. is_listed pairs style x || list_any (λ row. marks_by_row b pairs row x) rows) old new → IsGrown (is_marked a b selectors) old new
    marked a tags listed selectors rows style old new is_style are grown =
        grown_same (λ x. is_listed pairs style x || list_any (λ row. marks_by_row b pairs row x) rows) (is_marked a b selectors) old new
        (λ x. ap (λ k. is_listed pairs k x || list_any (λ row. marks_by_row b pairs row x) rows) is_style
        ∙ (ap (λ c. is_listed pairs style_touch x || c) (sym (list_any-IsPermutation (λ row. marks_by_row b pairs row x) (rows_of selectors) rows are))
        ∙ (marks_at selectors x (is_element b x) refl ∙ sym (is_marked_by a b tags (is_listed pairs) listed selectors x)))) grown
