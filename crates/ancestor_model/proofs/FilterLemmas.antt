-- For `all_counted`: what counters that stand for the ancestors of an element tell of it.
use Rattle.std.proofs.Common.{◌≡◌, ℕ, ◌<◌, ◌==◌, nat_lt, List, [], ◌∷◌, map, take, flat_map, Bool, true, false, ◌&&◌, ◌||◌, refl, sym, ap, ◌∙◌, arith}
use Rattle.std.specs.List.{AllByRecursion, list_any}
use Rattle.std.proofs.lemmas.Bool.{or_parts, or_right, false≢true, false_from_ne_true, ltb-false, eq-eqb}
use Rattle.std.proofs.lemmas.List.Folds.{list_any-append}
use Rattle.std.proofs.lemmas.Slice.Eq.{bytes_eq-Decides}
use Rattle.base_model.specs.Text.{Characters, same_text}
use Rattle.base_model.proofs.Lists.{each-take}
use Rattle.scene_model.specs.Element.{Element}
use Rattle.scene_model.specs.Ancestors.{ancestors}
use Rattle.scene_model.specs.Valid.{IsValid}
use Rattle.selector_model.specs.Selector.{Selector}
use Rattle.selector_model.specs.Holds.{holds}
use Rattle.ancestor_model.specs.Above.{has_name, HasAbove, ancestor_names, all_counted, NameAll, looked_up, ancestor_slots}
use Rattle.ancestor_model.specs.Counts.{slot_count, counter_at, StandsFor}
use Rattle.ancestor_model.proofs.AboveLemmas.{holds_above}
use Rattle.ancestor_model.proofs.CountLemmas.{none_counted}

module _ (slot : Characters → ℕ) (within : (name : Characters) → slot name < slot_count) where
  -- a text that is among names has its slot among theirs
  among_here : (name n : Characters) (rest others : Bool) (b : Bool) → same_text name n ≡ b → (rest ≡ true → others ≡ true) → (b || rest) ≡ true → ((slot n == slot name) || others) ≡ true
  among_here name n rest others true e later k =
      ap (λ t. t || others) (eq-eqb (slot n) (slot name) (ap slot (sym ((bytes_eq-Decides name n).0 e))))
  among_here name n rest others false e later k = or_right (slot n == slot name) others (later k)

  -- a text that is among names has its slot among theirs
  slot_among : (name : Characters) (names : List Characters) → list_any (same_text name) names ≡ true → list_any (λ n. slot n == slot name) names ≡ true
  slot_among name [] h = absurd (false≢true h)
  slot_among name (n ∷ names) h =
      among_here name n (list_any (same_text name) names) (list_any (λ m. slot m == slot name) names) (same_text name n) refl (slot_among name names) h

  module _ (doc : List Element) (names_of : ℕ → List Characters) (all : NameAll doc names_of) where
    -- none of the elements has a name whose counter is 0
    pub none_has : (elements : List ℕ) (counters : List ℕ) (name : Characters) → StandsFor slot names_of elements counters → counter_at counters (slot name) ≡ 0
        → list_any (has_name doc name) elements ≡ false
    none_has elements counters name c e =
        through elements (none_counted slot (flat_map names_of elements) counters (slot name) c (within name) e)
      where
        through : (xs : List ℕ) → list_any (λ n. slot n == slot name) (flat_map names_of xs) ≡ false → list_any (has_name doc name) xs ≡ false
        through [] h = refl
        through (x ∷ xs) h =
            let here : Characters → Bool = λ n. slot n == slot name in
            let split = sym (list_any-append here (names_of x) (flat_map names_of xs)) in
            let parts = or_parts (list_any here (names_of x)) (list_any here (flat_map names_of xs)) (split ∙ h) in
            let first : has_name doc name x ≡ false = false_from_ne_true (has_name doc name x) (λ t. false≢true (sym parts.0 ∙ slot_among name (names_of x) (all x name t))) in
            ap (λ b. b || list_any (has_name doc name) xs) first ∙ through xs parts.1

    module _ (v : IsValid doc) where
      all_there : (x : ℕ) (counters : List ℕ) (names : List Characters) → StandsFor slot names_of (ancestors doc x) counters → AllByRecursion (HasAbove doc x) names
          → all_counted counters (map slot names) ≡ true
      all_there x counters [] c h = refl
      all_there x counters (name ∷ names) c h = both (all_there x counters names c h.1) (nat_lt 0 (counter_at counters (slot name))) refl
        where
          both : all_counted counters (map slot names) ≡ true → (b : Bool) → nat_lt 0 (counter_at counters (slot name)) ≡ b → (b && all_counted counters (map slot names)) ≡ true
          both rest true e = rest
          both rest false e =
              let low = ltb-false 0 (counter_at counters (slot name)) e in
              absurd (false≢true (sym (none_has (ancestors doc x) counters name c (omega (arith, low))) ∙ h.0))

      -- where the filter says no, the selector does not hold
      pub rejected : (selector : Selector) (x : ℕ) (counters : List ℕ) → StandsFor slot names_of (ancestors doc x) counters → all_counted counters (ancestor_slots slot selector) ≡ false
          → holds doc selector x ≡ false
      rejected selector x counters c none =
          false_from_ne_true (holds doc selector x) (λ h. false≢true (sym none ∙ all_there x counters (take looked_up (ancestor_names selector)) c (above h)))
        where
          above : holds doc selector x ≡ true → AllByRecursion (HasAbove doc x) (take looked_up (ancestor_names selector))
          above h = each-take (HasAbove doc x) looked_up (ancestor_names selector) (holds_above doc v selector x h)
