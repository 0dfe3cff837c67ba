-- The members of a list of which those that are no selectors are left out, as they are read: those so far, before those
-- of the parts that are left.
use Rattle.std.proofs.Common.{◌≡◌, List, [], ◌∷◌, ◌++◌, map, Option, Some, None, option_map, sym, ap, ◌∙◌, append_assoc, append-nil, refl}
use Rattle.std.specs.Prelude.{option_to_list}
use Rattle.std.specs.List.{cons_option, filter_map}
use Rattle.std.proofs.lemmas.List.{map-append}
use Rattle.syntax_model.specs.Token.{Token}
use Rattle.selector_model.specs.Selector.{Selector}

module _ {V : Type 0} (seen : V → Selector) (member : List Token → Option Selector) where
  abbrev pub AreKept : List V → List (List Token) → List (List Token) → Type 0
  AreKept list left whole = filter_map member whole ≡ map seen list ++ filter_map member left

  -- the first of the parts that are left
  pub one_kept : (whole left old : List (List Token)) (part : List Token) (list new : List V) (found : Option V) → AreKept list old whole → old ≡ part ∷ left → option_map seen found ≡ member part → new ≡ list ++ option_to_list found → AreKept new left whole
  one_kept whole left old part list new found h next m added =
      h ∙ rw (next, added) (ap (λ o. map seen list ++ cons_option o (filter_map member left)) (sym m) ∙ by_found found)
    where
      by_found : (found : Option V) → map seen list ++ cons_option (option_map seen found) (filter_map member left) ≡ map seen (list ++ option_to_list found) ++ filter_map member left
      by_found None = rw (append-nil list) refl
      by_found (Some v) =
          rw (map-append seen list (v ∷ [])) (sym (append_assoc (map seen list) (seen v ∷ []) (filter_map member left)))

  pub all_kept : (whole left : List (List Token)) (list : List V) → AreKept list left whole → left ≡ [] → map seen list ≡ filter_map member whole
  all_kept whole left list h end = sym (h ∙ rw end (append-nil (map seen list)))
