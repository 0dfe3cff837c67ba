-- The layer of each rule of an enabled sheet is in the order of its origin.
use Rattle.std.proofs.Common.{◌≡◌, ℕ, ◌+◌, ◌==◌, Bool, true, false, cond, List, [], ◌∷◌, ◌++◌, length, map, flat_map, refl, ap, ◌∙◌, inl, inr}
use Rattle.std.specs.List.{AllByRecursion}
use Rattle.std.proofs.lemmas.Bool.{eq-eqb, cond-true}
use Rattle.base_model.specs.Origin.{Origin, user_agent, user, author, origin_rank}
use Rattle.base_model.specs.Sheet.{Sheet}
use Rattle.layer_model.specs.Name.{LayerName, no_layer}
use Rattle.layer_model.specs.Order.{Layers, layers_at, layers_of, layer_order, is_known, names_of}
use Rattle.layer_model.proofs.Known.{known-cases, known-left, known-right}
use Rattle.layer_model.proofs.Orders.{named-order, none-order}
use Rattle.sheet_model.specs.StyleRules.{StyleRule, style_rules_in, layers_in}
use Rattle.sheet_model.specs.Sources.{PlacedRule, all_placed, edition_of, rules_from, enabled_among, sheet_layers, layers_of_sheets}
use Rattle.session_model.proofs.OwnLayers.{own_layers}
use Rattle.base_model.proofs.Lists.{each-append}

one_more : (b : Bool) (name : LayerName) (xs ys : List LayerName) → cond b (name ∷ (xs ++ ys)) (xs ++ ys) ≡ cond b (name ∷ xs) xs ++ ys
one_more true name xs ys = refl
one_more false name xs ys = refl

names_of-append : (origin : Origin) (xs ys : List (Origin × LayerName)) → names_of origin (xs ++ ys) ≡ names_of origin xs ++ names_of origin ys
names_of-append origin [] ys = refl
names_of-append origin (x ∷ xs) ys =
    ap (λ l. cond (origin_rank x.0 == origin_rank origin) (x.1 ∷ l) l) (names_of-append origin xs ys)
    ∙ one_more (origin_rank x.0 == origin_rank origin) x.1 (names_of origin xs) (names_of origin ys)

names_of-own : (origin : Origin) (names : List LayerName) → names_of origin (map (λ name. (origin, name)) names) ≡ names
names_of-own origin [] = refl
names_of-own origin (name ∷ names) =
    let rest : List (Origin × LayerName) = map (λ name. (origin, name)) names in
    cond-true (origin_rank origin == origin_rank origin) (name ∷ names_of origin rest) (names_of origin rest) (eq-eqb (origin_rank origin) (origin_rank origin) refl)
    ∙ ap (λ l. name ∷ l) (names_of-own origin names)

layers_at-order : (all : List (Origin × LayerName)) (origin : Origin) → layers_at (layers_of all) origin ≡ layer_order (names_of origin all)
layers_at-order all user_agent = refl
layers_at-order all user = refl
layers_at-order all author = refl

pub none_there : (sheets : List Sheet) (origin : Origin) → is_known (layers_at (layers_of_sheets sheets) origin) no_layer ≡ true
unfolding layers_of_sheets
none_there sheets origin =
    let all : List (Origin × LayerName) = flat_map sheet_layers (enabled_among sheets) in
    ap (λ l. is_known l no_layer) (layers_at-order all origin) ∙ none-order (names_of origin all)

-- all names that a sheet knows are in the order
abbrev pub HasLayers : Layers → Sheet → Type 0
HasLayers layers sheet =
    (name : LayerName) → is_known (no_layer ∷ layers_in (edition_of sheet) sheet.text) name ≡ true → is_known (layers_at layers sheet.origin) name ≡ true

module _ (all : List (Origin × LayerName)) where
  abbrev Holds : List (Origin × LayerName) → Type 0
  Holds part = (origin : Origin) (name : LayerName) → is_known (names_of origin part) name ≡ true → is_known (names_of origin all) name ≡ true

  named : (origin : Origin) (name : LayerName) → is_known (names_of origin all) name ≡ true → is_known (layers_at (layers_of all) origin) name ≡ true
  named origin name k =
      ap (λ l. is_known l name) (layers_at-order all origin) ∙ named-order (names_of origin all) name k

  one_has : (sheet : Sheet) → Holds (sheet_layers sheet) → HasLayers (layers_of all) sheet
  one_has sheet h name k =
      elim (known-cases no_layer name (layers_in (edition_of sheet) sheet.text) k) [
        | inl none ↦ ap (is_known (layers_at (layers_of all) sheet.origin)) none ∙ (ap (λ l. is_known l no_layer) (layers_at-order all sheet.origin) ∙ none-order (names_of sheet.origin all))
        | inr r ↦ named sheet.origin name (h sheet.origin name (ap (λ l. is_known l name) (names_of-own sheet.origin (layers_in (edition_of sheet) sheet.text)) ∙ r))
      ]

  each_has : (sheets : List Sheet) → Holds (flat_map sheet_layers sheets) → AllByRecursion (HasLayers (layers_of all)) sheets
  each_has [] h = tt
  each_has (sheet ∷ sheets) h =
      let rest : List (Origin × LayerName) = flat_map sheet_layers sheets in
      let split : (origin : Origin) (name : LayerName) → is_known (names_of origin (sheet_layers sheet) ++ names_of origin rest) name ≡ true → is_known (names_of origin all) name ≡ true = λ origin name k. h origin name (ap (λ l. is_known l name) (names_of-append origin (sheet_layers sheet) rest) ∙ k) in
      (one_has sheet (λ origin name k. split origin name (known-left (names_of origin (sheet_layers sheet)) (names_of origin rest) name k)), each_has sheets (λ origin name k. split origin name (known-right (names_of origin (sheet_layers sheet)) (names_of origin rest) name k)))

pub enabled_has : (sheets : List Sheet) → AllByRecursion (HasLayers (layers_of_sheets sheets)) (enabled_among sheets)
unfolding layers_of_sheets
enabled_has sheets =
    each_has (flat_map sheet_layers (enabled_among sheets)) (enabled_among sheets) (λ origin name k. k)

-- and so is the layer of each rule
abbrev pub LayerThere : Layers → PlacedRule → Type 0
LayerThere layers rule = is_known (layers_at layers rule.origin) rule.layer ≡ true

module _ (layers : Layers) where
  placed_there : (sheet : Sheet) → HasLayers layers sheet → (position first : ℕ) (rules : List StyleRule) → AllByRecursion (λ (rule : StyleRule). is_known (no_layer ∷ layers_in (edition_of sheet) sheet.text) rule.context.layer ≡ true) rules → AllByRecursion (LayerThere layers) (all_placed sheet position first rules)
  placed_there sheet has position first [] h = tt
  placed_there sheet has position first (rule ∷ rules) h =
      (has rule.context.layer h.0, placed_there sheet has position (first + length rule.declarations) rules h.1)

  pub rules_there : (sheets : List Sheet) → AllByRecursion (HasLayers layers) sheets → (position : ℕ) → AllByRecursion (LayerThere layers) (rules_from position sheets)
  rules_there [] h position = tt
  rules_there (sheet ∷ sheets) h position =
      let rules : List StyleRule = style_rules_in (edition_of sheet) sheet.text in
      each-append (LayerThere layers) (all_placed sheet position 0 rules) (rules_from (position + 1) sheets) (placed_there sheet h.0 position 0 rules (own_layers (edition_of sheet) sheet.text)) (rules_there sheets h.1 (position + 1))
