-- What applies to an element, and its style over the initial one.
use Rattle.std.proofs.Common.{◌≡◌, ℕ, ℤ, false, true, List, [], ◌++◌, Option, Some, None, refl, ap, ◌∙◌}
use Rattle.scene_model.specs.Element.{Element}
use Rattle.scene_model.specs.Lookups.{attribute_of}
use Rattle.value_model.specs.Style.{Style, initial_size, initial_style}
use Rattle.cascade_model.specs.Key.{Matched}
use Rattle.layer_model.specs.Order.{Layers}
use Rattle.sheet_model.specs.Sources.{Sources}
use Rattle.std.specs.Prelude.{codes, flat_map, is_some, option_map}
use Rattle.std.specs.Borrow.{Bor}
use Rattle.std.specs.Str.{chars}
use Rattle.std.proofs.lemmas.Grind.{flat_map-append}
use Rattle.std.specs.Option.{option_map_or}
use Rattle.base_model.specs.Text.{Characters}
use Rattle.sheet_model.specs.Declared.{Declared, style_declared}
use Rattle.cascade_model.specs.Matching.{matching, matching_rules, matching_style, all_attached}
use Rattle.cascade_model.specs.Cascade.{cascaded}
use Rattle.element_styler.specs.MatchedRules.{declarations_of, declared_by}
use Rattle.element_styler.specs.declared.matched_rules.MatchedRule.{MatchedRule}

-- what the rules that match an element and its `style` attribute declare is what applies to it
pub declared_all : (doc : List Element) (sources : Sources) (x : ℕ) (found : List MatchedRule) (text : Option Characters) → declarations_of sources found ≡ matching_rules doc sources x → text ≡ attribute_of doc x (codes "style") → declared_by sources found text ≡ matching doc sources x
unfolding matching_style
declared_all doc sources x found text rules is =
    ap (λ l. l ++ option_map_or (λ t. all_attached sources.layers 0 (style_declared t)) text []) rules
    ∙ ap (λ o. matching_rules doc sources x ++ option_map_or (λ t. all_attached sources.layers 0 (style_declared t)) o []) is

attached_text : (sources : Sources) (o : Option Characters)
    → all_attached sources.layers 0 (option_map_or style_declared o []) ≡ option_map_or (λ t. all_attached sources.layers 0 (style_declared t)) o []
attached_text sources None = refl
attached_text sources (Some t) = refl

-- those of the rules, and then those of the attribute
pub declared_parts : (sources : Sources) (found : List MatchedRule) (text : Option Characters) (rules : List Matched) (layers : Layers) (declared : List Declared)
    → rules ≡ declarations_of sources found → layers ≡ sources.layers → declared ≡ option_map_or style_declared text []
    → rules ++ all_attached layers 0 declared ≡ declared_by sources found text
declared_parts sources found text rules layers declared are same read =
    ap (λ l. l ++ all_attached layers 0 declared) are
    ∙ (ap (λ l. declarations_of sources found ++ all_attached l 0 declared) same
    ∙ ap (λ l. declarations_of sources found ++ l) (ap (all_attached sources.layers 0) read ∙ attached_text sources text))

-- which a list of those of the rules and one of those of the attribute give
pub declared_lists : {A D : Type 0} (value : A → List Matched) (seen : D → List Declared) (sources : Sources) (found : List MatchedRule) (text : Option Characters)
    (items attached : List A) (declared : List D) → flat_map value items ≡ declarations_of sources found
    → flat_map value attached ≡ all_attached sources.layers 0 (flat_map seen declared) → flat_map seen declared ≡ option_map_or style_declared text []
    → flat_map value (items ++ attached) ≡ declared_by sources found text
declared_lists value seen sources found text items attached declared rules are read =
    flat_map-append value items attached
    ∙ (ap (λ l. flat_map value items ++ l) are ∙ declared_parts sources found text (flat_map value items) sources.layers (flat_map seen declared) rules refl read)

-- without the attribute there is no text
pub no_text : (found : Option (Bor (List ℕ))) (text : Option Characters) → option_map (λ (value : Bor (List ℕ)). chars value.now) found ≡ text → false ≡ is_some found → None ≡ text
no_text None text is none = is
no_text (Some value) text is none = absurd (cc)

-- over a style that is the initial one
pub over_initial : (made first : Style) (size : ℤ) (declared applied : List Matched) → first ≡ initial_style → size ≡ initial_size → declared ≡ applied → made ≡ cascaded true first size declared → made ≡ cascaded true initial_style initial_size applied
over_initial made first size declared applied initial initially all is =
    is ∙ (ap (λ s. cascaded true s size declared) initial
    ∙ (ap (λ z. cascaded true initial_style z declared) initially ∙ ap (cascaded true initial_style initial_size) all))
