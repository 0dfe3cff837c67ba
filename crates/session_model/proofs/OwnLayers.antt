-- The layer of a style rule is no layer, or one that its own text declares.
use Rattle.std.proofs.Common.{◌≡◌, ℕ, zero, suc, List, [], ◌∷◌, ◌++◌, map, true, false, Option, Some, None, unwrap_or, refl}
use Rattle.std.specs.List.{AllByRecursion, filter_map, cons_option}
use Rattle.std.proofs.lemmas.Bool.{cond_both}
use Rattle.base_model.specs.Text.{Characters}
use Rattle.layer_model.specs.Name.{LayerName, no_layer, part_limit}
use Rattle.layer_model.specs.Order.{is_known}
use Rattle.layer_model.proofs.Known.{known-first, known-later}
use Rattle.syntax_model.specs.Token.{Token}
use Rattle.syntax_model.specs.Brackets.{closed, is_shallow}
use Rattle.syntax_model.specs.Preprocess.{preprocessed}
use Rattle.syntax_model.specs.TokensIn.{tokens_in}
use Rattle.syntax_model.specs.LayersIn.{layers_declared, block_layer}
use Rattle.syntax_model.specs.Rules.{Context, Piece, qualified_rule, at_rule, Rule, style, layer, StyleBlock, SheetEdition}
use Rattle.syntax_model.specs.RulesIn.{pieces_in}
use Rattle.syntax_model.specs.SheetRules.{BlockReader, RulesFound, block_within, counted, in_layer, is_layer_name, no_context, piece_found, pieces_found, qualified_found, rules_in, sheet_rules_in, statement_found}
use Rattle.selector_model.specs.Selector.{Selector}
use Rattle.sheet_model.specs.SelectorsIn.{selectors_in}
use Rattle.sheet_model.specs.StyleRules.{StyleRule, style_rule_of, style_rule_in, style_rules_in, layer_in, layers_in}
use Rattle.base_model.proofs.Lists.{each-append}

pub each-start : {X : Type 0} (P : X → Type 0) (xs ys : List X) → AllByRecursion P (xs ++ ys) → AllByRecursion P xs
each-start P [] ys h = tt
each-start P (x ∷ xs) ys h = (h.0, each-start P xs ys h.1)

pub each-end : {X : Type 0} (P : X → Type 0) (xs ys : List X) → AllByRecursion P (xs ++ ys) → AllByRecursion P ys
each-end P [] ys h = h
each-end P (x ∷ xs) ys h = each-end P xs ys h.1

module _ (known : List LayerName) where
  -- each layer that is declared is among these names, and so is that of each style rule
  abbrev DeclaredThere : Rule → Type 0
  DeclaredThere (style rule) = Unit
  DeclaredThere (layer context) = is_known known context.layer ≡ true

  abbrev StyleThere : Rule → Type 0
  StyleThere (style rule) = is_known known rule.context.layer ≡ true
  StyleThere (layer context) = Unit

  abbrev Follows : List Rule → Type 0
  Follows rules = AllByRecursion DeclaredThere rules → AllByRecursion StyleThere rules

  layers_follow : (contexts : List Context) → AllByRecursion StyleThere (map layer contexts)
  layers_follow [] = tt
  layers_follow (context ∷ contexts) = (tt, layers_follow contexts)

  qualified_follows : (context : Context) (prelude block : List Token) → is_known known context.layer ≡ true → AllByRecursion StyleThere (qualified_found context prelude block)
  qualified_follows context prelude block h =
      cond_both (is_shallow prelude) _ _ (AllByRecursion StyleThere) (λ _. (h, tt)) (λ _. tt)

  statement_follows : (context : Context) (name : Characters) (prelude : List Token) → AllByRecursion StyleThere (statement_found context name prelude)
  statement_follows context name prelude =
      cond_both (is_layer_name name) _ _ (AllByRecursion StyleThere) (λ _. layers_follow (unwrap_or (layers_declared context prelude) [])) (λ _. tt)

  abbrev Reads : BlockReader → Type 0
  Reads read = (context : Context) (count : ℕ) (block : List Token) → is_known known context.layer ≡ true → Follows (read context count block).rules

  module _ (read : BlockReader) (good : Reads read) (edition : SheetEdition) where
    layer_follows : (inner : Option Context) (count : ℕ) (block : List Token) → Follows (in_layer read inner count block).rules
    layer_follows None count block h = tt
    layer_follows (Some inner) count block h = (tt, good inner count block h.0 h.1)

    piece_follows : (context : Context) (count : ℕ) (piece : Piece) → is_known known context.layer ≡ true → Follows (piece_found read edition context count piece).rules
    piece_follows context count (qualified_rule prelude block) k h = qualified_follows context prelude block k
    piece_follows context count (at_rule name prelude None) k h = statement_follows context name prelude
    piece_follows context count (at_rule name prelude (Some block)) k h =
        cond_both (is_layer_name name) _ _ (λ (f : RulesFound). Follows f.rules) (λ _. layer_follows (block_layer edition count context prelude) (counted count prelude) block) (λ _ none. tt) h

    pieces_follow : (context : Context) (count : ℕ) (pieces : List Piece) → is_known known context.layer ≡ true → Follows (pieces_found read edition context count pieces).rules
    pieces_follow context count [] k h = tt
    pieces_follow context count (piece ∷ pieces) k h =
        let first : RulesFound = piece_found read edition context count piece in
        let rest : RulesFound = pieces_found read edition context first.anonymous pieces in
        each-append StyleThere first.rules rest.rules (piece_follows context count piece k (each-start DeclaredThere first.rules rest.rules h)) (pieces_follow context first.anonymous pieces k (each-end DeclaredThere first.rules rest.rules h))

  block_follows : (levels : ℕ) (edition : SheetEdition) → Reads (block_within levels edition)
  block_follows zero edition context count block k h = tt
  block_follows (suc levels) edition context count block k h =
      pieces_follow (block_within levels edition) (block_follows levels edition) edition context count (pieces_in false block) k h

  rules_follow : (edition : SheetEdition) (tokens : List Token) → is_known known no_layer ≡ true → Follows (rules_in edition tokens)
  unfolding rules_in
  rules_follow edition tokens k =
      pieces_follow (block_within part_limit edition) (block_follows part_limit edition) edition no_context 0 (pieces_in true (closed tokens)) k

  declared_there : (rules : List Rule) → ((name : LayerName) → is_known (filter_map layer_in rules) name ≡ true → is_known known name ≡ true) → AllByRecursion DeclaredThere rules
  declared_there [] h = tt
  declared_there (style rule ∷ rules) h = (tt, declared_there rules h)
  declared_there (layer context ∷ rules) h =
      (h context.layer (known-first context.layer (filter_map layer_in rules)), declared_there rules (λ name k. h name (known-later context.layer name (filter_map layer_in rules) k)))

  abbrev pub KeptThere : StyleRule → Type 0
  KeptThere rule = is_known known rule.context.layer ≡ true

  kept_one : (rule : StyleBlock) (o : Option (List Selector)) (rest : List StyleRule) → is_known known rule.context.layer ≡ true → selectors_in rule.prelude ≡ o → AllByRecursion KeptThere rest → AllByRecursion KeptThere (cons_option (style_rule_of rule) rest)
  kept_one rule None rest k e h = rw e h
  kept_one rule (Some selectors) rest k e h = rw e (k, h)

  kept_there : (rules : List Rule) → AllByRecursion StyleThere rules → AllByRecursion KeptThere (filter_map style_rule_in rules)
  kept_there [] h = tt
  kept_there (style rule ∷ rules) h =
      kept_one rule (selectors_in rule.prelude) (filter_map style_rule_in rules) h.0 refl (kept_there rules h.1)
  kept_there (layer context ∷ rules) h = kept_there rules h.1

-- of a text
pub own_layers : (edition : SheetEdition) (text : Characters) → AllByRecursion (λ (rule : StyleRule). is_known (no_layer ∷ layers_in edition text) rule.context.layer ≡ true) (style_rules_in edition text)
unfolding style_rules_in layers_in
own_layers edition text =
    let known : List LayerName = no_layer ∷ layers_in edition text in
    let rules : List Rule = sheet_rules_in edition text in
    let none : is_known known no_layer ≡ true = known-first no_layer (layers_in edition text) in
    kept_there known rules (rules_follow known edition (tokens_in (preprocessed text)) none (declared_there known rules (λ name k. known-later no_layer name (layers_in edition text) k)))
