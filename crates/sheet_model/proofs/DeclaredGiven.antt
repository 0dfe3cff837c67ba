-- What holds of all that a declaration may give a property holds of what the declarations of a text give. The tokens
-- that are kept of a text can be written.
use Rattle.std.proofs.Common.{◌≡◌, ℕ, List, [], ◌∷◌, flat_map, Option, Some, None, option_map, filter_map, IfSome, map, zip, unwrap_or, refl}
use Rattle.std.specs.List.{AllByRecursion, cons_option}
use Rattle.std.specs.Option.{option_or, option_to_list}
use Rattle.std.proofs.lemmas.Bool.{cond_both}
use Rattle.base_model.specs.Options.{◌>>=◌}
use Rattle.base_model.specs.Text.{Characters}
use Rattle.syntax_model.specs.Token.{Token}
use Rattle.syntax_model.specs.Wide.{Wide}
use Rattle.syntax_model.specs.Preprocess.{preprocessed}
use Rattle.syntax_model.specs.TokensIn.{tokens_in}
use Rattle.syntax_model.specs.Rules.{Declaration, Rule, style, layer, SheetEdition}
use Rattle.syntax_model.specs.RulesIn.{declarations_in}
use Rattle.syntax_model.specs.SheetRules.{sheet_rules_in}
use Rattle.custom_model.specs.Value.{CustomValue, is_custom_name}
use Rattle.custom_model.specs.Parts.{custom_value_in, referring_value_in}
use Rattle.custom_model.proofs.WritableLemmas.{Writable, custom_value_writable, referring_value_writable, as_read}
use Rattle.custom_model.proofs.CutLemmas.{OfText, of_text}
use Rattle.custom_model.proofs.DeclarationCuts.{DeclarationOfText, block_declarations}
use Rattle.value_model.specs.Value.{Value}
use Rattle.selector_model.specs.Selector.{Selector}
use Rattle.sheet_model.specs.SelectorsIn.{selectors_in}
use Rattle.sheet_model.specs.Shorthands.{PropertyName, longhands_named, values_in}
use Rattle.sheet_model.specs.Declared.{longhand, custom, Given, wide, exactly, referring, holding, Declared, wide_in, for_each, givens_in, custom_given_in, declared_with, declared_each, property_name_in, declared_in, block_declared, style_declared}
use Rattle.sheet_model.specs.StyleRules.{StyleRule, style_rule_in, style_rules_in}
use Rattle.sheet_model.proofs.RuleCuts.{RuleOfText, sheet_rules_of_text}
use Rattle.base_model.proofs.Lists.{each-append, each-map}

or_given : {A : Type 0} (P : A → Type 0) (first other : Option A) → IfSome first P → IfSome other P → IfSome (option_or first other) P
or_given P None other h k = k
or_given P (Some given) other h k = h

module _ (P : Given → Type 0)
    (words : (word : Wide) → P (wide word))
    (exact : (property_name : PropertyName) (tokens : List Token) → IfSome (values_in property_name tokens) (AllByRecursion (λ value. P (exactly value))))
    (refer : (property_name : PropertyName) (tokens : CustomValue) → Writable tokens → P (referring property_name tokens))
    (hold : (tokens : CustomValue) → Writable tokens → P (holding tokens))
  where
    -- what each property that a name names is given
    abbrev AreGiven : List Given → Type 0
    AreGiven givens = AllByRecursion P givens

    each_given : (ids : List ℕ) (given : Given) → P given → AreGiven (map (λ id. given) ids)
    each_given [] given h = tt
    each_given (id ∷ ids) given h = (h, each_given ids given h)

    word_givens : (property_name : PropertyName) (o : Option Wide) → IfSome (option_map (λ word. for_each property_name (wide word)) o) AreGiven
    word_givens property_name None = tt
    word_givens property_name (Some word) = each_given (longhands_named property_name) (wide word) (words word)

    exact_givens : (o : Option (List Value)) → IfSome o (AllByRecursion (λ value. P (exactly value))) → IfSome (option_map (map exactly) o) AreGiven
    exact_givens None h = tt
    exact_givens (Some values) h = each-map P exactly values h

    referring_givens : (property_name : PropertyName) (o : Option CustomValue) → ((value : CustomValue) → o ≡ Some value → Writable value) → IfSome (option_map (λ value. for_each property_name (referring property_name value)) o) AreGiven
    referring_givens property_name None h = tt
    referring_givens property_name (Some value) h =
        each_given (longhands_named property_name) (referring property_name value) (refer property_name value (h value refl))

    givens_hold : (property_name : PropertyName) (tokens : List Token) → OfText tokens → IfSome (givens_in property_name tokens) AreGiven
    givens_hold property_name tokens h =
        or_given AreGiven (option_map (λ word. for_each property_name (wide word)) (wide_in tokens)) _
        (word_givens property_name (wide_in tokens))
        (or_given AreGiven (option_map (λ value. for_each property_name (referring property_name value)) (referring_value_in tokens)) _
        (referring_givens property_name (referring_value_in tokens) (λ value e. referring_value_writable tokens value (as_read tokens h) e))
        (exact_givens (values_in property_name tokens) (exact property_name tokens)))

    word_given : (o : Option Wide) → IfSome (option_map wide o) P
    word_given None = tt
    word_given (Some word) = words word

    held_given : (o : Option CustomValue) → ((value : CustomValue) → o ≡ Some value → Writable value) → IfSome (option_map holding o) P
    held_given None h = tt
    held_given (Some value) h = hold value (h value refl)

    custom_given_holds : (tokens : List Token) → OfText tokens → IfSome (custom_given_in tokens) P
    custom_given_holds tokens h =
        or_given P (option_map wide (wide_in tokens)) _ (word_given (wide_in tokens))
        (held_given (custom_value_in tokens) (λ value e. custom_value_writable tokens value (as_read tokens h) e))

    -- a list of declarations
    abbrev AllGive : List Declared → Type 0
    AllGive ds = AllByRecursion (λ (d : Declared). P d.given) ds

    custom_gives : (declaration : Declaration) (o : Option Given) → IfSome o P → AllGive (option_to_list (option_map (declared_with declaration (custom declaration.name)) o))
    custom_gives declaration None h = tt
    custom_gives declaration (Some given) h = (h, tt)

    each_gives : (declaration : Declaration) (ids : List ℕ) (givens : List Given) → AreGiven givens → AllGive (map (λ (pair : ℕ × Given). declared_with declaration (longhand pair.0) pair.1) (zip ids givens))
    each_gives declaration [] givens h = tt
    each_gives declaration (id ∷ ids) [] h = tt
    each_gives declaration (id ∷ ids) (given ∷ givens) h = (h.0, each_gives declaration ids givens h.1)

    givens_declared : (declaration : Declaration) (property_name : PropertyName) (o : Option (List Given)) → IfSome o AreGiven → AllGive (unwrap_or (option_map (declared_each declaration property_name) o) [])
    givens_declared declaration property_name None h = tt
    givens_declared declaration property_name (Some givens) h = each_gives declaration (longhands_named property_name) givens h

    longhands_give : (declaration : Declaration) → OfText declaration.value → (o : Option PropertyName) → AllGive (unwrap_or (o >>= (λ property_name. option_map (declared_each declaration property_name) (givens_in property_name declaration.value))) [])
    longhands_give declaration h None = tt
    longhands_give declaration h (Some property_name) =
        givens_declared declaration property_name (givens_in property_name declaration.value) (givens_hold property_name declaration.value h)

    declaration_gives : (declaration : Declaration) → DeclarationOfText declaration → AllGive (declared_in declaration)
    declaration_gives declaration h =
        cond_both (is_custom_name declaration.name) _ _ AllGive
        (λ _. custom_gives declaration (custom_given_in declaration.value) (custom_given_holds declaration.value h))
        (λ _. longhands_give declaration h (property_name_in declaration.name))

    declarations_give : (declarations : List Declaration) → AllByRecursion DeclarationOfText declarations → AllGive (flat_map declared_in declarations)
    declarations_give [] h = tt
    declarations_give (declaration ∷ declarations) h =
        each-append (λ (d : Declared). P d.given) (declared_in declaration) (flat_map declared_in declarations)
        (declaration_gives declaration h.0)
        (declarations_give declarations h.1)

    -- the declarations of a block that is cut from a text
    block_gives : (block : List Token) → OfText block → AllByRecursion (λ (d : Declared). P d.given) (block_declared block)
    block_gives block h = declarations_give (declarations_in block) (block_declarations block h)

    -- of the text of a `style` attribute
    pub style_gives : (text : Characters) → AllByRecursion (λ (d : Declared). P d.given) (style_declared text)
    unfolding style_declared
    style_gives text = block_gives (tokens_in (preprocessed text)) (of_text text)

    -- and of the rules of a sheet's text

    abbrev RuleGives : StyleRule → Type 0
    RuleGives rule = AllGive rule.declarations

    rule_gives : (rule : Rule) → RuleOfText rule → IfSome (style_rule_in rule) RuleGives
    rule_gives (layer context) h = tt
    rule_gives (style rule) h = by (selectors_in rule.prelude) where
      by : (o : Option (List Selector)) → IfSome (o >>= (λ selectors. Some (record { selectors = selectors; declarations = block_declared rule.block; context = rule.context }))) RuleGives
      by None = tt
      by (Some selectors) = block_gives rule.block h

    all_rules_give : (rules : List Rule) → AllByRecursion RuleOfText rules → AllByRecursion RuleGives (filter_map style_rule_in rules)
    all_rules_give [] h = tt
    all_rules_give (rule ∷ rules) h = by (style_rule_in rule) (rule_gives rule h.0) (all_rules_give rules h.1) where
      by : (o : Option StyleRule) → IfSome o RuleGives → AllByRecursion RuleGives (filter_map style_rule_in rules) → AllByRecursion RuleGives (cons_option o (filter_map style_rule_in rules))
      by None k rest = rest
      by (Some made) k rest = (k, rest)

    pub rules_give : (edition : SheetEdition) (text : Characters) → AllByRecursion (λ (rule : StyleRule). AllByRecursion (λ (d : Declared). P d.given) rule.declarations) (style_rules_in edition text)
    unfolding style_rules_in
    rules_give edition text = all_rules_give (sheet_rules_in edition text) (sheet_rules_of_text edition text)
