-- Where a block is opened: that of a layer is read in the inner layer.
use Rattle.std.proofs.Common.{◌≡◌, ℕ, zero, suc, pred, ◌+◌, ◌≤◌, ◌<◌, Bool, true, false, cond, nat_le, List, [], ◌∷◌, ◌++◌, length}
use Rattle.std.proofs.Common.{Option, Some, None, refl, ap, ◌∙◌, arith, append_assoc, length-append}
use Rattle.std.specs.Option.{option_and_then}
use Rattle.std.proofs.lemmas.Bool.Decides.{nat_tests}
use Rattle.std.proofs.lemmas.Option.{option_and_then_some}
use Rattle.base_model.specs.Lists.{is_nil}
use Rattle.base_model.specs.Text.{Characters}
use Rattle.layer_model.specs.Name.{LayerName, Part, anonymous, part_limit}
use Rattle.syntax_model.specs.Token.{Token}
use Rattle.syntax_model.specs.TokenKinds.{trimmed}
use Rattle.syntax_model.specs.Brackets.{curly, open_past}
use Rattle.syntax_model.specs.Rules.{Context, Head, Piece, layer, qualified_head, at_head, at_rule}
use Rattle.syntax_model.specs.RulesIn.{in_block, pieces_in}
use Rattle.syntax_model.specs.LayersIn.{block_layer, is_anonymous, layer_within, name_in, part_in, parts_after}
use Rattle.syntax_model.specs.SheetRules.{RulesFound, found, block_found, block_within, counted, is_layer_name}
use Rattle.css_rules.specs.Walk.{Walk, entered, head_named, opened, step, steps}
use Rattle.css_rules.specs.declared.rule_parser.ParserState.TheVariants.{Prelude, Dropped}
use Rattle.css_rules.specs.declared.rule_parser.Head.TheVariants.{Layer}
use Rattle.css_rules.proofs.BlockLemmas.{Fits, IsBlock, block_of}
use Rattle.css_rules.proofs.WalkLemmas.{Place, after, found_at, found_then, head_of, reading}
use Rattle.css_rules.proofs.RunLemmas.{DropsBlock, Ends, Holds, IsEnough, Known, before_block, in_dropped, in_kept, no_rule, between_at, from_end, from_stage, steps-append, walk_in}

-- a layer that is declared is deeper, and within the limit
pub record IsDeeper (context inner : Context) : Type 0 where
  pub deeper : length context.layer < length inner.layer
  pub few : length inner.layer ≤ part_limit

module _ (context inner : Context) (name : LayerName) (some : 0 < length name) where
  within_deeper : (few : Bool) → nat_le (length (context.layer ++ name)) part_limit ≡ few → cond few (Some (record { layer = context.layer ++ name })) None ≡ Some inner → IsDeeper context inner
  within_deeper false test is = cc
  within_deeper true test is =
      let made : record { layer = context.layer ++ name } ≡ inner = cc in
      let same : length (context.layer ++ name) ≡ length inner.layer = ap (λ (c : Context). length c.layer) made in
      let few : length (context.layer ++ name) ≤ part_limit = grind (arith, nat_tests) in
      record { deeper = omega (arith, length-append context.layer name); few = omega arith }

-- a name has a part
one_part : (part : Option Part) (rest : Option LayerName) (name : LayerName) → option_and_then (λ p. option_and_then (λ ps. Some (p ∷ ps)) rest) part ≡ Some name → 0 < length name
one_part None rest name is = cc
one_part (Some p) None name is = cc
one_part (Some p) (Some ps) name is = let made : p ∷ ps ≡ name = cc in omega (arith, ap length made)

name_some : (tokens : List Token) (name : LayerName) → name_in tokens ≡ Some name → 0 < length name
name_some [] name is = cc
name_some (token ∷ tokens) name is = one_part (part_in token) (parts_after tokens) name is

module _ (at : Place) (prelude : List Token) where
  -- the layer that `@layer` with this prelude and a block declares
  abbrev declared : Option Context
  declared = block_layer at.edition at.anonymous at.context prelude

  module _ (inner : Context) where
    layer_deeper : (nameless : Bool) → is_anonymous prelude ≡ nameless → declared ≡ Some inner → IsDeeper at.context inner
    layer_deeper true test is =
        let name : LayerName = anonymous at.edition.sheet at.edition.edition at.anonymous ∷ [] in
        within_deeper at.context inner name (omega arith) _ refl (rw test at is)
    layer_deeper false test is =
        option_and_then_some (layer_within at.context) (name_in (trimmed prelude)) inner (rw test at is)
        (λ name named within. within_deeper at.context inner name (name_some (trimmed prelude) name named) _ refl within)

module _ {at : Place} {tokens : List Token} (known : Known at tokens) (fits : Fits (is_nil at.outer) (curly ∷ []) tokens) where
  abbrev top : Bool
  top = is_nil at.outer

  -- by the walk where the block of a rule begins
  abbrev FromBlock : Head → List Token → Walk → Type 0
  FromBlock head prelude walk = Holds at (steps walk tokens) (in_block top head prelude [] (curly ∷ []) tokens)

  abbrev begun : Head → List Token → Walk
  begun head prelude = walk_in {at = at} (before_block head prelude [])

  module _ (name : Characters) (prelude : List Token) where
    abbrev counting : Place
    counting = record at { anonymous = counted at.anonymous prelude }

    -- the block of a layer, and then what comes after it
    module _ (named : is_layer_name name ≡ true) (inner : Context) (is : declared at prelude ≡ Some inner) where
      abbrev in_layer : ℕ → Place
      in_layer levels = record {
        edition = at.edition;
        levels = levels;
        rules = at.rules ++ layer inner ∷ [];
        anonymous = counting.anonymous;
        outer = at.context ∷ at.outer;
        context = inner;
      }

      deep : IsDeeper at.context inner
      deep = layer_deeper at prelude inner _ refl is

      module _ (levels : ℕ) (level : at.levels ≡ suc levels) (block : IsBlock top [] tokens) where
        abbrev start : Walk
        start = between_at (in_layer levels)

        abbrev inside : RulesFound
        inside = found_at (in_layer levels) (pieces_in false block.body)

        abbrev all : RulesFound
        all = found (layer inner ∷ inside.rules) inside.anonymous

        lengths : length tokens ≡ length block.body + length (block.close ∷ block.rest)
        lengths = ap length block.split ∙ length-append block.body (block.close ∷ block.rest)

        body_ends : Ends (after (in_layer levels) inside) (steps start block.body)
        body_ends =
            let short : length block.body < known.most = omega (arith, lengths, known.short) in
            let enough : IsEnough (in_layer levels) = omega (arith, level, known.enough, deep.deeper) in
            known.claims (in_layer levels) no_rule block.body short enough block.fits_inside

        closes : step (steps start block.body) block.close ≡ between_at (after at all)
        closes =
            let joined = append_assoc at.rules (layer inner ∷ []) inside.rules in
            body_ends.leaves at.context at.outer block.close refl block.closes
            ∙ ap (λ rules. between_at (record (after at all) { rules = rules })) joined

        goes_to : steps start tokens ≡ steps (between_at (after at all)) block.rest
        goes_to = rw (block.split, steps-append start block.body (block.close ∷ block.rest), closes) refl

        known_after : Known at block.rest
        known_after = record {
          most = known.most;
          claims = known.claims;
          short = omega (arith, lengths, known.short);
          enough = known.enough;
        }

        gives : block_found (block_within at.levels at.edition) at.edition at.context at.anonymous name prelude block.body ≡ all
        gives = rw (named, is, level)

        layer_read : FromBlock (at_head name) prelude start
        layer_read =
            let pieces : List Piece = pieces_in top block.rest in
            rw (goes_to, block.read (at_head name) prelude [])
            (from_end known_after all (at_rule name prelude (Some block.body) ∷ pieces) (ap (λ first. found_then at first pieces) gives) block.fits_after)

      -- there is a level for it
      by_level : (levels : ℕ) → at.levels ≡ levels → FromBlock (at_head name) prelude (between_at (in_layer (pred levels)))
      by_level zero level = absurd (omega (arith, level, known.enough, deep.deeper, deep.few))
      by_level (suc levels) level = layer_read levels level (block_of top [] tokens fits)

    -- any other is dropped
    module _ (token : Token) (opens_one : open_past [] token ≡ curly ∷ []) where
      from_dropped : (rule : DropsBlock at) → FromBlock (at_head rule.name) rule.prelude (reading (record at { anonymous = rule.anonymous }) Dropped [] [] (open_past [] token))
      from_dropped rule = rw opens_one (from_stage known (in_dropped rule [] curly []) fits)

      -- `@layer`, by the layer that it declares
      by_layer : is_layer_name name ≡ true → (o : Option Context) → declared at prelude ≡ o → FromBlock (at_head name) prelude (entered o (reading counting (Prelude Layer) [] [] []) token.kind)
      by_layer named None is = from_dropped (record {
        name = name;
        prelude = prelude;
        anonymous = counting.anonymous;
        gives_none = λ block. rw (named, is);
      })
      by_layer named (Some inner) is = by_level named inner is at.levels refl

      by_name : (named : Bool) → is_layer_name name ≡ named → FromBlock (at_head name) prelude (opened (head_named name) (begun (at_head name) prelude) token.kind)
      by_name true named = rw named (by_layer named _ refl)
      by_name false other =
          rw other
          (from_dropped (record { name = name; prelude = prelude; anonymous = at.anonymous; gives_none = λ block. rw other }))

  pub opens : (token : Token) → open_past [] token ≡ curly ∷ [] → (head : Head) (prelude : List Token) → FromBlock head prelude (opened (head_of head) (begun head prelude) token.kind)
  opens token is qualified_head prelude = rw is (from_stage known (in_kept prelude [] curly []) fits)
  opens token is (at_head name) prelude = by_name name prelude token is _ refl
