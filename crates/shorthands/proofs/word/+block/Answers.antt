use Rattle.std.proofs.Common.{◌∷◌, [], option_map, ap, sym, ◌∙◌}
use Rattle.syntax_model.specs.Brackets.{with_opened}
use Rattle.css_tokens.specs.View.{bracket_of}
use Rattle.shorthands.specs.Blocks.{after_closer}
use Rattle.shorthands.proofs.BlockLemmas.{closed_in_order, closed_none}
use Rattle.shorthands.proofs.word.+block.Goals as goal

pub after_block-returns-after-tokens-clause-rest :
    goal.after_block-returns-after-tokens-clause-rest
after_block-returns-after-tokens-clause-rest t c =
    sym (closed_none c.tokens.nested c.tokens.rest.now (sym c.is_empty.ensures ∙ c.tokens-test.false))
    ∙ c.tokens.invariant.rest

pub opened-returns-then-not-open-clause-rest : goal.opened-returns-then-not-open-clause-rest
opened-returns-then-not-open-clause-rest t c =
    ap (λ pending. after_closer pending c.after_block.result.now) (c.open.ensures.full c.if-not-open.true)
    ∙ (ap (after_closer c.args.nested.now) c.after_block.ensures.rest
    ∙ (sym (closed_in_order (bracket_of c.in-Some.bracket ∷ []) c.args.nested.now c.args.tokens.now)
    ∙ ap (λ bracket. after_closer (with_opened (option_map bracket_of bracket) c.args.nested.now) c.args.tokens.now) (sym c.in-Some.is)))
