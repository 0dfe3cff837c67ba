use Rattle.std.proofs.Common.{sym, ◌∙◌}
use Rattle.css_rules.proofs.DeclarationLemmas.{at_rule_shorter, drops, none_more, skips, takes}
use Rattle.css_rules.proofs.declarations.declaration_list.Goals as goal

pub loop-first-preserved-then-is_between : goal.loop-first-preserved-then-is_between
loop-first-preserved-then-is_between c =
    let between = sym c.is_between.ensures ∙ c.if-is_between.true in
    rw c.next.ensures.rest (skips _ _ c.loop-first.invariant c.in-Some.ensures.1 between)

pub loop-first-smaller-then-is_at_keyword : goal.loop-first-smaller-then-is_at_keyword
loop-first-smaller-then-is_at_keyword c =
    rw (c.in_ok-skip_at_rule.ensures, c.next-then-is_at_keyword.ensures.rest) (at_rule_shorter c.in-Some.ensures.1)

pub loop-first-preserved-then-is_at_keyword : goal.loop-first-preserved-then-is_at_keyword
loop-first-preserved-then-is_at_keyword c =
    let other = sym c.is_between.ensures ∙ c.if-is_between.false in
    let keyword = sym c.is_at_keyword.ensures ∙ c.if-is_at_keyword.true in
    rw (c.in_ok-skip_at_rule.ensures, c.next-then-is_at_keyword.ensures.rest)
    (drops _ _ c.loop-first.invariant c.in-Some.ensures.1 other keyword)

pub loop-first-preserved : goal.loop-first-preserved
loop-first-preserved c =
    let other = sym c.is_between.ensures ∙ c.if-is_between.false in
    let none = sym c.is_at_keyword.ensures ∙ c.if-is_at_keyword.false in
    let piece = c.in_ok-tokens.ensures in
    rw (c.in_ok-append_declaration.ensures, piece.rest, piece.brackets, piece.tokens)
    (takes _ _ c.loop-first.invariant c.in-Some.ensures.1 other none)

pub returns : goal.returns
returns c = none_more _ _ _ c.loop-first.invariant c.in_default.ensures
