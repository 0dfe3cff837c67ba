use Rattle.std.proofs.Common.{◌≡◌, IfOk, None, Some, map, option_map, sym, ap, subst, ◌∙◌}
use Rattle.std.specs.FinMap as finmap
use Rattle.syntax_model.specs.Token.{said}
use Rattle.css_tokens.specs.View.{wide_of as keyword_of}
use Rattle.custom_model.specs.Computed.{wide_of}
use Rattle.custom_properties.proofs.OffLemmas.{off_plain, off_none, off_unplaced, off_expanded}
use Rattle.custom_properties.proofs.computed.expanded.Goals as goal

pub returns-in-Some : goal.returns-in-Some
returns-in-Some g c =
    let values = g.V.Values.lookup c.args.known.now in
    let kept = finmap.get c.args.inherited.now c.args.name.now in
    subst (λ x. IfOk c.by_keyword.result (λ v. v ≡ x))
    (off_plain values kept c.args.value.now c.tokens.result.now c.tokens.ensures (c.is_plain.ensures.0 c.if-is_plain.true values) (Some (keyword_of c.in-Some.wide)) c.in-Some.ensures)
    (c.by_keyword.ensures c.args.value.now)

pub returns-in_default : goal.returns-in_default
returns-in_default g c =
    let values = g.V.Values.lookup c.args.known.now in
    let kept = finmap.get c.args.inherited.now c.args.name.now in
    off_none values kept c.args.value.now c.tokens-2.result.now c.tokens-2.ensures (option_map (λ l. l.items) c.in_ok-tokens.field-0) (ap (option_map (λ l. l.items)) c.in_default.is) c.in_ok-tokens.ensures

pub of_tokens-requires : goal.of_tokens-requires
of_tokens-requires g c =
    let values = g.V.Values.lookup c.args.known.now in
    let kept = finmap.get c.args.inherited.now c.args.name.now in
    off_unplaced values kept c.args.value.now c.tokens-2.result.now c.tokens-2.ensures c.in-Some-2.tokens.items (ap (option_map (λ l. l.items)) (sym c.in-Some-2.is) ∙ c.in_ok-tokens.ensures)

pub returns-in_ok-value-in-None-wide_keyword : goal.returns-in_ok-value-in-None-wide_keyword
returns-in_ok-value-in-None-wide_keyword g c =
    let values = g.V.Values.lookup c.args.known.now in
    let kept = finmap.get c.args.inherited.now c.args.name.now in
    ap Some c.in_ok-value-in-None-wide_keyword.ensures
    ∙ off_expanded values kept c.args.value.now c.tokens-2.result.now c.tokens-2.ensures c.in-Some-2.tokens.items (ap (option_map (λ l. l.items)) (sym c.in-Some-2.is) ∙ c.in_ok-tokens.ensures) None
    (c.in-None-wide_keyword.ensures ∙ ap (λ l. wide_of (map said l)) c.deref.ensures.value)

pub returns-in-Some-wide_keyword : goal.returns-in-Some-wide_keyword
returns-in-Some-wide_keyword g c =
    let values = g.V.Values.lookup c.args.known.now in
    let kept = finmap.get c.args.inherited.now c.args.name.now in
    subst (λ x. IfOk c.by_keyword-in-Some-wide_keyword.result (λ v. v ≡ x))
    (off_expanded values kept c.args.value.now c.tokens-2.result.now c.tokens-2.ensures c.in-Some-2.tokens.items (ap (option_map (λ l. l.items)) (sym c.in-Some-2.is) ∙ c.in_ok-tokens.ensures) (Some (keyword_of c.in-Some-wide_keyword.wide))
    (c.in-Some-wide_keyword.ensures ∙ ap (λ l. wide_of (map said l)) c.deref.ensures.value))
    (c.by_keyword-in-Some-wide_keyword.ensures (map said c.in-Some-2.tokens.items))
