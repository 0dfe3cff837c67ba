use Rattle.std.proofs.Common.{◌≡◌, ◌++◌, length, ap, sym, ◌∙◌, arith}
use Rattle.layer_order.specs.View.{declarations}
use Rattle.sheet_model.specs.Sources.{edition_of, sheet_layers}
use Rattle.sheet_model.specs.StyleRules.{style_rules_in}
use Rattle.sheet_set.specs.Rules.{rules_at, rules_with, sheet_read}
use Rattle.sheet_set.proofs.Placing.{length-placed}
use Rattle.sheet_set.proofs.Taking.{length-with}
use Rattle.sheet_set.proofs.kept_sheet.KeptSheet.read.Goals as goal

pub invariant_of-result : goal.invariant_of-result
invariant_of-result c =
    let sheet = sheet_read c.args.at c.args.sheet in
    let read = c.add_sheet.new.self in
    let kept = c.in_ok-add_sheet.ensures in
    let are : rules_with read.rules.items read.selectors.items ≡ rules_at 0 sheet = kept.adds ∙ ap (λ l. l ++ rules_at 0 sheet) c.new-read.ensures.empty in
    let long = length-with read.rules.items read.selectors.items kept.paired in
    let counted : length (rules_at 0 sheet) ≡ length (style_rules_in (edition_of sheet) sheet.text) = length-placed sheet 0 0 (style_rules_in (edition_of sheet) sheet.text) in
    let lengths : length (rules_with read.rules.items read.selectors.items) ≡ length (rules_at 0 sheet) = ap length are in
    record {
      paired = omega (arith, kept.paired, read.rules.ok, read.selectors.ok);
      held = sym c.len.ensures;
      own = ∣ are ∣₁;
      declared = kept.layers ∙ ap (λ l. declarations l ++ sheet_layers sheet) c.new-read.ensures.layers;
      counted = omega (arith, c.len.ensures, long, lengths, counted, read.rules.ok);
    }
