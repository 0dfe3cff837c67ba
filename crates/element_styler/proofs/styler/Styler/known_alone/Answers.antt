use Rattle.std.proofs.Common.{false, Some, ap, ◌∙◌}
use Rattle.std.specs.Prelude.{option_map}
use Rattle.std.specs.Str.{chars}
use Rattle.cascade_model.specs.Cascade.{cascaded}
use Rattle.element_styler.specs.MatchedRules.{declared_by}
use Rattle.element_styler.proofs.styler.Styler.known_alone.Goals as goal

pub returns-in-Style : goal.returns-in-Style
returns-in-Style c sources size over all at =
    let right = c.find.ensures sources size c.args.self.now.table all c.in-Style.style c.in-Style.is in
    right.own_is over at
    ∙ ap (λ l. Some (cascaded false over size (declared_by sources l (option_map (λ t. chars t.now) c.args.text)))) c.deref.ensures.value
