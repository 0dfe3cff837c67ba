use Rattle.std.proofs.Common.{ap, sym, ◌∙◌, ◌≡◌, ℕ}
use Rattle.value_model.specs.Shorthand.{longhands_of}
use Rattle.property_table.specs.View.{property_of}
use Rattle.property_table.specs.declared.property.PropId.{PropId}
use Rattle.shorthands.specs.View.{place_in, short_of}
use Rattle.shorthands.specs.declared.short.Short.{Short}
use Rattle.shorthands.proofs.ShortLemmas.{place_in_all, place_in_border_color, place_in_border_style, place_in_border_width, place_in_margin, place_in_overflow, place_in_padding}
use Rattle.shorthands.proofs.short.Short.offset.Goals as goal

-- the place in one's own list, from that in the list of a shorthand by name
of_own : (own short : Short) (id : PropId) (n : ℕ) → own ≡ short → n ≡ place_in (longhands_of (short_of short)) (property_of id) → n ≡ place_in (longhands_of (short_of own)) (property_of id)
of_own own short id n is at = at ∙ ap (λ it. place_in (longhands_of (short_of it)) (property_of id)) (sym is)

pub returns-in-Margin : goal.returns-in-Margin
returns-in-Margin c = of_own _ _ c.args.id _ c.in-Margin.is (c.offset_from.ensures ∙ place_in_margin c.args.id)

pub returns-in-Padding : goal.returns-in-Padding
returns-in-Padding c = of_own _ _ c.args.id _ c.in-Padding.is (c.offset_from-in-Padding.ensures ∙ place_in_padding c.args.id)

pub returns-in-BorderWidth : goal.returns-in-BorderWidth
returns-in-BorderWidth c = of_own _ _ c.args.id _ c.in-BorderWidth.is (c.offset_from-in-BorderWidth.ensures ∙ place_in_border_width c.args.id)

pub returns-in-BorderStyle : goal.returns-in-BorderStyle
returns-in-BorderStyle c = of_own _ _ c.args.id _ c.in-BorderStyle.is (c.offset_from-in-BorderStyle.ensures ∙ place_in_border_style c.args.id)

pub returns-in-BorderColor : goal.returns-in-BorderColor
returns-in-BorderColor c = of_own _ _ c.args.id _ c.in-BorderColor.is (c.offset_from-in-BorderColor.ensures ∙ place_in_border_color c.args.id)

pub returns-in-Overflow : goal.returns-in-Overflow
returns-in-Overflow c = of_own _ _ c.args.id _ c.in-Overflow.is (c.offset_from-in-Overflow.ensures ∙ place_in_overflow c.args.id)

pub returns-in-All : goal.returns-in-All
returns-in-All c = of_own _ _ c.args.id _ c.in-All.is (c.offset_but.ensures ∙ place_in_all c.args.id)
