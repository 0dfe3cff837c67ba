use Rattle.std.proofs.Common.{◌≡◌, List, Some, IfSome, length, unwrap_or, subst, sym, rules}
use Rattle.std.specs.Arc.{arc_value}
use Rattle.value_model.specs.Style.{Style, inherited_part}
use Rattle.style_value.specs.Parts.{custom_at, part_at, styles_of}
use Rattle.style_value.specs.declared.table.TableStyle.{TableStyle}
use Rattle.style_value.proofs.TableLemmas.{have_more, last_there}
use Rattle.style_value.proofs.table.StyleTable.append.Goals as goal

pub invariant_of-self-2 : goal.invariant_of-self-2
invariant_of-self-2 c =
    let last : TableStyle = record { style = c.args.style; part = c.unwrap_or-part.result; custom = c.unwrap_or.result } in
    let told = subst (λ (l : List Style). IfSome c.find_part.result (λ part. part_at l part ≡ Some (inherited_part c.deref-2.result.now))) (sym c.self.view_is) c.find_part.ensures in
    let list = c.self.inside.styles.items in
    let found = subst (λ (s : Style). IfSome c.find_part.result (λ part. part_at (styles_of list) part ≡ Some (inherited_part s))) c.deref-2.ensures told in
    let shared = subst (λ (l : List Style). IfSome c.args.custom (λ like. custom_at l like ≡ Some (arc_value c.args.style).custom)) (sym c.self.view_is) c.requires in
    let part : c.unwrap_or-part.result ≡ unwrap_or c.find_part.result (length list) = search rules in
    let custom : c.unwrap_or.result ≡ unwrap_or c.args.custom (length list) = search rules in (
      have_more list last inherited_part (λ one. one.part) c.self.invariant.0 c.find_part.result found part c.push.new.self.items c.in_ok-push.ensures.items,
      have_more list last (λ (s : Style). s.custom) (λ one. one.custom) c.self.invariant.1 c.args.custom shared custom c.push.new.self.items c.in_ok-push.ensures.items,
    )

pub returns-clause-added : goal.returns-clause-added
returns-clause-added c =
    let last : TableStyle = record { style = c.args.style; part = c.unwrap_or-part.result; custom = c.unwrap_or.result } in
    last_there c.self.inside.styles.items last c.push.new.self.items c.len-number.result c.in_ok-push.ensures.items (search rules)
