use Rattle.std.proofs.Common.{◌≡◌, ◌++◌, Some, None, flat_map, option_map, ap, sym, ◌∙◌}
use Rattle.std.proofs.lemmas.Result.{on_ok_weaker}
use Rattle.css_rules.specs.View.{declaration_of}
use Rattle.shorthands.specs.View.{declared_of, given_of, property_name_of}
use Rattle.sheet_set.specs.Parts.{common_given_in, declared_for}
use Rattle.sheet_set.proofs.KeptLemmas.{name_entry}
use Rattle.sheet_set.proofs.PartsLemmas.{common_first, values_else}
use Rattle.sheet_set.proofs.longhands.add_property_name.Goals as goal

pub returns-in-Some : goal.returns-in-Some
returns-in-Some c =
    let declaration = declaration_of c.args.declaration.now in
    let property_name = property_name_of c.args.property_name in
    let given = c.in-Some.given in
    let some : common_given_in property_name declaration.value ≡ Some (given_of property_name given) = ap (common_given_in property_name) (sym c.as_slice.ensures) ∙ (sym (c.in_ok-given.ensures property_name) ∙ ap (option_map (given_of property_name)) c.in-Some.is) in
    let entry : declared_of (record { target = c.target_of.result; given = given; important = declaration.important }) ≡ declared_for declaration property_name = ap (λ target. declared_of (record { target = target; given = given; important = declaration.important })) c.target_of.ensures ∙ (name_entry declaration c.args.property_name given ∙ sym (common_first declaration property_name (given_of property_name given) some)) in
    on_ok_weaker c.keep.result (λ added. added ∙ ap (λ l. flat_map declared_of c.args.kept.now.items ++ l) entry) c.keep.ensures

pub returns-in-None : goal.returns-in-None
returns-in-None c =
    let declaration = declaration_of c.args.declaration.now in
    let property_name = property_name_of c.args.property_name in
    let none : common_given_in property_name declaration.value ≡ None = ap (common_given_in property_name) (sym c.as_slice.ensures) ∙ (sym (c.in_ok-given.ensures property_name) ∙ ap (option_map (given_of property_name)) c.in-None.is) in
    on_ok_weaker c.add_values.result (λ added. added ∙ ap (λ l. flat_map declared_of c.args.kept.now.items ++ l) (sym (values_else declaration property_name none))) c.add_values.ensures
