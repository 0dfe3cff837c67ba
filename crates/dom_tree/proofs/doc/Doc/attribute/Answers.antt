use Rattle.std.proofs.Common.{rules, ◌≡◌, ap, ◌∙◌, Some, None, option_map}
use Rattle.std.specs.Str.{chars}
use Rattle.dom_tree.proofs.NameLemmas.{lent_text, found_name}
use Rattle.dom_tree.proofs.KeptLemmas.{value_is}
use Rattle.dom_tree.proofs.doc.Doc.attribute.Goals as goal

pub returns-in_err-value : goal.returns-in_err-value
returns-in_err-value c =
    let none : option_map (λ value. chars value.now) c.from_residual.result ≡ None = search rules in
    let name = found_name (chars c.args.name.now) c.names-names.ensures _ c.find.ensures.found c.find.ensures.there in
    none ∙ value_is c.self.invariant c.self.view_is _ c.requires (chars c.args.name.now) c.in_err-value.was (c.value.ensures.value (chars c.args.name.now) name)

pub returns : goal.returns
returns c =
    let name = found_name (chars c.args.name.now) c.names-names.ensures _ c.find.ensures.found c.find.ensures.there in
    ap Some (lent_text c.in_ok-value.value c.names-names.ensures c.text.ensures)
    ∙ value_is c.self.invariant c.self.view_is _ c.requires (chars c.args.name.now) c.in_ok-value.was (c.value.ensures.value (chars c.args.name.now) name)
