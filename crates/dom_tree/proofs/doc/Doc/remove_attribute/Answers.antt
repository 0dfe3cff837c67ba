use Rattle.std.proofs.Common.{◌≡◌, ℕ, Bool, true, Option, None, Some, option_map, is_some, false, not, refl, sym, ◌∙◌}
use Rattle.std.specs.Str.{chars}
use Rattle.std.proofs.lemmas.Option.{slice_get_within}
use Rattle.scene_model.specs.Element.{Characters}
use Rattle.dom_tree.specs.Kept.{text_of}
use Rattle.dom_tree.proofs.DocEditLemmas.{given_document, given_whole, is_removed, more_lists, more_names, more_same, more_whole, unset_document, unset_nodes}
use Rattle.dom_tree.proofs.NameLemmas.{found_name}
use Rattle.dom_tree.proofs.doc.Doc.remove_attribute.Goals as goal

gone : (f : ℕ → Characters) (b : Bool) (o : Option ℕ) → is_some o ≡ not b → b ≡ true → option_map f o ≡ None
gone f b None e h = refl
gone f true (Some n) e h = cc
gone f false (Some n) e h = cc

pub returns-then-is_none-clause-ok : goal.returns-then-is_none-clause-ok
returns-then-is_none-clause-ok c =
    let name = found_name (chars c.args.name.now) c.names.ensures _ c.find-known.ensures.found c.find-known.ensures.there in
    unset_document c.self.invariant c.self.view_is _ c.requires (chars c.args.name.now) (c.value.ensures.value (chars c.args.name.now) name)
    (gone (text_of c.self.inside.columns.names) _ _ c.is_none.ensures c.if-is_none.true)

pub invariant_of-self : goal.invariant_of-self
invariant_of-self c = more_whole c.self.invariant (more_names c.self.invariant c.intern.ensures.kept c.intern.ensures.once) c.intern.ensures.nodes

pub label_with-requires-clause-cuts : goal.label_with-requires-clause-cuts
label_with-requires-clause-cuts c =
    let more = more_same (more_names c.self.invariant c.intern.ensures.kept c.intern.ensures.once) c.names-2.ensures in more.cut

pub invariant_of-self-in_err-label : goal.invariant_of-self-in_err-label
invariant_of-self-in_err-label c =
    let more = more_names c.self.invariant c.intern.ensures.kept c.intern.ensures.once in
    more_whole c.self.invariant (more_lists more c.names-2.ensures c.label_with.ensures.kept c.label_with.ensures.cuts) c.intern.ensures.nodes

pub remove_attribute-requires-clause-name : goal.remove_attribute-requires-clause-name
remove_attribute-requires-clause-name c = slice_get_within _ _ _ c.in_ok-attribute.ensures.name

pub invariant_of-self-in_err-remove_attribute : goal.invariant_of-self-in_err-remove_attribute
invariant_of-self-in_err-remove_attribute c =
    let more = more_names c.self.invariant c.intern.ensures.kept c.intern.ensures.once in
    let longer = more_same (more_lists more c.names-2.ensures c.label_with.ensures.kept c.label_with.ensures.cuts) c.remove_attribute.ensures.names in
    more_whole c.self.invariant longer (c.in_err-remove_attribute.ensures.err ∙ c.intern.ensures.nodes)

pub invariant_of-self-2 : goal.invariant_of-self-2
invariant_of-self-2 c =
    let more = more_names c.self.invariant c.intern.ensures.kept c.intern.ensures.once in
    let longer = more_same (more_lists more c.names-2.ensures c.label_with.ensures.kept c.label_with.ensures.cuts) c.remove_attribute.ensures.names in
    let nodes = unset_nodes c.intern.new.self.names c.in_ok-attribute.attribute _ c.in_ok-attribute.ensures.name c.intern.ensures.nodes c.in_ok-remove_attribute.ensures.ok in
    let same = c.names-2.ensures ∙ sym c.remove_attribute.ensures.names in
    given_whole c.self.invariant c.self.view_is _ c.requires (is_removed (chars c.args.name.now)) _ _ nodes longer refl same c.index.ensures c.in_ok-label.ensures.label

pub returns-clause-ok : goal.returns-clause-ok
returns-clause-ok c =
    given_document c.self.invariant c.self.view_is _ c.requires (is_removed (chars c.args.name.now)) c.remove_attribute.new.self
    (unset_nodes c.intern.new.self.names c.in_ok-attribute.attribute _ c.in_ok-attribute.ensures.name c.intern.ensures.nodes c.in_ok-remove_attribute.ensures.ok)
