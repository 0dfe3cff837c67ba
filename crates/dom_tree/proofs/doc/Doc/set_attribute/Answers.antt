use Rattle.std.proofs.Common.{Some, slice_get, sym, ap, ◌∙◌}
use Rattle.std.specs.Str.{chars}
use Rattle.std.proofs.lemmas.Option.{slice_get_within}
use Rattle.dom_tree.proofs.DocEditLemmas.{given_document, given_whole, is_set, more_lists, more_names, more_same, more_whole, set_nodes}
use Rattle.dom_tree.proofs.NameLemmas.{KeepsTexts-more, lent_text, still_named}
use Rattle.dom_tree.proofs.doc.Doc.set_attribute.Goals as goal

pub invariant_of-self : goal.invariant_of-self
invariant_of-self c = more_whole c.self.invariant (more_names c.self.invariant c.intern.ensures.kept c.intern.ensures.once) c.intern.ensures.nodes

pub invariant_of-self-in_err-text : goal.invariant_of-self-in_err-text
invariant_of-self-in_err-text c =
    let kept = KeepsTexts-more _ _ _ c.intern.ensures.kept c.intern-2.ensures.kept in
    more_whole c.self.invariant (more_names c.self.invariant kept c.intern-2.ensures.once) (c.intern-2.ensures.nodes ∙ c.intern.ensures.nodes)

pub label_with-requires-clause-within : goal.label_with-requires-clause-within
label_with-requires-clause-within c = slice_get_within _ _ _ (ap (λ n. slice_get n c.in_ok-text.text) c.names.ensures ∙ c.in_ok-text.ensures.name)

pub label_with-requires-clause-cuts : goal.label_with-requires-clause-cuts
label_with-requires-clause-cuts c =
    let kept = KeepsTexts-more _ _ _ c.intern.ensures.kept c.intern-2.ensures.kept in
    let more = more_same (more_names c.self.invariant kept c.intern-2.ensures.once) c.names.ensures in more.cut

pub invariant_of-self-in_err-label : goal.invariant_of-self-in_err-label
invariant_of-self-in_err-label c =
    let kept = KeepsTexts-more _ _ _ c.intern.ensures.kept c.intern-2.ensures.kept in
    let longer = more_lists (more_names c.self.invariant kept c.intern-2.ensures.once) c.names.ensures c.label_with.ensures.kept c.label_with.ensures.cuts in
    more_whole c.self.invariant longer (c.intern-2.ensures.nodes ∙ c.intern.ensures.nodes)

pub set_attribute-requires-clause-name : goal.set_attribute-requires-clause-name
set_attribute-requires-clause-name c = slice_get_within _ _ _ (still_named _ _ _ c.in_ok-attribute.ensures.name c.intern-2.ensures.kept)

pub set_attribute-requires-clause-value : goal.set_attribute-requires-clause-value
set_attribute-requires-clause-value c = slice_get_within _ _ _ c.in_ok-text.ensures.name

pub invariant_of-self-in_err-set_attribute : goal.invariant_of-self-in_err-set_attribute
invariant_of-self-in_err-set_attribute c =
    let kept = KeepsTexts-more _ _ _ c.intern.ensures.kept c.intern-2.ensures.kept in
    let longer = more_lists (more_names c.self.invariant kept c.intern-2.ensures.once) c.names.ensures c.label_with.ensures.kept c.label_with.ensures.cuts in
    more_whole c.self.invariant (more_same longer c.set_attribute.ensures.names) (c.in_err-set_attribute.ensures.err ∙ (c.intern-2.ensures.nodes ∙ c.intern.ensures.nodes))

pub invariant_of-self-2 : goal.invariant_of-self-2
invariant_of-self-2 c =
    let kept = KeepsTexts-more _ _ _ c.intern.ensures.kept c.intern-2.ensures.kept in
    let longer = more_lists (more_names c.self.invariant kept c.intern-2.ensures.once) c.names.ensures c.label_with.ensures.kept c.label_with.ensures.cuts in
    let name = still_named _ _ _ c.in_ok-attribute.ensures.name c.intern-2.ensures.kept in
    let nodes = set_nodes c.intern-2.new.self.names _ _ _ name c.in_ok-text.ensures.name (c.intern-2.ensures.nodes ∙ c.intern.ensures.nodes) c.in_ok-set_attribute.ensures.ok in
    let value = ap Some (sym (lent_text c.in_ok-text.text (sym c.names.ensures) c.in_ok-text.ensures.name)) in
    given_whole c.self.invariant c.self.view_is _ c.requires (is_set (chars c.args.name.now) (chars c.args.value.now)) _ _ nodes (more_same longer c.set_attribute.ensures.names) value
    (c.names.ensures ∙ sym c.set_attribute.ensures.names) c.index.ensures c.in_ok-label.ensures.label

pub returns-clause-ok : goal.returns-clause-ok
returns-clause-ok c =
    let name = still_named _ _ _ c.in_ok-attribute.ensures.name c.intern-2.ensures.kept in
    given_document c.self.invariant c.self.view_is _ c.requires (is_set (chars c.args.name.now) (chars c.args.value.now)) c.set_attribute.new.self
    (set_nodes c.intern-2.new.self.names _ _ _ name c.in_ok-text.ensures.name (c.intern-2.ensures.nodes ∙ c.intern.ensures.nodes) c.in_ok-set_attribute.ensures.ok)
