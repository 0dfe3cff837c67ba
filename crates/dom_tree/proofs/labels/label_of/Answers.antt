use Rattle.std.proofs.Common.{ap, length, option_map, slice_get, subst, sym, ◌∙◌, ◌<◌, IfSome}
use Rattle.dom_tree.specs.Kept.{text_of}
use Rattle.dom_tree.specs.Labels.{AreCuts}
use Rattle.dom_tree.proofs.CutLemmas.{cuts_more}
use Rattle.dom_tree.proofs.MoreLabels.{cut_more, label_renamed, made_of, name_within, only_names, some_kept, some_within, tag_renamed, tag_still}
use Rattle.dom_tree.proofs.NameLemmas.{KeepsTexts-more}
use Rattle.dom_tree.proofs.labels.label_of.Goals as goal

pub returns-in_err-intern-clause-more : goal.returns-in_err-intern-clause-more
returns-in_err-intern-clause-more c = only_names c.intern.ensures.kept c.intern.ensures.once c.requires.cuts

pub value-requires-clause-name : goal.value-requires-clause-name
value-requires-clause-name c = name_within c.args.list.now.names _ c.args.asked.now.id c.requires.id

pub returns-in_err-id-clause-more : goal.returns-in_err-id-clause-more
returns-in_err-id-clause-more c = only_names (KeepsTexts-more _ _ _ c.intern.ensures.kept c.renamed.ensures.kept) c.renamed.ensures.once c.requires.cuts

pub value-requires-2-clause-name : goal.value-requires-2-clause-name
value-requires-2-clause-name c = name_within c.args.list.now.names _ c.args.asked.now.class c.requires.class

pub returns-in_err-class-clause-more : goal.returns-in_err-class-clause-more
returns-in_err-class-clause-more c = only_names (KeepsTexts-more _ _ _ (KeepsTexts-more _ _ _ c.intern.ensures.kept c.renamed.ensures.kept) c.renamed-2.ensures.kept) c.renamed-2.ensures.once
    c.requires.cuts

pub id_among-id-requires : goal.id_among-id-requires
id_among-id-requires c =
    subst (λ n. IfSome c.in_ok-id.id (λ name. name < length n)) (sym c.names.ensures) (some_within c.renamed.new.columns.names c.renamed-2.new.columns.names c.in_ok-id.id c.renamed-2.ensures.kept
    c.in_ok-id.ensures.named)

pub classes_for-requires-clause-cuts : goal.classes_for-requires-clause-cuts
classes_for-requires-clause-cuts c =
    subst (λ n. AreCuts n c.args.lists.now c.args.cuts.now.items) (sym c.names-2.ensures) (cuts_more (KeepsTexts-more _ _ _
    (KeepsTexts-more _ _ _ c.intern.ensures.kept c.renamed.ensures.kept) c.renamed-2.ensures.kept) (λ k l h. h) c.requires.cuts)

pub returns-in_err-classes-clause-more : goal.returns-in_err-classes-clause-more
returns-in_err-classes-clause-more c = cut_more (KeepsTexts-more _ _ _ (KeepsTexts-more _ _ _ c.intern.ensures.kept c.renamed.ensures.kept) c.renamed-2.ensures.kept) c.renamed-2.ensures.once
    c.names-2.ensures c.classes_for.ensures.kept c.classes_for.ensures.cuts

pub returns-clause-more : goal.returns-clause-more
returns-clause-more c = cut_more (KeepsTexts-more _ _ _ (KeepsTexts-more _ _ _ c.intern.ensures.kept c.renamed.ensures.kept) c.renamed-2.ensures.kept) c.renamed-2.ensures.once c.names-2.ensures
    c.classes_for.ensures.kept c.classes_for.ensures.cuts

pub returns-clause-label : goal.returns-clause-label
returns-clause-label c =
    let list = c.in_ok-classes.ensures in
    let made = made_of c.names.ensures c.names-2.ensures c.id_among-id.ensures.text c.id_among-id.ensures.named list.list list.listed in
    let same = some_kept c.renamed.new.columns.names c.renamed-2.new.columns.names c.in_ok-id.id c.renamed-2.ensures.kept c.in_ok-id.ensures.named
    ∙ (c.in_ok-id.ensures.text ∙ ap (λ n. option_map (text_of n) c.value.result) c.names-names.ensures) in
    let alike = c.in_ok-class.ensures.text ∙ ap (λ n. option_map (text_of n) c.value-2.result) c.names-names.ensures in
    label_renamed c.args.list.now.names c.args.list.now.nodes c.value.result c.value-2.result c.requires.index made same alike (c.value.ensures.value _ c.requires.id)
    (c.value-2.ensures.value _ c.requires.class)

pub returns-clause-tag : goal.returns-clause-tag
returns-clause-tag c =
    let was = ap (λ n. slice_get n c.tag.result) (sym c.names-names.ensures) ∙ c.text.ensures in
    tag_still c.intern.new.self.names c.renamed-2.new.columns.names c.args.list.now.nodes c.args.index (KeepsTexts-more _ _ _ c.renamed.ensures.kept c.renamed-2.ensures.kept) c.requires.index
    (tag_renamed c.args.list.now.nodes c.args.index c.tag.result c.in_ok-intern.field-0 c.args.list.now.names c.intern.new.self.names c.requires.index c.tag.ensures.text was
    c.in_ok-intern.ensures.name)
