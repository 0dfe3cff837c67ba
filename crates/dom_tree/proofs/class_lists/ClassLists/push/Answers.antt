use Rattle.std.proofs.Common.{rules, refl, ◌∙◌}
use Rattle.base_model.proofs.Results.{on_err}
use Rattle.dom_tree.proofs.ClassLemmas.{AreLists-push, AreLists-renamed, AreLists-stay, AreLists-twice, lists_pushed, lists_renamed, lists_stay, lists_twice, twice}
use Rattle.dom_tree.proofs.class_lists.ClassLists.push.Goals as goal

pub returns-in_err-name_words-clause-err : goal.returns-in_err-name_words-clause-err
returns-in_err-name_words-clause-err c = on_err _ _ (lists_renamed _ _ c.name_words.ensures.kept refl c.self.invariant c.self.view_is)

pub invariant_of-self : goal.invariant_of-self
invariant_of-self c = AreLists-renamed _ _ c.name_words.ensures.kept refl c.self.invariant

pub returns-in_err-sort_names-clause-err : goal.returns-in_err-sort_names-clause-err
returns-in_err-sort_names-clause-err c = on_err _ _ (lists_renamed _ _ c.name_words.ensures.kept refl c.self.invariant c.self.view_is)

pub invariant_of-self-in_err-span : goal.invariant_of-self-in_err-span
invariant_of-self-in_err-span c = AreLists-renamed _ _ c.name_words.ensures.kept refl c.self.invariant

pub returns-in_err-span-clause-err : goal.returns-in_err-span-clause-err
returns-in_err-span-clause-err c = on_err _ _ (lists_renamed _ _ c.name_words.ensures.kept refl c.self.invariant c.self.view_is)

pub invariant_of-self-in_err-extend_from_slice : goal.invariant_of-self-in_err-extend_from_slice
invariant_of-self-in_err-extend_from_slice c = AreLists-renamed _ _ c.name_words.ensures.kept c.in_err-extend_from_slice.ensures.items c.self.invariant

pub returns-in_err-extend_from_slice-clause-err : goal.returns-in_err-extend_from_slice-clause-err
returns-in_err-extend_from_slice-clause-err c =
    on_err _ _ (lists_renamed _ _ c.name_words.ensures.kept c.in_err-extend_from_slice.ensures.items c.self.invariant c.self.view_is)

pub invariant_of-self-in_err-extend_from_slice-2 : goal.invariant_of-self-in_err-extend_from_slice-2
invariant_of-self-in_err-extend_from_slice-2 c =
    let items = c.in_err-extend_from_slice-2.ensures.items ∙ c.in_ok-extend_from_slice.ensures.items in
    AreLists-stay _ _ c.name_words.ensures.kept c.as_slice-2.ensures.keys items c.in_ok-name_words.ensures.named c.self.invariant refl

pub returns-in_err-extend_from_slice-2-clause-err : goal.returns-in_err-extend_from_slice-2-clause-err
returns-in_err-extend_from_slice-2-clause-err c =
    let items = c.in_err-extend_from_slice-2.ensures.items ∙ c.in_ok-extend_from_slice.ensures.items in
    on_err _ _ (lists_stay _ _ c.name_words.ensures.kept c.as_slice-2.ensures.keys items c.in_ok-name_words.ensures.named c.self.invariant refl c.self.view_is)

pub invariant_of-self-in_err-push : goal.invariant_of-self-in_err-push
invariant_of-self-in_err-push c =
    let put = twice c.as_slice-2.ensures.keys c.in_ok-extend_from_slice.ensures.items c.deref.ensures.value c.in_ok-extend_from_slice-2.ensures.items c.as_slice.ensures.keys
    c.in_ok-sort_names.ensures in
    AreLists-twice _ _ c.name_words.ensures.kept put c.in_ok-name_words.ensures.named c.self.invariant c.in_err-push.ensures.items

pub returns-in_err-push-clause-err : goal.returns-in_err-push-clause-err
returns-in_err-push-clause-err c =
    let put = twice c.as_slice-2.ensures.keys c.in_ok-extend_from_slice.ensures.items c.deref.ensures.value c.in_ok-extend_from_slice-2.ensures.items c.as_slice.ensures.keys
    c.in_ok-sort_names.ensures in
    on_err _ _ (lists_twice _ _ c.name_words.ensures.kept put c.in_ok-name_words.ensures.named c.self.invariant c.in_err-push.ensures.items c.self.view_is)

pub invariant_of-self-2 : goal.invariant_of-self-2
invariant_of-self-2 c =
    let put = twice c.as_slice-2.ensures.keys c.in_ok-extend_from_slice.ensures.items c.deref.ensures.value c.in_ok-extend_from_slice-2.ensures.items c.as_slice.ensures.keys
    c.in_ok-sort_names.ensures in
    AreLists-push _ _ c.name_words.ensures.kept put c.in_ok-name_words.ensures.named c.self.invariant _ c.in_ok-push.ensures.items (search rules) (search rules)

pub returns-clause-ok : goal.returns-clause-ok
returns-clause-ok c =
    let put = twice c.as_slice-2.ensures.keys c.in_ok-extend_from_slice.ensures.items c.deref.ensures.value c.in_ok-extend_from_slice-2.ensures.items c.as_slice.ensures.keys
    c.in_ok-sort_names.ensures in
    lists_pushed _ _ c.name_words.ensures.kept put c.in_ok-name_words.ensures.named c.self.invariant _ c.in_ok-push.ensures.items (search rules) (search rules) c.self.view_is
    c.in_ok-name_words.ensures.words
