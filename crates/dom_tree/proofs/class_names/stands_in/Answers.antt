use Rattle.std.proofs.Common.{sym, ◌∙◌}
use Rattle.dom_tree.proofs.ClassLemmas.{name_among, none_among}
use Rattle.dom_tree.proofs.class_names.stands_in.Goals as goal

pub returns-in-Some : goal.returns-in-Some
returns-in-Some c =
    c.is_ok.ensures.value
    ∙ name_among _ _ _ _ c.find.ensures.distinct c.in-Some.ensures.found c.requires.named c.binary_search.ensures.position c.requires.rising

pub returns-in-None : goal.returns-in-None
returns-in-None c = sym (none_among _ _ (sym c.in-None.ensures.there) _ c.requires.named)
