use Rattle.std.proofs.Common.{[], ◌++◌, reverse, ap, ◌∙◌}
use Rattle.scene_model.specs.Ancestors.{ancestors}
use Rattle.ancestor_filter.proofs.ReachLemmas.{descended, elements_turned, none_counted, none_left, right_nothing}
use Rattle.ancestor_filter.proofs.ancestors.Ancestors.descend.Goals as goal

pub push_each-requires : goal.push_each-requires
push_each-requires c =
    let doc = c.args.doc.now.elements in
    let was = c.self.inside in
    let none = none_left was.path.items was.filter 0 (c.self.view_is ∙ c.clear.ensures.nothing) in
    let found = c.in-Ok.ensures.ok ∙ ap (λ l. l ++ ancestors doc c.args.x) none in
    elements_turned doc c.climb.ensures.valid c.args.x c.deref.result.now (c.deref.ensures.value ∙ (c.turn.ensures ∙ ap reverse found))

pub returns-in-Ok-clause-right : goal.returns-in-Ok-clause-right
returns-in-Ok-clause-right c =
    let doc = c.args.doc.now.elements in
    let was = c.self.inside in
    let nothing = c.self.view_is ∙ c.clear.ensures.nothing in
    let found = c.in-Ok.ensures.ok ∙ ap (λ l. l ++ ancestors doc c.args.x) (none_left was.path.items was.filter 0 nothing) in
    let stands = c.push_each.ensures [] (none_counted was.path.items was.filter nothing) in
    descended doc c.climb.ensures.valid c.args.x c.turn.new.list.items c.deref.result.now c.push_each.new.filter
    (c.turn.ensures ∙ ap reverse found) c.deref.ensures.value stands

pub returns-in-Err-clause-right : goal.returns-in-Err-clause-right
returns-in-Err-clause-right c =
    let was = c.self.inside in
    let nothing = none_counted was.path.items was.filter (c.self.view_is ∙ c.clear.ensures.nothing) in
    right_nothing c.args.doc.now.elements c.clear-in-Err.new.self.items was.filter c.clear-in-Err.ensures.items nothing
