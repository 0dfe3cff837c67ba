use Rattle.std.proofs.Common.{codes, option_map}
use Rattle.std.specs.Str.{chars}
use Rattle.scene_model.specs.Lookups.{attribute_of}
use Rattle.dom_edits.proofs.ClassLemmas.{pushed_classes}
use Rattle.dom_edits.proofs.ClassNameLemmas.{classes-are}
use Rattle.dom_edits.proofs.value_touches.push_classes.Goals as goal

pub returns : goal.returns
returns c =
    let doc = c.args.doc.now.elements in
    pushed_classes _ _ _ (attribute_of doc c.args.x (codes "class")) (option_map (λ text. chars text.now) c.args.now) _ _ (classes-are doc c.args.x c.names-names.result _ c.names-names.ensures c.in_ok-before.ensures.words) c.in_ok-now.ensures.words c.in_ok-push_missing.ensures c.in_ok-push_missing-2.ensures
