use Rattle.std.proofs.Common.{◌≡◌, ◌++◌, ◌∷◌, [], false, codes, map, option_map, ap, sym, ◌∙◌}
use Rattle.std.specs.Prelude.{Vec}
use Rattle.std.specs.Str.{chars}
use Rattle.std.specs.declared.alloc.Global.{Global}
use Rattle.std.proofs.lemmas.Slice.Eq.{bytes_eq-Decides}
use Rattle.scene_model.specs.Lookups.{attribute_of}
use Rattle.edit_model.specs.Touched.{attribute, class, id, same_optional}
use Rattle.edit_model.specs.TouchedPairs.{classes_between, ids_among}
use Rattle.dom_edits.specs.TouchView.{touch_seen}
use Rattle.dom_edits.specs.declared.touch.Touch.{Touch}
use Rattle.dom_edits.proofs.NameLemmas.{is_class_name, is_id_name, touches_class, touches_id, touches_other, value_touched}
use Rattle.dom_edits.proofs.TouchLemmas.{pushed_touch}
use Rattle.dom_edits.proofs.value_touches.value_touches.Goals as goal
use Rattle.dom_edits.proofs.value_touches.value_touches.Goals.{then-eq+in_ok-push_ids, else-eq+then-eq-2+in_ok-push_classes, else-eq+else-eq-2}

pub returns : goal.returns
returns c =
    let name = chars c.args.name.now in
    let doc = c.args.doc.now.elements in
    let before = attribute_of doc c.args.x name in
    let now = option_map (λ text. chars text.now) c.args.now in
    let attr = c.attribute-before.ensures in
    let differs : same_optional before now ≡ false = ap (λ o. same_optional o now) (sym attr) ∙ (sym c.is_same_value.ensures ∙ c.if-is_same_value.false) in
    let start = pushed_touch c.in_ok-touches.touches.items _ _ (attribute name) c.in_ok-push.ensures.items (ap attribute c.in_ok-of.ensures) ∙ ap (λ l. map touch_seen l ++ attribute name ∷ []) c.in_ok-touches.ensures.items in
    value_touched name before now _ differs
    (elim c.if-eq.branch [
      | then-eq+in_ok-push_ids w ↦
          let is_id = is_id_name _ _ _ c.utf8.name c.eq.ensures w.if-eq.true in
          ap (λ (v : Vec Touch Global). map touch_seen v.items) w.touches-is
          ∙ (w.in_ok-push_ids.ensures
          ∙ ((λ i. start i ++ map id (ids_among (attr i) now)) ∙ ap (λ l. attribute name ∷ l) (sym (touches_id name before now is_id))))
      | else-eq+then-eq-2+in_ok-push_classes w ↦
          let is_class = is_class_name _ _ _ c.utf8.name w.eq-else-eq.ensures w.if-eq-2.true in
          let named : codes "class" ≡ name = (bytes_eq-Decides (codes "class") name).0 is_class in
          ap (λ (v : Vec Touch Global). map touch_seen v.items) w.touches-is
          ∙ (w.in_ok-push_classes.ensures
          ∙ ((λ i. start i ++ map class (classes_between (attribute_of doc c.args.x (named i)) now)) ∙ ap (λ l. attribute name ∷ l) (sym (touches_class name before now (is_id_name _ _ _ c.utf8.name c.eq.ensures w.if-eq.false) is_class))))
      | else-eq+else-eq-2 w ↦
          ap (λ (v : Vec Touch Global). map touch_seen v.items) w.touches-is
          ∙ (start ∙ ap (λ l. attribute name ∷ l) (sym (touches_other name before now (is_id_name _ _ _ c.utf8.name c.eq.ensures w.if-eq.false) (is_class_name _ _ _ c.utf8.name w.eq-else-eq.ensures w.if-eq-2.false))))
    ])
