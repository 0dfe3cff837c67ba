use Rattle.std.proofs.Common.{sym, ap, subst}
use Rattle.selector_model.specs.Key.{Key}
use Rattle.selector_types.specs.SimpleView.{key_seen}
use Rattle.invalidation_map.specs.declared.key_sets.KeySets.{KeySets}
use Rattle.invalidation_map.specs.KeySets.{AddsKey}
use Rattle.invalidation_map.proofs.KeySetLemmas.{id_added, class_added, type_added}
use Rattle.invalidation_map.proofs.key_sets.KeySets.add.Goals as goal

pub returns-in_ok-add_name-in-Id : goal.returns-in_ok-add_name-in-Id
returns-in_ok-add_name-in-Id c =
    let old = c.args.self.now in
    let new : KeySets = record { ids = c.add_name.new.names; classes = old.classes; types = old.types; any = old.any } in
    subst (λ (key : Key). AddsKey key old new) (sym (ap key_seen c.in-Id.is)) (id_added old c.in-Id.id c.add_name.new.names c.in_ok-add_name-in-Id.ensures)

pub returns-in_ok-add_name-in-Class : goal.returns-in_ok-add_name-in-Class
returns-in_ok-add_name-in-Class c =
    let old = c.args.self.now in
    let new : KeySets = record { ids = old.ids; classes = c.add_name-in-Class.new.names; types = old.types; any = old.any } in
    subst (λ (key : Key). AddsKey key old new) (sym (ap key_seen c.in-Class.is)) (class_added old c.in-Class.class c.add_name-in-Class.new.names c.in_ok-add_name-in-Class.ensures)

pub returns-in_ok-add_name-in-Type : goal.returns-in_ok-add_name-in-Type
returns-in_ok-add_name-in-Type c =
    let old = c.args.self.now in
    let new : KeySets = record { ids = old.ids; classes = old.classes; types = c.add_name-in-Type.new.names; any = old.any } in
    subst (λ (key : Key). AddsKey key old new) (sym (ap key_seen c.in-Type.is)) (type_added old c.in-Type.tag c.add_name-in-Type.new.names c.in_ok-add_name-in-Type.ensures)
