use Rattle.std.proofs.Common.{[], refl, sym, ap, ◌∙◌, option_map}
use Rattle.std.specs.Prelude.{None}
use Rattle.style_c.specs.Boxes.{box_value}
use Rattle.style_c.specs.Told.{state_told}
use Rattle.style_c.proofs.ToldLemmas.{gives_none}
use Rattle.style_c.proofs.editing.bokdrez_state.Goals as goal

pub returns-in_default : goal.returns-in_default
returns-in_default c =
    gives_none (state_told c.args.node c.args.which c.args.on) _ _ _ _ [] 0 refl (sym (ap (option_map box_value) c.in_default.is) ∙ c.take.ensures.taken) c.take.ensures.empty (c.tell.ensures None [])
