-- What lies behind a box, and behind its pointer.
use Rattle.std.specs.Global.{Global}
use Rattle.std_alloc.specs.declared.boxed.Box.{Box}
use Rattle.session_model.specs.Standing.{Standing}
use Rattle.style_c.specs.declared.loose.Loose.{Loose}

abbrev pub box_value : Box Standing Global → Standing
box_value b = b.value

abbrev pub loose_value : Loose Standing Global → Standing
loose_value l = l.value
