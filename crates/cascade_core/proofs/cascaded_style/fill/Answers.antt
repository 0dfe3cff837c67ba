use Rattle.std.proofs.Common.{sym}
use Rattle.cascade_core.proofs.cascaded_style.fill.Goals as goal

pub returns-in_default : goal.returns-in_default
returns-in_default c =
    let kept = rw c.in_default.is at c.in_ok-custom.ensures in
    record {
      style = rw (← kept) (rw (c.map-inherited.ensures, c.custom.ensures) at c.in_ok-takes.ensures.style);
      takes = rw (← kept) (rw (c.map-inherited.ensures, c.custom.ensures) at c.in_ok-takes.ensures.takes);
      custom = λ _. sym kept;
    }

pub returns : goal.returns
returns c =
    let changed = rw c.in-Some.is at c.in_ok-custom.ensures in
    record {
      style = rw (c.set_custom.ensures, c.in_ok-takes-2.ensures.style, c.map.ensures, changed);
      takes = rw (c.in_ok-takes-2.ensures.takes, c.map.ensures, changed);
      custom = λ keeps. cc keeps;
    }
