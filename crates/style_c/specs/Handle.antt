-- What a handle owns: at null nothing, and else the session's box.
use Rattle.std.specs.Prelude.{Option, None, Some}
use base.Stored.{Coded}
use base.Fml.{Fml, feq, fex}
use denote.RattleType.{RattleType}
use denote.RawPtr.{Ptr, null_ptr}
use Rattle.std.specs.Coded.{coded_option}
use Rattle.std.specs.Global.{Global}
use Rattle.std_heap.specs.contracts.GlobalAllocator.TheImpl.{ghosts}
use Rattle.std_alloc.specs.Box.Ownership.{box_owns}
use Rattle.style_session.specs.contracts.session.Session.{the_row}

-- what owning a session means
abbrev pub session_row : RattleType
session_row = the_row

abbrev pub boxed : Ptr → session_row.Denot → Global → Fml
boxed p x alloc = box_owns (ghosts.dealloc_token alloc) session_row p x

-- some allocator's handle: no spec can write one
abbrev pub held : Ptr → Option session_row.Denot → Fml
held p None = feq Ptr p null_ptr
held p (Some x) = fex Global (boxed p x)

abbrev pub session_code : Coded (Option session_row.Denot)
session_code = coded_option session_row.coded
