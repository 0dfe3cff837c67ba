-- A handle may go to another thread, as its session may.
use mir.Raw.{raw}
use base.Shift.{Keyless}
use denote.Memory.{lone}
use denote.RawPtr.{Ptr}
use denote.Struct.Struct.{exits_of}
use denote.Struct.Owning.{shape, fields, to}
use denote.Param.Send.{IsSend, AllSend, owning_send, struct_send, sendable}
use Rattle.core.specs.declared.option.Option.{Option}
use Rattle.core.specs.declared.option.Option.TheVariants.{None, Some}
use Rattle.std.proofs.Crossing as heap
use Rattle.std_alloc.proofs.SendSync.{quiet, lies}
use Rattle.style_session.proofs.Crossing.{session_send}
use Rattle.style_c.specs.Handle.{held, session_row}
use Rattle.style_c.specs.contracts.handle.Handle.{the_row, the_type}

held_keyless : (p : Ptr) (s : Option session_row.Denot) → Keyless (held p s)
held_keyless p None = tt
held_keyless p (Some x) = λ a. (lies session_row session_send p x, heap.frees.frees a (raw (lone session_row.mir)) p)

pub send : IsSend the_row
send =
    let all : AllSend (fields the_type) = (search sendable, tt) in
    owning_send the_type all (λ d. held_keyless d.at d.session)
    (λ k. quiet (to the_type) (exits_of k (fields the_type)) ((struct_send (shape the_type) all).leaving k))
