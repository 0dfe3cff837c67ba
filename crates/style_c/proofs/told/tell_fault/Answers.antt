use Rattle.std.proofs.Common.{◌≡◌, ◌≤◌, [], length, refl, sym, ap, ◌∙◌, subst, take}
use Rattle.std.specs.Prelude.{encode_utf8_all}
use Rattle.style_c.specs.Told.{IsTold, fault_told}
use Rattle.style_c.proofs.told.tell_fault.Goals as goal

pub returns-in-NotJson : goal.returns-in-NotJson
returns-in-NotJson c = λ session.
    subst (λ fault. IsTold (fault_told fault session) c.tell.result c.tell.new.why c.args.path.now 0 session) (sym c.in-NotJson.is)
    (c.tell.ensures session c.args.path.now)

pub returns-in-Shape : goal.returns-in-Shape
returns-in-Shape c = λ session.
    let bytes = c.as_bytes.ensures.value ∙ c.as_str.ensures.bytes in
    let tell = c.tell-in-Shape in
    let told = tell.ensures session [] in
    let buffer = c.copy_out.new.buffer in
    subst (λ fault. IsTold (fault_told fault session) tell.result tell.new.why buffer c.copy_out.new.needed session) (sym c.in-Shape.is)
    (record {
      same_status = told.same_status;
      same_why = told.same_why;
      all_needed = c.copy_out.ensures.needed ∙ ap length bytes;
      copied = λ fits.
          subst (λ b. take (length b) buffer ≡ b) bytes
          (c.copy_out.ensures.bytes
          (subst (λ b. length b ≤ length c.args.path.now) (sym bytes)
          (subst (λ n. length (encode_utf8_all c.in-Shape.place) ≤ n) c.copy_out.ensures.room fits)));
      same_session = refl;
    })

pub returns-in-NoMemory : goal.returns-in-NoMemory
returns-in-NoMemory c = λ session.
    let tell = c.tell-in-NoMemory in
    subst (λ fault. IsTold (fault_told fault session) tell.result tell.new.why c.args.path.now 0 session) (sym c.in-NoMemory.is)
    (tell.ensures session c.args.path.now)
