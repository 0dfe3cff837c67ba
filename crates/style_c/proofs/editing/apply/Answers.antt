use Rattle.std.proofs.Common.{Some, inl, inr, sym, subst}
use Rattle.style_c.specs.Told.{IsTold, outcome_told, quiet}
use Rattle.style_c.proofs.editing.apply.Goals as goal

pub returns-in-Ok : goal.returns-in-Ok
returns-in-Ok c = λ buffer.
    let st = c.args.session.now in
    let new = c.edit.new.self in
    inl
    (subst (λ o. IsTold (outcome_told st c.args.edit.now o) c.tell.result c.tell.new.why buffer 0 (Some new)) (sym c.in-Ok.ensures.accepted)
    (subst (λ s. IsTold (quiet 0 (Some s)) c.tell.result c.tell.new.why buffer 0 (Some new)) c.in-Ok.ensures.ok
    (c.tell.ensures (Some new) buffer)))

pub returns-in-Err-NoMemory : goal.returns-in-Err-NoMemory
returns-in-Err-NoMemory c = λ buffer.
    let st = c.args.session.now in
    let tell = c.tell-in-Err-NoMemory in
    inr
    (subst (λ s. IsTold (quiet 7 (Some st)) tell.result tell.new.why buffer 0 (Some s)) (sym c.in-Err-NoMemory.ensures.kept)
    (tell.ensures (Some st) buffer))
