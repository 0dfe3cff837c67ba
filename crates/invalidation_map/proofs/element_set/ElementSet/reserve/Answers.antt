use Rattle.std.proofs.Common.{◌≡◌, ◌+◌, ◌-◌, ◌++◌, false, List, Bool, ℕ, take, replicate, length, max, vec_len, sym, ap, subst, ◌∙◌, arith}
use Rattle.std.proofs.lemmas.List.{take_all}
use Rattle.invalidation_map.specs.Members.{AreFlags, Members}
use Rattle.invalidation_map.proofs.RoomLemmas.{flags_grown, front_stays, list_grown}
use Rattle.invalidation_map.proofs.SetLemmas.{members}
use Rattle.invalidation_map.proofs.element_set.ElementSet.reserve.Goals as goal

pub invariant_of-self-2 : goal.invariant_of-self-2
invariant_of-self-2 c =
    let self = c.self.inside in
    let flags : List Bool = self.flags.items in
    let list : List ℕ = self.list.items in
    let n = c.args.last + 1 in
    let more = n - vec_len self.flags in
    let front = take_all n flags (omega (arith, self.flags.ok.0, c.len-now.ensures, c.if-room-now.false)) in
    let a : c.resize.new.self.items ≡ flags ++ replicate more false = c.in_ok-resize.ensures.items ∙ ap (λ l. l ++ replicate more false) front in
    let b : c.resize-done.new.self.items ≡ list ++ replicate more 0 =
    list_grown list c.reserve.new.self.items c.resize-done.new.self.items (vec_len c.reserve.new.self) more n _ c.reserve.ensures.items c.resize-done.ensures.items
    (c.resize-done.ensures.succeeds (omega (arith, c.in_ok-reserve.ensures.ok, c.reserve.ensures.len, self.list.ok.0, self.flags.ok.0, c.len-now.ensures, c.if-room-now.false, c.self.invariant.room)))
    (omega (arith, self.flags.ok.0, c.len-now.ensures, c.if-room-now.false, c.self.invariant.room))
    (omega (arith, c.reserve.ensures.len, self.list.ok.0, self.flags.ok.0, c.self.invariant.room)) in
    subst (λ l. AreFlags c.resize.new.self.items l self.count) (sym b)
    (subst (λ f. AreFlags f (list ++ replicate more 0) self.count) (sym a) (flags_grown flags list self.count more c.self.invariant))

pub returns-then-room-now-clause-ok : goal.returns-then-room-now-clause-ok
returns-then-room-now-clause-ok c =
    let was : length c.self.inside.flags.items ≡ c.args.self.now.room = ap (λ (m : Members). m.room) c.self.view_is in
    let room : c.args.self.now.room ≡ max c.args.self.now.room (c.args.last + 1) = omega (arith, was, c.self.inside.flags.ok.0, c.len-now.ensures, c.if-room-now.true) in
    ap (members c.args.self.now.items) room

pub returns-clause-ok : goal.returns-clause-ok
returns-clause-ok c =
    let self = c.self.inside in
    let flags : List Bool = self.flags.items in
    let list : List ℕ = self.list.items in
    let n = c.args.last + 1 in
    let more = n - vec_len self.flags in
    let b : c.resize-done.new.self.items ≡ list ++ replicate more 0 =
    list_grown list c.reserve.new.self.items c.resize-done.new.self.items (vec_len c.reserve.new.self) more n _ c.reserve.ensures.items c.resize-done.ensures.items
    (c.resize-done.ensures.succeeds (omega (arith, c.in_ok-reserve.ensures.ok, c.reserve.ensures.len, self.list.ok.0, self.flags.ok.0, c.len-now.ensures, c.if-room-now.false, c.self.invariant.room)))
    (omega (arith, self.flags.ok.0, c.len-now.ensures, c.if-room-now.false, c.self.invariant.room))
    (omega (arith, c.reserve.ensures.len, self.list.ok.0, self.flags.ok.0, c.self.invariant.room)) in
    let items : take self.count c.resize-done.new.self.items ≡ c.args.self.now.items =
    ap (take self.count) b ∙ (front_stays flags list self.count more c.self.invariant ∙ ap (λ (m : Members). m.items) c.self.view_is) in
    let was : length flags ≡ c.args.self.now.room = ap (λ (m : Members). m.room) c.self.view_is in
    let room : length c.resize.new.self.items ≡ max c.args.self.now.room n =
    omega (arith, c.resize.new.self.ok.0, c.in_ok-resize.ensures.len, was, self.flags.ok.0, c.len-now.ensures, c.if-room-now.false) in
    ap (λ items. members items (length c.resize.new.self.items)) items ∙ ap (members c.args.self.now.items) room
