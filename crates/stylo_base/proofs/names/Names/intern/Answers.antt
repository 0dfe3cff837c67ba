use Rattle.std.proofs.Common.{◌≡◌, ◌++◌, ◌∷◌, [], ◌<◌, ◌^◌, length, false, slice_get, sym, ap, ◌∙◌, subst, arith}
use Rattle.std.specs.Option.{is_some}
use Rattle.std.specs.Str.{chars}
use Rattle.stylo_base.specs.NameList.{is_among, StandOnce, AreKeyed}
use Rattle.base_model.proofs.Lists.{get_push_below, get_push_last}
use Rattle.stylo_base.proofs.NameLemmas.{seen, seen_push, count-seen, interned_new, AreKeyed-push, StandOnce-push}
use Rattle.stylo_base.proofs.names.Names.intern.Goals as goal

-- the text was not there
absent : (c : goal.In_ok-push) → is_among (chars c.args.text.now) c.args.self.now ≡ false
absent c = sym c.find.ensures.there ∙ ap is_some c.in_default.is

-- the list is longer by the text
longer : (c : goal.In_ok-push) → seen c.insert.new.self.keys ≡ c.args.self.now ++ chars c.args.text.now ∷ []
longer c =
    seen_push c.args.text.now c.utf8.text c.self.inside.texts.keys c.insert.new.self.keys c.in_ok-kept.kept c.args.self.now c.in_ok-kept.ensures.ok c.in_ok-insert.ensures.keys c.self.view_is (absent c)

-- the index is the old length
at_end : (c : goal.In_ok-push) → c.len-index.result ≡ length c.args.self.now
at_end c =
    count-seen c.self.inside.texts.keys c.args.self.now c.len-index.result c.len-index.ensures.len c.self.view_is

pub invariant_of-self-2 : goal.invariant_of-self-2
invariant_of-self-2 c =
    let few : length c.args.self.now < 2 ^ 32 = omega (arith, at_end c) in
    let kept = subst (λ ts. AreKeyed ts c.self.inside.keys.items) c.self.view_is c.self.invariant in
    let keys = rw (c.in_ok-reserve.ensures.items, c.key_of_text.ensures.bytes) at c.in_ok-push.ensures.items in
    AreKeyed-push c.args.text.now c.utf8.text c.args.self.now _ c.self.inside.keys.items _ (longer c) keys (absent c) few kept

pub returns-clause-index : goal.returns-clause-index
returns-clause-index c =
    ap (λ ts. slice_get ts c.len-index.result) (longer c)
    ∙ get_push_last c.args.self.now c.len-index.result (chars c.args.text.now) (at_end c)

pub returns-clause-list : goal.returns-clause-list
returns-clause-list c = interned_new (chars c.args.text.now) c.args.self.now _ (longer c) (absent c)

pub returns-clause-kept : goal.returns-clause-kept
returns-clause-kept c n h =
    ap (λ ts. slice_get ts n) (longer c) ∙ get_push_below c.args.self.now n (chars c.args.text.now) h

pub returns-clause-distinct : goal.returns-clause-distinct
returns-clause-distinct c =
    subst StandOnce (sym (longer c)) (StandOnce-push c.args.self.now (chars c.args.text.now) c.find.ensures.distinct (absent c))
