use Rattle.std.proofs.Common.{◌+◌, length, sym, ap, ◌∙◌, arith}
use Rattle.std.specs.List.{count_by}
use Rattle.std.specs.Option.{option_copied}
use Rattle.sheet_set.specs.View.{sources_seen}
use Rattle.style_session.specs.Answers.{counts_of}
use Rattle.style_session.specs.declared.styled.Styled.{Styled}
use Rattle.style_session.proofs.SessionRestyles.{first-counts, first-seen, idle-counts, idle-seen, later-counts, later-seen, others-now, reached-now, ready-known}
use Rattle.style_session.proofs.SessionRestyles.{restyled-now, session-cleared, session-first, session-idle, session-known, session-later, styled-within}
use Rattle.style_session.proofs.session.Session.restyle_alone.Goals as goal

-- with nothing marked or fresh

pub invariant_of-self : goal.invariant_of-self
invariant_of-self g c =
    let content = c.self.inside.content in
    let pending = c.self.inside.pending in
    let kept = c.self.inside.kept in
    let derived = c.self.inside.derived in
    let settled = sym c.is_settled.ensures ∙ c.if-is_settled.true in
    session-cleared content pending kept derived c.self.invariant pending.room c.clear_gone.new.self c.clear_gone.ensures c.drop_gone.new.self derived
    (session-idle content pending kept derived c.self.invariant settled pending.room c.gone.result.now c.commit_none.new.self c.drop_gone.new.self c.gone.ensures
    c.commit_none.ensures c.drop_gone.ensures)

pub returns-then-is_settled-clause-ok : goal.returns-then-is_settled-clause-ok
returns-then-is_settled-clause-ok g c =
    let content = c.self.inside.content in
    let pending = c.self.inside.pending in
    let kept = c.self.inside.kept in
    let derived = c.self.inside.derived in
    let settled = sym c.is_settled.ensures ∙ c.if-is_settled.true in
    restyled-now content pending kept derived c.self.invariant pending.room c.clear_gone.new.self c.clear_gone.ensures c.drop_gone.new.self
    (idle-seen content pending kept derived c.self.invariant settled pending.room c.gone.result.now c.commit_none.new.self c.drop_gone.new.self c.gone.ensures
    c.commit_none.ensures c.drop_gone.ensures)
    c.args.self.now c.self.view_is

pub returns-then-is_settled-clause-counts : goal.returns-then-is_settled-clause-counts
returns-then-is_settled-clause-counts g c =
    let content = c.self.inside.content in
    let pending = c.self.inside.pending in
    let kept = c.self.inside.kept in
    let derived = c.self.inside.derived in
    let settled = sym c.is_settled.ensures ∙ c.if-is_settled.true in
    c.of_none.ensures ∙ (idle-counts content pending kept derived c.self.invariant settled ∙ ap counts_of c.self.view_is)

pub returns-then-is_settled-clause-others : goal.returns-then-is_settled-clause-others
returns-then-is_settled-clause-others g c =
    let content = c.self.inside.content in
    let pending = c.self.inside.pending in
    let kept = c.self.inside.kept in
    let derived = c.self.inside.derived in
    let settled = sym c.is_settled.ensures ∙ c.if-is_settled.true in
    others-now content pending kept derived c.self.invariant pending.room c.clear_gone.new.self c.clear_gone.ensures c.drop_gone.new.self
    (idle-seen content pending kept derived c.self.invariant settled pending.room c.gone.result.now c.commit_none.new.self c.drop_gone.new.self c.gone.ensures
    c.commit_none.ensures c.drop_gone.ensures)
    c.args.self.now c.self.view_is

pub returns-then-is_settled-clause-reached : goal.returns-then-is_settled-clause-reached
returns-then-is_settled-clause-reached g c =
    let content = c.self.inside.content in
    let pending = c.self.inside.pending in
    let kept = c.self.inside.kept in
    let derived = c.self.inside.derived in
    let settled = sym c.is_settled.ensures ∙ c.if-is_settled.true in
    reached-now content pending kept derived c.self.invariant pending.room c.clear_gone.new.self c.clear_gone.ensures c.drop_gone.new.self
    (idle-seen content pending kept derived c.self.invariant settled pending.room c.gone.result.now c.commit_none.new.self c.drop_gone.new.self c.gone.ensures
    c.commit_none.ensures c.drop_gone.ensures)
    c.args.self.now c.self.view_is

-- the first one

pub invariant_of-self-then-is_all_fresh : goal.invariant_of-self-then-is_all_fresh
invariant_of-self-then-is_all_fresh g c =
    let content = c.self.inside.content in
    let pending = c.self.inside.pending in
    let kept = c.self.inside.kept in
    let derived = c.self.inside.derived in
    let made = c.in_ok-self-inside.field-0 in
    let all = sym c.is_all_fresh.ensures ∙ c.if-is_all_fresh.true in
    let there = sym c.as_ref.ensures.value ∙ ap option_copied c.unwrap.ensures in
    let cache = c.restyle_first.new.cache in
    let known = record c.prepare.new.self { cache = cache } in
    session-cleared content pending kept derived c.self.invariant pending.room c.clear.new.self c.clear.ensures made known
    (session-first content pending kept derived c.self.invariant all made c.in_ok-self-inside.ensures.styles pending.room known
    (ready-known (sources_seen content.sheets) c.prepare.new.self c.unwrap.result.now cache there c.prepare.ensures.ready c.restyle_first.ensures.fits))

pub returns-then-is_all_fresh-clause-ok : goal.returns-then-is_all_fresh-clause-ok
returns-then-is_all_fresh-clause-ok g c =
    let content = c.self.inside.content in
    let pending = c.self.inside.pending in
    let kept = c.self.inside.kept in
    let derived = c.self.inside.derived in
    let made = c.in_ok-self-inside.field-0 in
    let all = sym c.is_all_fresh.ensures ∙ c.if-is_all_fresh.true in
    restyled-now content pending kept derived c.self.invariant pending.room c.clear.new.self c.clear.ensures made
    (first-seen content pending kept derived c.self.invariant all made c.in_ok-self-inside.ensures.styles pending.room) c.args.self.now c.self.view_is

pub returns-then-is_all_fresh-clause-counts : goal.returns-then-is_all_fresh-clause-counts
returns-then-is_all_fresh-clause-counts g c =
    let content = c.self.inside.content in
    let pending = c.self.inside.pending in
    let kept = c.self.inside.kept in
    let derived = c.self.inside.derived in
    let made = c.in_ok-self-inside.field-0 in
    let all = sym c.is_all_fresh.ensures ∙ c.if-is_all_fresh.true in
    c.of_all.ensures
    ∙ (first-counts content pending kept derived c.self.invariant all made c.in_ok-self-inside.ensures.styles (length c.recent.result.now) (ap length c.recent.ensures)
    ∙ ap counts_of c.self.view_is)

pub returns-then-is_all_fresh-clause-others : goal.returns-then-is_all_fresh-clause-others
returns-then-is_all_fresh-clause-others g c =
    let content = c.self.inside.content in
    let pending = c.self.inside.pending in
    let kept = c.self.inside.kept in
    let derived = c.self.inside.derived in
    let made = c.in_ok-self-inside.field-0 in
    let all = sym c.is_all_fresh.ensures ∙ c.if-is_all_fresh.true in
    others-now content pending kept derived c.self.invariant pending.room c.clear.new.self c.clear.ensures made
    (first-seen content pending kept derived c.self.invariant all made c.in_ok-self-inside.ensures.styles pending.room) c.args.self.now c.self.view_is

pub returns-then-is_all_fresh-clause-reached : goal.returns-then-is_all_fresh-clause-reached
returns-then-is_all_fresh-clause-reached g c =
    let content = c.self.inside.content in
    let pending = c.self.inside.pending in
    let kept = c.self.inside.kept in
    let derived = c.self.inside.derived in
    let made = c.in_ok-self-inside.field-0 in
    let all = sym c.is_all_fresh.ensures ∙ c.if-is_all_fresh.true in
    reached-now content pending kept derived c.self.invariant pending.room c.clear.new.self c.clear.ensures made
    (first-seen content pending kept derived c.self.invariant all made c.in_ok-self-inside.ensures.styles pending.room) c.args.self.now c.self.view_is

-- and a later one

pub invariant_of-self-in_err-reserve : goal.invariant_of-self-in_err-reserve
invariant_of-self-in_err-reserve g c =
    let content = c.self.inside.content in
    let pending = c.self.inside.pending in
    let kept = c.self.inside.kept in
    let derived = c.self.inside.derived in
    let there = sym c.as_ref.ensures.value ∙ ap option_copied c.unwrap.ensures in
    let cache = c.restyle.new.cache in
    session-known content pending kept derived c.self.invariant c.reserve.new.self (record c.prepare.new.self { cache = cache }) c.in_err-reserve.ensures.kept
    (ready-known (sources_seen content.sheets) c.prepare.new.self c.unwrap.result.now cache there c.prepare.ensures.ready c.restyle.ensures.fits)

pub commit-requires : goal.commit-requires
commit-requires g c =
    let content = c.self.inside.content in
    let pending = c.self.inside.pending in
    let kept = c.self.inside.kept in
    let derived = c.self.inside.derived in
    styled-within content pending kept derived c.self.invariant c.in_ok-news.news.styled.items c.in_ok-news.ensures.styled (length c.reserve.new.self.styles)
    (λ x there. let near = c.last.ensures.numbered x there in omega (arith, near, c.in_ok-reserve.ensures.ok.enough))

pub invariant_of-self-2 : goal.invariant_of-self-2
invariant_of-self-2 g c =
    let content = c.self.inside.content in
    let pending = c.self.inside.pending in
    let kept = c.self.inside.kept in
    let derived = c.self.inside.derived in
    let there = sym c.as_ref.ensures.value ∙ ap option_copied c.unwrap.ensures in
    let cache = c.restyle.new.cache in
    let known = record c.prepare.new.self { cache = cache } in
    session-cleared content pending kept derived c.self.invariant pending.room c.clear-2.new.self c.clear-2.ensures c.drop_gone-2.new.self known
    (session-later content pending kept derived c.self.invariant c.in_ok-news.news.styled.items c.in_ok-news.ensures.styled (c.last.result + 1) pending.room c.gone-2.result.now
    c.reserve.new.self c.commit.new.self c.drop_gone-2.new.self c.gone-2.ensures c.in_ok-reserve.ensures.ok c.commit.ensures c.drop_gone-2.ensures known
    (ready-known (sources_seen content.sheets) c.prepare.new.self c.unwrap.result.now cache there c.prepare.ensures.ready c.restyle.ensures.fits))

pub returns-clause-ok : goal.returns-clause-ok
returns-clause-ok g c =
    let content = c.self.inside.content in
    let pending = c.self.inside.pending in
    let kept = c.self.inside.kept in
    let derived = c.self.inside.derived in
    restyled-now content pending kept derived c.self.invariant pending.room c.clear-2.new.self c.clear-2.ensures c.drop_gone-2.new.self
    (later-seen content pending kept derived c.self.invariant c.in_ok-news.news.styled.items c.in_ok-news.ensures.styled (c.last.result + 1) pending.room c.gone-2.result.now
    c.reserve.new.self c.commit.new.self c.drop_gone-2.new.self c.gone-2.ensures c.in_ok-reserve.ensures.ok c.commit.ensures c.drop_gone-2.ensures)
    c.args.self.now c.self.view_is

pub returns-clause-counts : goal.returns-clause-counts
returns-clause-counts g c =
    let content = c.self.inside.content in
    let pending = c.self.inside.pending in
    let kept = c.self.inside.kept in
    let derived = c.self.inside.derived in
    let all = c.deref.ensures.value in
    c.of-counts.ensures
    ∙ ((λ i. record { matched = count_by (λ (one : Styled). one.matched) (all i); cascaded = length (all i) })
    ∙ (later-counts content pending kept derived c.self.invariant c.in_ok-news.news.styled.items c.in_ok-news.ensures.styled ∙ ap counts_of c.self.view_is))

pub returns-clause-others : goal.returns-clause-others
returns-clause-others g c =
    let content = c.self.inside.content in
    let pending = c.self.inside.pending in
    let kept = c.self.inside.kept in
    let derived = c.self.inside.derived in
    others-now content pending kept derived c.self.invariant pending.room c.clear-2.new.self c.clear-2.ensures c.drop_gone-2.new.self
    (later-seen content pending kept derived c.self.invariant c.in_ok-news.news.styled.items c.in_ok-news.ensures.styled (c.last.result + 1) pending.room c.gone-2.result.now
    c.reserve.new.self c.commit.new.self c.drop_gone-2.new.self c.gone-2.ensures c.in_ok-reserve.ensures.ok c.commit.ensures c.drop_gone-2.ensures)
    c.args.self.now c.self.view_is

pub returns-clause-reached : goal.returns-clause-reached
returns-clause-reached g c =
    let content = c.self.inside.content in
    let pending = c.self.inside.pending in
    let kept = c.self.inside.kept in
    let derived = c.self.inside.derived in
    reached-now content pending kept derived c.self.invariant pending.room c.clear-2.new.self c.clear-2.ensures c.drop_gone-2.new.self
    (later-seen content pending kept derived c.self.invariant c.in_ok-news.news.styled.items c.in_ok-news.ensures.styled (c.last.result + 1) pending.room c.gone-2.result.now
    c.reserve.new.self c.commit.new.self c.drop_gone-2.new.self c.gone-2.ensures c.in_ok-reserve.ensures.ok c.commit.ensures c.drop_gone-2.ensures)
    c.args.self.now c.self.view_is
