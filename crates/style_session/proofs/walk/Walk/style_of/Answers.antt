use Rattle.std.proofs.Common.{Some, refl, sym, ap, ◌∙◌}
use Rattle.session_model.specs.Standing.{style_in}
use Rattle.style_session.specs.KeptView.{style_at}
use Rattle.style_session.specs.Lent.{lent}
use Rattle.style_session.proofs.WalkLemmas.{has_met-learns, walk-grown, walk-learns}
use Rattle.style_session.proofs.WalkLentLemmas.{kept-found, kept-is, lent-kept, serves-more}
use Rattle.style_session.proofs.walk.Walk.style_of.Goals as goal

pub returns-in-Some-clause-ok : goal.returns-in-Some-clause-ok
returns-in-Some-clause-ok c = record {
  at = c.requires.walk.known c.args.number c.in-Some.style (sym c.known_of.ensures ∙ c.in-Some.is);
  walk = c.requires.walk;
  met = λ front has. has;
}

pub unwrap-kept-requires : goal.unwrap-kept-requires
unwrap-kept-requires c =
    let lists = c.args.lists.now in
    let x = c.args.number in
    kept-found c.style.result (style_at lists.kept.now x) (style_in (lent lists).scene x) c.style.ensures
    (sym (lent-kept lists x c.requires.met.there) ∙ c.requires.met.style (sym c.known_of.ensures ∙ c.in_default.is))

pub returns-in_err-style-clause-serves : goal.returns-in_err-style-clause-serves
returns-in_err-style-clause-serves c =
    serves-more c.args.lists.now.inputs.now c.args.cache.now (record c.args.cache.now { styler = c.adopt.new.self })
    (λ sources prepared fits. c.in_err-style.ensures.fits sources c.args.cache.now.size prepared fits) c.in_err-style.ensures.above c.requires.serves

pub returns-in_err-learn-clause-serves : goal.returns-in_err-learn-clause-serves
returns-in_err-learn-clause-serves c =
    serves-more c.args.lists.now.inputs.now c.args.cache.now (record c.args.cache.now { styler = c.adopt.new.self })
    (λ sources prepared fits. c.in_ok-style.ensures.fits sources c.args.cache.now.size prepared fits) c.in_ok-style.ensures.above c.requires.serves

pub returns-clause-ok : goal.returns-clause-ok
returns-clause-ok c =
    let lists = c.args.lists.now in
    let x = c.args.number in
    let st = lent lists in
    let cache = record c.args.cache.now { styler = c.adopt.new.self } in
    let kept = c.requires.met.style (sym c.known_of.ensures ∙ c.in_default.is) in
    let at = c.in_ok-style.ensures.style
    ∙ ap Some (kept-is c.style.result c.unwrap-kept.result (style_at lists.kept.now x) (style_in st.scene x) c.unwrap-kept.ensures c.style.ensures
    (sym (lent-kept lists x c.requires.met.there) ∙ kept)) in
    record {
      at = at;
      walk = walk-learns st cache x c.in_ok-style.style c.args.self.now c.learn.new.self
          (walk-grown st c.args.cache.now cache c.args.self.now c.in_ok-style.ensures.kept refl c.requires.walk)
          c.in_ok-learn.ensures at;
      met = λ front has. has_met-learns st front x c.in_ok-style.style c.args.self.now c.learn.new.self c.in_ok-learn.ensures has;
    }

pub returns-clause-serves : goal.returns-clause-serves
returns-clause-serves c =
    serves-more c.args.lists.now.inputs.now c.args.cache.now (record c.args.cache.now { styler = c.adopt.new.self })
    (λ sources prepared fits. c.in_ok-style.ensures.fits sources c.args.cache.now.size prepared fits) c.in_ok-style.ensures.above c.requires.serves
