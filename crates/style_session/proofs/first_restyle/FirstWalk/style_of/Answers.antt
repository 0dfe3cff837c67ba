use Rattle.std.proofs.Common.{◌≡◌, IfOk, Some, slice_get, refl, ap, subst, ◌∙◌}
use Rattle.value_model.specs.Style.{Style}
use Rattle.style_session.specs.KeptView.{slot_at}
use Rattle.style_session.proofs.WalkLentLemmas.{kept-is, kept-there}
use Rattle.style_session.proofs.first_restyle.FirstWalk.style_of.Goals as goal

pub unwrap-kept-requires : goal.unwrap-kept-requires
unwrap-kept-requires c =
    kept-there c.style_at.result (slot_at c.args.self.now.kept.items c.args.number) (c.style_at.ensures ∙ ap (λ l. slot_at l c.args.number) c.deref.ensures.value) c.requires.kept

pub returns-clause-style : goal.returns-clause-style
returns-clause-style c own is right =
    subst (λ (s : Style). IfOk c.adopt.result (λ style. slice_get c.adopt.new.self.table style ≡ Some s))
    (kept-is c.style_at.result c.unwrap-kept.result (slot_at c.args.self.now.kept.items c.args.number) own c.unwrap-kept.ensures
    (c.style_at.ensures ∙ ap (λ l. slot_at l c.args.number) c.deref.ensures.value) is)
    c.adopt.ensures.style

pub returns-clause-more : goal.returns-clause-more
returns-clause-more c = record {
  table = c.adopt.ensures.kept;
  size = refl;
  fits = λ sources prepared fits. c.adopt.ensures.fits sources c.args.cache.now.size prepared fits;
  above = c.adopt.ensures.above;
}
