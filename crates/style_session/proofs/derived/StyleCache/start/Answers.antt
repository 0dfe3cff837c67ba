use Rattle.style_session.proofs.derived.StyleCache.start.Goals as goal

pub returns : goal.returns
returns c = λ sources prepared is. c.in_ok-start.ensures.fits sources c.clamp-2.result prepared is
