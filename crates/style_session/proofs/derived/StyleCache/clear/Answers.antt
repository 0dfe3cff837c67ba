use Rattle.style_session.proofs.derived.StyleCache.clear.Goals as goal

pub returns : goal.returns
returns c = λ sources prepared is. c.clear.ensures.fits sources c.args.self.now.size prepared is
