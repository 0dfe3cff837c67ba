use Rattle.std.proofs.Common.{refl}
use Rattle.style_session.proofs.derived.StyleCache.fit.Goals as goal

pub returns : goal.returns
returns c = record { size = refl; fits = λ sources prepared fits. c.clear.ensures.fits sources c.args.size prepared fits.prepared_is; above = c.clear.ensures.above }
