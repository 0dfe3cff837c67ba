use Rattle.style_session.proofs.derived.StyleCache.limit.Goals as goal

pub returns-then-len-gt-MOST_STYLES : goal.returns-then-len-gt-MOST_STYLES
returns-then-len-gt-MOST_STYLES c sources prepared fits =
    c.clear.ensures.fits sources c.args.self.now.size prepared fits.prepared_is
