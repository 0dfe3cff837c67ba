use Rattle.css_tokens.proofs.NormalLemmas.{fits_next}
use Rattle.css_tokens.proofs.custom.value.are_spaced.Goals as goal

pub returns-then-not-fits : goal.returns-then-not-fits
returns-then-not-fits c = (
  λ t. cc,
  λ e.
      let fits = c.fits.ensures.1 (fits_next c.args.tokens.now c.loop-token.token-index c.token-item.result c.loop-token-test.true c.token-item.is c.loop-token.pending (c.loop-token.invariant.1 e)) in
      cc,
)
