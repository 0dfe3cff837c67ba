use Rattle.std.proofs.Common.{◌≡◌, Bool, true, false, not, sym, ap, ◌∙◌}
use Rattle.css_tokens.proofs.MapLemmas.{none_where_empty, empty_where_none}
use Rattle.css_tokens.proofs.custom.map.CustomMap.is_empty.Goals as goal

unset : (a b : Bool) → a ≡ not b → b ≡ true → a ≡ false
unset a b e h = e ∙ ap not h

filled : (a b : Bool) → a ≡ not b → a ≡ false → b ≡ true
filled true true e h = cc
filled true false e h = cc
filled false true e h = cc
filled false false e h = cc

pub returns : goal.returns
returns c = (
  λ h. sym c.self.view_is ∙ empty_where_none _ (unset _ _ c.is_none.ensures h),
  λ e. filled _ _ c.is_none.ensures (none_where_empty _ c.self.invariant (c.self.view_is ∙ e)),
)
