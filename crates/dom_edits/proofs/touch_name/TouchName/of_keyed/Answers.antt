use Rattle.std.proofs.Common.{◌≡◌, ◌∙◌, true, false, refl, sym, ap, arith}
use Rattle.std.proofs.lemmas.Bool.{le-leb, lt-leb}
use Rattle.std.specs.Str.{chars}
use Rattle.stylo_base.specs.NameKey.{key_of}
use Rattle.stylo_base.proofs.TextLemmas.{bytes_from_chars}
use Rattle.dom_edits.specs.TouchNames.{long_of}
use Rattle.dom_edits.proofs.TouchNameLemmas.{are_named, kept_long, told_text}
use Rattle.dom_edits.proofs.touch_name.TouchName.of_keyed.Goals as goal
use Rattle.dom_edits.proofs.touch_name.TouchName.of_keyed.Goals.{then-text-le-SHORT, else-text-le-SHORT+in_ok-long}

long_is : (c : goal.Joined-text-le-SHORT) → c.if-text-le-SHORT.long ≡ long_of (chars c.args.text.now)
long_is c = elim c.if-text-le-SHORT.branch [
  | then-text-le-SHORT w ↦ kept_long _ true _ c.utf8.text (le-leb _ _ w.if-text-le-SHORT.true) (w.long-is ∙ w.new-long.ensures)
  | else-text-le-SHORT+in_ok-long w ↦ kept_long _ false _ c.utf8.text (lt-leb _ _ w.if-text-le-SHORT.false) (w.long-is ∙ w.in_ok-long.ensures.ok)
]

pub invariant_of-result : goal.invariant_of-result
invariant_of-result c = are_named c.args.text.now _ _ _ c.utf8.text (λ i. omega (arith, c.type_inv.text i)) (c.requires ∙ ap key_of (sym (bytes_from_chars _ _ c.utf8.text refl))) c.short_of-short.ensures (long_is c)

pub returns : goal.returns
returns c = told_text c.args.text.now _ _ c.utf8.text (λ i. omega (arith, c.type_inv.text i)) c.short_of-short.ensures (long_is c)
