use Rattle.std.proofs.Common.{not, refl, ap, sym, ◌∙◌, arith}
use Rattle.stylo_base.specs.NameKey.{key_of}
use Rattle.stylo_base.proofs.TextLemmas.{bytes_from_chars}
use Rattle.dom_edits.specs.TouchNames.{short_of}
use Rattle.dom_edits.proofs.TouchNameLemmas.{apart_by, is_zero, same_short}
use Rattle.dom_edits.proofs.touch_name.TouchName.is_text.Goals as goal
use Rattle.dom_edits.proofs.touch_name.TouchName.is_text.Goals.{then-self-key-via-then-self-key, then-self-key-via-else-self-key+then-self-short_of}

pub returns-then-self-key : goal.returns-then-self-key
returns-then-self-key c = elim c.then-self-key.branch [
  | then-self-key-via-then-self-key w ↦ apart_by key_of _ _ _ _ _ c.self.view_is c.self.invariant.keyed c.requires w.if-self-key.true
  | then-self-key-via-else-self-key+then-self-short_of w ↦ apart_by short_of _ _ _ _ _ c.self.view_is c.self.invariant.shortened
      (w.short_of.ensures ∙ ap short_of (bytes_from_chars _ _ c.utf8.text refl)) w.if-self-short_of.true
]

pub returns-then-self-ne0 : goal.returns-then-self-ne0
returns-then-self-ne0 c =
    let some = is_zero c.self.inside.short c.if-self-ne0.true in
    ap not some
    ∙ sym (same_short c.args.text.now c.self.inside.short c.self.inside.long _ _ c.utf8.text (λ i. omega (arith, c.type_inv.text i))
    (c.if-self-short_of.false ∙ c.short_of.ensures) some c.self.view_is refl)
