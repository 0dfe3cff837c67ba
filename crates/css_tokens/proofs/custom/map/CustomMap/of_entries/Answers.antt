use Rattle.std.proofs.Common.{◌≡◌, List, [], ◌∷◌, map, length, refl, sym, ap, ◌∙◌, arith}
use Rattle.std.specs.Vec.{vec_len}
use Rattle.std.proofs.lemmas.Bool.{eqb-true}
use Rattle.css_tokens.specs.CustomView.{entry_of}
use Rattle.css_tokens.specs.declared.custom.map.CustomEntry.{CustomEntry}
use Rattle.css_tokens.proofs.MapLemmas.{of_none, of_pairs}
use Rattle.css_tokens.proofs.custom.map.CustomMap.of_entries.Goals as goal

none_of : (es : List CustomEntry) → length es ≡ 0 → map entry_of es ≡ []
none_of [] e = refl
none_of (x ∷ es) e = absurd (omega arith)

pub returns-then-is_empty : goal.returns-then-is_empty
returns-then-is_empty c =
    let none : vec_len c.args.list ≡ 0 = eqb-true _ 0 (sym c.is_empty.ensures ∙ c.if-is_empty.true) in
    c.empty.ensures ∙ sym (ap of_pairs (none_of c.args.list.items (omega arith)) ∙ of_none)
