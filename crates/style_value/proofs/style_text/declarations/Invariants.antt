use Rattle.style_value.proofs.TextLemmas.{IsPrinted}
use Rattle.style_value.proofs.style_text.declarations.Given as goal

abbrev pub invariant-loop-id : goal.invariant-loop-id
invariant-loop-id l = IsPrinted l.columns l.ids l.text l.separator l.id-index
