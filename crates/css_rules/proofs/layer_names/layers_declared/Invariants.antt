use Rattle.std.proofs.Common.{length}
use Rattle.syntax_model.specs.TokenKinds.{is_comma}
use Rattle.syntax_model.specs.Outside.{parts_between}
use Rattle.css_tokens.proofs.SeparatedLemmas.{AreSoFar}
use Rattle.css_rules.specs.View.{context_of}
use Rattle.css_rules.proofs.LayerLemmas.{layer_in}
use Rattle.css_rules.proofs.layer_names.layers_declared.Given as goal

-- the layers so far and those of what is left are the whole
abbrev pub invariant-names : goal.invariant-names
invariant-names l =
    AreSoFar context_of (layer_in (context_of l.context)) l.list.items l.names (parts_between is_comma l.prelude)

abbrev pub decreases-names : goal.decreases-names
decreases-names l = length l.names
