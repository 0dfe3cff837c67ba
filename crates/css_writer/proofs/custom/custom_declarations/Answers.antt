use Rattle.std.proofs.Common.{◌∙◌}
use Rattle.css_writer.proofs.CustomLemmas.{first_declared, none_declared}
use Rattle.css_writer.proofs.custom.custom_declarations.Goals as goal

pub returns-in_default : goal.returns-in_default
returns-in_default c = c.new.ensures ∙ none_declared _ _ c.entries.ensures c.in_default.ensures.cases

pub loop-entry-init : goal.loop-entry-init
loop-entry-init c =
    first_declared _ _ _ _ _ _ c.entries.ensures c.in-Some.ensures.cases.0 c.new-out.ensures c.in_ok-push_declaration.ensures
