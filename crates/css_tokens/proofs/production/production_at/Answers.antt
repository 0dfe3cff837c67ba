use Rattle.std.proofs.Common.{◌∙◌, sym, ap}
use Rattle.syntax_model.specs.Pieces.{production_at}
use Rattle.css_tokens.proofs.ProductionLemmas.{ident_first, lone_first}
use Rattle.css_tokens.proofs.production.production_at.Goals as goal

pub returns-then-is_name_start : goal.returns-then-is_name_start
returns-then-is_name_start c =
    sym (ap production_at c.requires ∙ ident_first c.args.first c.args.rest.now (sym c.is_name_start.ensures ∙ c.if-is_name_start.true))

pub returns-then-is_lone : goal.returns-then-is_lone
returns-then-is_lone c = sym (ap production_at c.requires ∙ lone_first c.args.first c.args.rest.now (sym c.is_lone.ensures ∙ c.if-is_lone.true))
