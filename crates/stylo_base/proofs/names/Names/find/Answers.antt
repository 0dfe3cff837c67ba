use Rattle.std.proofs.Common.{Some, refl, ap}
use Rattle.std.specs.Option.{is_some}
use Rattle.std.specs.Str.{chars}
use Rattle.stylo_base.proofs.NameLemmas.{index_of, there, exactly, text_at}
use Rattle.stylo_base.proofs.names.Names.find.Goals as goal

pub returns-in_err-index-clause-there : goal.returns-in_err-index-clause-there
returns-in_err-index-clause-there c =
    there _ (chars c.args.text.now) c.args.self.now _ (ap is_some c.from_residual.ensures)
    (index_of c.args.text.now c.utf8.text c.self.inside.texts.keys c.args.self.now _ c.in_err-index.ensures.index c.self.view_is)

pub returns-in_err-index-clause-exactly : goal.returns-in_err-index-clause-exactly
returns-in_err-index-clause-exactly c = exactly _ _ _ (returns-in_err-index-clause-there c)

pub returns-clause-found : goal.returns-clause-found
returns-clause-found c =
    text_at (chars c.args.text.now) c.args.self.now _
    (index_of c.args.text.now c.utf8.text c.self.inside.texts.keys c.args.self.now _ c.in_ok-index.ensures.index c.self.view_is)

pub returns-clause-there : goal.returns-clause-there
returns-clause-there c =
    there (Some c.in_ok-index.index) (chars c.args.text.now) c.args.self.now _ refl
    (index_of c.args.text.now c.utf8.text c.self.inside.texts.keys c.args.self.now _ c.in_ok-index.ensures.index c.self.view_is)

pub returns-clause-exactly : goal.returns-clause-exactly
returns-clause-exactly c =
    exactly (Some c.in_ok-index.index) (chars c.args.text.now) c.args.self.now (returns-clause-there c)
