use Rattle.std.specs.Str.{chars}
use Rattle.std.proofs.Common.{rules}
use Rattle.std.proofs.lemmas.Fn.{always_returns_same}
use Rattle.css_tokens.proofs.PlaceLemmas.{found_place, no_place_found, order}
use Rattle.css_tokens.proofs.custom.named_entry.place_by_name.Goals as goal

pub returns-in-Ok-clause-place : goal.returns-in-Ok-clause-place
returns-in-Ok-clause-place g c =
    let name = chars c.args.name.now in
    let by_name = c.in-Ok.ensures.position (λ x. order (g.T.NamedEntry.name_of x) name) (always_returns_same _ _ _ (λ a r f called. search rules)) in
    found_place g.T.NamedEntry.name_of name c.args.entries.now c.requires c.in-Ok.place c.in-Ok.ensures.bound by_name

pub returns-in-Err-clause-place : goal.returns-in-Err-clause-place
returns-in-Err-clause-place g c =
    let name = chars c.args.name.now in
    let by_name = c.in-Err.ensures.position (λ x. order (g.T.NamedEntry.name_of x) name) (always_returns_same _ _ _ (λ a r f called. search rules)) in
    no_place_found g.T.NamedEntry.name_of name c.args.entries.now c.requires c.in-Err.field-0 by_name
