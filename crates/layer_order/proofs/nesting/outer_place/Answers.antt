use Rattle.std.proofs.Common.{◌≡◌, get_or, [], sym, ◌∙◌, ap}
use Rattle.std.proofs.lemmas.List.{get_or_read}
use Rattle.layer_order.specs.Known.{layer_at}
use Rattle.layer_order.proofs.KnownLemmas.{grown}
use Rattle.layer_order.proofs.NestingLemmas.{directly_found, never_none}
use Rattle.layer_order.proofs.nesting.outer_place.Goals as goal

pub returns-in-Some-clause-directly : goal.returns-in-Some-clause-directly
returns-in-Some-clause-directly c =
    let layers = c.args.layers.now.keys in
    let name = c.index-as_slice-place.result in
    let is = c.index-as_slice-place.is ∙ ap (λ ns. get_or ns c.args.place name) c.as_slice.ensures.keys in
    let here : name ≡ layer_at layers c.args.place = get_or_read layers c.args.place name c.requires.within is [] in
    directly_found layers (grown layers c.requires.declared) c.args.place c.requires.within name c.in-Some.outer.now here c.in-Some.ensures.some c.unwrap_or.result c.get_index_of.result c.len.result c.get_index_of.ensures.index c.len.ensures.len c.unwrap_or.ensures

pub returns-in-None-clause-directly : goal.returns-in-None-clause-directly
returns-in-None-clause-directly c =
    let layers = c.args.layers.now.keys in
    let name = c.index-as_slice-place.result in
    let is = c.index-as_slice-place.is ∙ ap (λ ns. get_or ns c.args.place name) c.as_slice.ensures.keys in
    let here : name ≡ layer_at layers c.args.place = get_or_read layers c.args.place name c.requires.within is [] in
    absurd (never_none layers (grown layers c.requires.declared) c.args.place c.requires.within (sym here ∙ c.in-None.ensures.none))
