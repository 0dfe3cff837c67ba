use Rattle.std.proofs.Common.{◌++◌, ap, ◌∙◌}
use Rattle.std.proofs.lemmas.Result.{IfOk-weaker}
use Rattle.layer_model.specs.Order.{layers_of}
use Rattle.layer_order.specs.View.{declarations}
use Rattle.sheet_model.specs.Sources.{layers_of_sheets}
use Rattle.sheet_set.proofs.Taking.{layers_in}
use Rattle.sheet_set.proofs.kept_layers.layers_of.Goals as goal

pub returns : goal.returns
unfolding layers_of_sheets
returns c =
    let sheets = c.args.sheets.now in
    IfOk-weaker c.of.result _ _ (λ layers is. is
    ∙ (ap (λ l. layers_of (declarations l)) c.as_slice.ensures.value
    ∙ ap layers_of (c.in_ok-add_layers_of.ensures ∙ ap (λ l. declarations l ++ layers_in sheets) c.new-found.ensures.items))) c.of.ensures
