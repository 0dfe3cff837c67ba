use Rattle.std.proofs.Common.{◌≡◌, map, drop}
use Rattle.syntax_model.specs.Token.{said}
use Rattle.custom_properties.specs.Output as model
use Rattle.custom_properties.specs.OutputView.{output_of}
use Rattle.custom_properties.proofs.output.ExpansionOutput.place_all.Given as goal

abbrev pub invariant-loop-token : goal.invariant-loop-token
invariant-loop-token l =
    model.output_placed_all (map said (drop l.token-index l.tokens)) (output_of l.self)
    ≡ model.output_placed_all (map said l.tokens) (output_of l.initial.self)
