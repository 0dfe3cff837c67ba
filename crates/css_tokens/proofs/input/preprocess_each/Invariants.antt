use Rattle.std.proofs.Common.{◌≡◌, ◌++◌, length, drop}
use Rattle.std.specs.Str.{chars}
use Rattle.std.specs.String.{string_bytes}
use Rattle.syntax_model.specs.Preprocess.{preprocessed, preprocessed_after}
use Rattle.css_tokens.proofs.input.preprocess_each.Given as goal

abbrev pub invariant-loop-c : goal.invariant-loop-c
invariant-loop-c l =
    chars (string_bytes l.out) ++ preprocessed_after l.is_after_cr (drop (length l.yielded) (chars l.text)) ≡ preprocessed (chars l.text)
