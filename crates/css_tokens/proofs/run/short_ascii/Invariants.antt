use Rattle.std.proofs.Common.{◌≡◌, length, true}
use Rattle.std.specs.Prelude.{take}
use Rattle.stylo_base.specs.Ascii.{is_all_ascii}
use Rattle.css_tokens.proofs.run.short_ascii.Given as goal

abbrev pub invariant-loop-at : goal.invariant-loop-at
invariant-loop-at l = record {
  long : length l.bytes ≡ 16;
  bytes : take l.at l.bytes ≡ take l.at l.text;
  ascii : is_all_ascii (take l.at l.text) ≡ true;
}
