use Rattle.std.proofs.Common.{◌≡◌}
use Rattle.std.specs.Prelude.{nat_lt, take}
use Rattle.stylo_base.specs.Ascii.{is_all_ascii}
use Rattle.css_tokens.proofs.characters.are_ascii.Given as goal

abbrev pub invariant-loop-byte : goal.invariant-loop-byte
invariant-loop-byte l = nat_lt l.highest 128 ≡ is_all_ascii (take l.byte-index l.bytes)
