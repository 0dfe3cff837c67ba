-- Slots of names, computed.
use lib.Utf8.{encode}
use Rattle.std.proofs.Common.{◌≡◌, refl}
use Rattle.std.specs.Prelude.{codes}
use Rattle.stylo_base.specs.NameKey.{key_of}
use Rattle.ancestor_filter.specs.Names.{slot}

-- their keys are 96,321 and 100,417
of_one_slot : slot (codes "aaa") ≡ slot (codes "eie")
unfolding key_of encode
of_one_slot = refl

of_aaa : slot (codes "aaa") ≡ 2_113
unfolding key_of encode
of_aaa = refl

of_another : slot (codes "aab") ≡ 2_114
unfolding key_of encode
of_another = refl
