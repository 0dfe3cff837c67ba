-- The words of limits hold no line feed.
use Rattle.std.proofs.Common.{refl}
use Rattle.base_model.proofs.LineFeedLemmas.{IsWithinLine}
use Rattle.stylo_base.specs.KindName.{name_of}
use Rattle.stylo_base.specs.declared.refusal.Kind.{Kind}
use Rattle.stylo_base.specs.declared.refusal.Kind.TheVariants.{Input, Elements, Numbers, Depth, Attributes}
use Rattle.stylo_base.specs.declared.refusal.Kind.TheVariants.{Value, Sheets, Text, Batches, Device}

pub kind_within : (kind : Kind) → IsWithinLine (name_of kind)
kind_within Input = refl
kind_within Elements = refl
kind_within Numbers = refl
kind_within Depth = refl
kind_within Attributes = refl
kind_within Value = refl
kind_within Sheets = refl
kind_within Text = refl
kind_within Batches = refl
kind_within Device = refl
