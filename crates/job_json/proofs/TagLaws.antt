-- The tags of generated nodes are the same as bytes and as characters.
use Rattle.std.proofs.Common.{◌≡◌, ◌==◌, ℕ, List, Bool, true, false, if◌then◌else◌, codes, refl, ap, ◌∙◌}
use Rattle.std.specs.Str.{chars}
use Rattle.job_json.specs.Gen.{tag_text}

abbrev one_of : Bool → Bool → Bool → List ℕ
one_of a b c = if a then codes "p" else if b then codes "i" else if c then codes "b" else codes "u"

as_characters : (a b c : Bool) → chars (one_of a b c) ≡ one_of a b c
unfolding chars
as_characters true b c = refl
as_characters false true c = refl
as_characters false false true = refl
as_characters false false false = refl

pub tag_characters : (k : ℕ) (text : List ℕ) → text ≡ tag_text k → chars text ≡ tag_text k
tag_characters k text is = ap chars is ∙ as_characters (k == 0) (k == 1) (k == 2)
