-- A value is known by what it stands for.
use Rattle.std.proofs.Common.{◌≡◌, ap}
use Rattle.std.specs.Bool.{Decides}
use Rattle.std.proofs.lemmas.Bool.Decides.{Decides-int_eq}
use denote.Enum.Bare.{same_true, true_same}
use Rattle.value_model.specs.Value as model
use Rattle.property_table.specs.View.{value_seen}
use Rattle.property_table.specs.declared.value.Value.{Value}
use Rattle.property_table.specs.declared.value.Value.TheVariants.{Keyword, Color, Pixels, Percent, Number, Em, Rem}
use Rattle.property_table.specs.contracts.keyword.Keyword.{the_type}
use Rattle.property_table.specs.contracts.value.ValuePartialEq.TheImpl.{ghosts}
use Rattle.property_table.proofs.ColorLemmas.{color_of-same, color_eq-Decides}
use Rattle.property_table.proofs.WordLemmas.{word_of-same}

-- values that stand for one value of the model are the same
pub value_seen-same : (a b : Value) → value_seen a ≡ value_seen b → a ≡ b
value_seen-same (Keyword a) (Keyword b) h = ap Keyword (word_of-same a b cc)
value_seen-same (Color a) (Color b) h = ap Color (color_of-same a b cc)
value_seen-same (Pixels a) (Pixels b) h = cc
value_seen-same (Percent a) (Percent b) h = cc
value_seen-same (Number a) (Number b) h = cc
value_seen-same (Em a) (Em b) h = cc
value_seen-same (Rem a) (Rem b) h = cc
value_seen-same a b h = cc

-- the derived `==` decides whether two values stand for one value of the model
pub eq-Decides : (a b : Value) → Decides (ghosts.eq a b) (value_seen a ≡ value_seen b)
eq-Decides (Keyword a) (Keyword b) =
    (λ e. ap (λ k. value_seen (Keyword k)) (same_true the_type tt a b e), λ e. true_same the_type a b (word_of-same a b cc))
eq-Decides (Color a) (Color b) =
    let same = color_eq-Decides a b in (λ e. ap model.color (same.0 e), λ e. same.1 cc)
eq-Decides (Pixels a) (Pixels b) =
    let same = Decides-int_eq a b in (λ e. ap model.pixels (same.0 e), λ e. same.1 cc)
eq-Decides (Percent a) (Percent b) =
    let same = Decides-int_eq a b in (λ e. ap model.percent (same.0 e), λ e. same.1 cc)
eq-Decides (Number a) (Number b) =
    let same = Decides-int_eq a b in (λ e. ap model.number (same.0 e), λ e. same.1 cc)
eq-Decides (Em a) (Em b) =
    let same = Decides-int_eq a b in (λ e. ap model.em (same.0 e), λ e. same.1 cc)
eq-Decides (Rem a) (Rem b) =
    let same = Decides-int_eq a b in (λ e. ap model.rem (same.0 e), λ e. same.1 cc)
eq-Decides a b = (λ e. cc, λ e. cc)

-- the derived `==` decides whether two values are the same
pub eq-Decides_same : (a b : Value) → Decides (ghosts.eq a b) (a ≡ b)
eq-Decides_same a b = let same = eq-Decides a b in (λ e. value_seen-same a b (same.0 e), λ h. same.1 (ap value_seen h))
