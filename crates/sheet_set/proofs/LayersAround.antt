-- The layers of a list of sheets around some of them.
use Rattle.std.proofs.Common.{◌≡◌, ℕ, ◌+◌, List, [], ◌∷◌, ◌++◌, flat_map, take, drop, true, false, refl, sym, ap, ◌∙◌, append-nil}
use Rattle.std.proofs.lemmas.Bool.{cond-true, cond-false}
use Rattle.std.proofs.lemmas.List.{take-append-drop}
use Rattle.std.proofs.lemmas.List.Concat.{flat_map-append}
use Rattle.std.proofs.lemmas.List.Elements.{filter-append}
use Rattle.base_model.specs.Origin.{Origin}
use Rattle.base_model.specs.Sheet.{Sheet}
use Rattle.layer_model.specs.Name.{LayerName}
use Rattle.layer_model.specs.Order.{layers_of}
use Rattle.sheet_model.specs.Sources.{enabled_among, layers_of_sheets, sheet_layers}
use Rattle.sheet_set.specs.Planned.{at_place}
use Rattle.sheet_set.specs.StepOf.{layers_declared}
use Rattle.sheet_set.proofs.AtPlace.{in-place-itself}

declared-append : (xs ys : List Sheet) → layers_declared (xs ++ ys) ≡ layers_declared xs ++ layers_declared ys
declared-append xs ys =
    ap (flat_map sheet_layers) (filter-append (λ (s : Sheet). s.enabled) xs ys)
    ∙ flat_map-append sheet_layers (enabled_among xs) (enabled_among ys)

pub declared-on : (sheet : Sheet) → sheet.enabled ≡ true → layers_declared (sheet ∷ []) ≡ sheet_layers sheet
declared-on sheet on =
    ap (flat_map sheet_layers) (cond-true sheet.enabled (sheet ∷ []) [] on) ∙ append-nil (sheet_layers sheet)

pub declared-off : (sheet : Sheet) → sheet.enabled ≡ false → layers_declared (sheet ∷ []) ≡ []
declared-off sheet off = ap (flat_map sheet_layers) (cond-false sheet.enabled (sheet ∷ []) [] off)

pub layers-around : (xs others ys : List Sheet) → layers_of_sheets (xs ++ (others ++ ys)) ≡ layers_of (layers_declared xs ++ (layers_declared others ++ layers_declared ys))
unfolding layers_of_sheets
layers-around xs others ys =
    ap layers_of (declared-append xs (others ++ ys) ∙ ap (λ l. layers_declared xs ++ l) (declared-append others ys))

-- these layers between those of the sheets around
pub layers-with : (xs others ys : List Sheet) (its : List (Origin × LayerName)) → layers_declared others ≡ its
    → layers_of_sheets (xs ++ (others ++ ys)) ≡ layers_of (layers_declared xs ++ (its ++ layers_declared ys))
layers-with xs others ys its is =
    layers-around xs others ys ∙ ap (λ l. layers_of (layers_declared xs ++ (l ++ layers_declared ys))) is

-- where what comes in place of the sheet at a place declares the same
pub layers-itself : (place : ℕ) (list : List Sheet) (its : List (Origin × LayerName)) → layers_declared (at_place place list) ≡ its
    → layers_of_sheets list ≡ layers_of (layers_declared (take place list) ++ (its ++ layers_declared (drop (place + 1) list)))
layers-itself place list its is =
    ap layers_of_sheets (sym (in-place-itself place list)) ∙ layers-with (take place list) (at_place place list) (drop (place + 1) list) its is

-- a sheet that comes
pub layers-come : (place : ℕ) (list : List Sheet) (sheet : Sheet) → layers_declared (sheet ∷ []) ≡ [] → layers_of_sheets list ≡ layers_of_sheets (take place list ++ sheet ∷ drop place list)
layers-come place list sheet none =
    ap layers_of_sheets (sym (take-append-drop place list))
    ∙ (layers-with (take place list) [] (drop place list) [] refl ∙ sym (layers-with (take place list) (sheet ∷ []) (drop place list) [] none))
