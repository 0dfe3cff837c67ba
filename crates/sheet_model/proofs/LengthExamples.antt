-- What lengths, percentages and numbers are read from tokens, computed. All are in thousandths.
use Rattle.std.proofs.Common.{◌≡◌, ℕ, pos, List, [], ◌∷◌, ◌++◌, map, replicate, Option, Some, None, refl}
use Rattle.std.specs.Prelude.{codes}
use Rattle.base_model.specs.Text.{Characters}
use Rattle.syntax_model.specs.Numbers.{thousandths}
use Rattle.syntax_model.specs.TokensIn.{tokens_in}
use Rattle.value_model.specs.Value.{Value, keyword, pixels, percent, number, em, rem}
use Rattle.value_model.specs.Table.{table, font_size_property, font_weight_property, width_property, height_property}
use Rattle.value_model.specs.Table.{min_width_property, min_height_property, max_width_property, max_height_property}
use Rattle.value_model.specs.Table.{margin_top_property, border_top_width_property, line_height_property}
use Rattle.value_model.specs.Shorthand.{longhands_of, border_width, margin, padding}
use Rattle.sheet_model.specs.ValueIn.{value_in, units}
use Rattle.sheet_model.proofs.ExampleCases.{reads, reads_none, words, minus, all_pixels}

-- what is read
abbrev given : List Value → List (Option Value)
given values = map Some values

-- the properties of a run
abbrev properties : List ℕ → Characters → List (Option Value)
properties rows text = map (λ property. value_in property (tokens_in text)) rows

abbrev box_sizes : List ℕ
box_sizes = width_property ∷ height_property ∷ min_width_property ∷ min_height_property ∷ []

abbrev box_limits : List ℕ
box_limits = max_width_property ∷ max_height_property ∷ []

abbrev margins : List ℕ
margins = longhands_of margin

abbrev paddings : List ℕ
paddings = longhands_of padding

abbrev border_widths : List ℕ
border_widths = longhands_of border_width

-- One of each unit: 96 pixels are an inch, which is 2.54 centimetres, 101.6 quarters of a millimetre, 72 points and 6
-- picas. The nearest thousandth is taken.
one_of_each : reads width_property (codes "1px" ∷ codes "1in" ∷ codes "1cm" ∷ codes "1mm" ∷ codes "1q" ∷ codes "1pt" ∷ codes "1pc" ∷ codes "1em" ∷ codes "1rem" ∷ []) ≡ given (pixels (pos 1_000) ∷ pixels (pos 96_000) ∷ pixels (pos 37_795) ∷ pixels (pos 3_780) ∷ pixels (pos 945) ∷ pixels (pos 1_333) ∷ pixels (pos 16_000) ∷ em (pos 1_000) ∷ rem (pos 1_000) ∷ [])
unfolding value_in tokens_in table units thousandths
one_of_each = refl

in_any_case : reads width_property (codes "2PX" ∷ codes "2In" ∷ codes "2.54cM" ∷ codes "25.4Mm" ∷ codes "101.6Q" ∷ codes "72pT" ∷ codes "6PC" ∷ codes "2eM" ∷ codes "2Rem" ∷ codes "2\\70 x" ∷ []) ≡ given (pixels (pos 2_000) ∷ pixels (pos 192_000) ∷ pixels (pos 96_000) ∷ pixels (pos 96_000) ∷ pixels (pos 96_000) ∷ pixels (pos 96_000) ∷ pixels (pos 96_000) ∷ em (pos 2_000) ∷ rem (pos 2_000) ∷ pixels (pos 2_000) ∷ [])
unfolding value_in tokens_in table units thousandths
in_any_case = refl

-- numbers in each form, with exponents, and with more digits than are kept
spellings : reads width_property (codes "+1.5px" ∷ codes ".5px" ∷ codes "007px" ∷ codes "1e3px" ∷ codes "1e3em" ∷ codes "25e-1rem" ∷ codes "1.0004px" ∷ codes "1.0005px" ∷ codes "0.00049px" ∷ codes "1e-20px" ∷ codes "-0px" ∷ codes "0px/**/" ∷ []) ≡ given (pixels (pos 1_500) ∷ pixels (pos 500) ∷ pixels (pos 7_000) ∷ pixels (pos 1_000_000) ∷ em (pos 1_000_000) ∷ rem (pos 2_500) ∷ pixels (pos 1_000) ∷ pixels (pos 1_001) ∷ pixels (pos 0) ∷ pixels (pos 0) ∷ pixels (pos 0) ∷ pixels (pos 0) ∷ [])
unfolding value_in tokens_in table units thousandths
spellings = refl

-- of two nearest thousandths the one farther from 0 is taken, and what is beyond the range is at its end
rounded_once : reads margin_top_property (codes "-1px" ∷ codes "-1pt" ∷ codes "-0.0004px" ∷ codes "-0.0005px" ∷ codes "-1.0005px" ∷ codes "-.5in" ∷ codes "-2em" ∷ codes "-0.5rem" ∷ []) ≡ given (pixels (minus 1_000) ∷ pixels (minus 1_333) ∷ pixels (pos 0) ∷ pixels (minus 1) ∷ pixels (minus 1_001) ∷ pixels (minus 48_000) ∷ em (minus 2_000) ∷ rem (minus 500) ∷ [])
unfolding value_in tokens_in table units thousandths
rounded_once = refl

within_the_range : reads margin_top_property (codes "1e20px" ∷ codes "-1e20px" ∷ codes "1e20in" ∷ codes "30000000in" ∷ codes "2000000000px" ∷ codes "2000000000.001px" ∷ codes "1e20em" ∷ codes "1e20%" ∷ codes "-1e20%" ∷ []) ≡ given (pixels (pos 2_000_000_000_000) ∷ pixels (minus 2_000_000_000_000) ∷ pixels (pos 2_000_000_000_000) ∷ pixels (pos 2_000_000_000_000) ∷ pixels (pos 2_000_000_000_000) ∷ pixels (pos 2_000_000_000_000) ∷ em (pos 2_000_000_000_000) ∷ percent (pos 2_000_000_000_000) ∷ percent (minus 2_000_000_000_000) ∷ [])
unfolding value_in tokens_in table units thousandths
within_the_range = refl

-- a number is a length where it is 0, once it is rounded
zeros : reads width_property (codes "0" ∷ codes "-0" ∷ codes "+0.0" ∷ codes "0e5" ∷ codes "0.0001" ∷ codes "-0.0004" ∷ codes "0%" ∷ []) ≡ given (pixels (pos 0) ∷ pixels (pos 0) ∷ pixels (pos 0) ∷ pixels (pos 0) ∷ pixels (pos 0) ∷ pixels (pos 0) ∷ percent (pos 0) ∷ [])
unfolding value_in tokens_in table units thousandths
zeros = refl

no_widths : reads_none width_property (
    codes "1" ∷ codes "0.0005" ∷ codes "1.5" ∷ codes "-1px" ∷ codes "-0.0005px" ∷ codes "-1em" ∷ codes "-1rem" ∷ codes "-5%"
    ∷ codes "1ex" ∷ codes "1ch" ∷ codes "1vw" ∷ codes "1pxx" ∷ codes "1p" ∷ codes "1 px" ∷ codes "1px " ∷ codes "1px 2px" ∷ codes "px"
    ∷ codes "none" ∷ codes "thin" ∷ codes "calc(1px)" ∷ codes "1px/2px" ∷ codes "(1px)" ∷ codes "#1px" ∷ codes "\"1px\"" ∷ []
    )
unfolding value_in tokens_in table units thousandths
no_widths = refl

percentages : reads margin_top_property (codes "5%" ∷ codes "-5%" ∷ codes "12.3456%" ∷ codes "+.5%" ∷ codes "1e2%" ∷ codes "-0.0004%" ∷ []) ≡ given (percent (pos 5_000) ∷ percent (minus 5_000) ∷ percent (pos 12_346) ∷ percent (pos 500) ∷ percent (pos 100_000) ∷ percent (pos 0) ∷ [])
unfolding value_in tokens_in table units thousandths
percentages = refl

-- which properties of the box take what
autos : properties (box_sizes ++ margins) (codes "AUTO") ≡ replicate 8 (Some (keyword (codes "auto")))
unfolding value_in tokens_in table
autos = refl

no_autos : properties (box_limits ++ (paddings ++ border_widths)) (codes "auto") ≡ replicate 10 None
unfolding value_in tokens_in table
no_autos = refl

nones : properties box_limits (codes "None") ≡ replicate 2 (Some (keyword (codes "none")))
unfolding value_in tokens_in table
nones = refl

no_nones : properties (box_sizes ++ (margins ++ (paddings ++ border_widths))) (codes "none") ≡ replicate 16 None
unfolding value_in tokens_in table
no_nones = refl

all_lengths : properties (box_sizes ++ (box_limits ++ (margins ++ (paddings ++ border_widths)))) (codes "1.5pc") ≡ replicate 18 (Some (pixels (pos 24_000)))
unfolding value_in tokens_in table units thousandths
all_lengths = refl

all_percentages : properties (box_sizes ++ (box_limits ++ (margins ++ paddings))) (codes "50%") ≡ replicate 14 (Some (percent (pos 50_000)))
unfolding value_in tokens_in table units thousandths
all_percentages = refl

only_margins_below_0 : properties (box_sizes ++ (box_limits ++ (paddings ++ border_widths))) (codes "-1px") ≡ replicate 14 None
unfolding value_in tokens_in table units thousandths
only_margins_below_0 = refl

no_percentage_below_0 : properties (box_sizes ++ (box_limits ++ (paddings ++ border_widths))) (codes "-1%") ≡ replicate 14 None
unfolding value_in tokens_in table units thousandths
no_percentage_below_0 = refl

margins_below_0 : properties margins (codes "-1px") ≡ replicate 4 (Some (pixels (minus 1_000)))
unfolding value_in tokens_in table units thousandths
margins_below_0 = refl

-- the widths of borders
widths_by_name : reads border_top_width_property (codes "thin" ∷ codes "Medium" ∷ codes "THICK" ∷ codes "0" ∷ codes "2em" ∷ []) ≡ given (pixels (pos 1_000) ∷ pixels (pos 3_000) ∷ pixels (pos 5_000) ∷ pixels (pos 0) ∷ em (pos 2_000) ∷ [])
unfolding value_in tokens_in table units thousandths
widths_by_name = refl

no_border_widths : reads_none border_top_width_property (codes "5%" ∷ codes "0%" ∷ codes "-1px" ∷ codes "1" ∷ codes "small" ∷ codes "thin thin" ∷ codes "solid" ∷ [])
unfolding value_in tokens_in table units thousandths
no_border_widths = refl

-- font sizes
sizes_by_name : reads font_size_property (codes "xx-small" ∷ codes "X-Small" ∷ codes "small" ∷ codes "MEDIUM" ∷ codes "large" ∷ codes "x-large" ∷ codes "xx-LARGE" ∷ []) ≡ all_pixels (pos 9_000 ∷ pos 10_000 ∷ pos 13_000 ∷ pos 16_000 ∷ pos 18_000 ∷ pos 24_000 ∷ pos 32_000 ∷ [])
unfolding value_in tokens_in table units thousandths
sizes_by_name = refl

relative_sizes : reads font_size_property (codes "Larger" ∷ codes "smalleR" ∷ []) ≡ words (codes "larger" ∷ codes "smaller" ∷ [])
unfolding value_in tokens_in table units thousandths
relative_sizes = refl

other_sizes : reads font_size_property (codes "0" ∷ codes "12pt" ∷ codes "1.5em" ∷ codes "0.9rem" ∷ codes "120%" ∷ codes "0%" ∷ []) ≡ given (pixels (pos 0) ∷ pixels (pos 16_000) ∷ em (pos 1_500) ∷ rem (pos 900) ∷ percent (pos 120_000) ∷ percent (pos 0) ∷ [])
unfolding value_in tokens_in table units thousandths
other_sizes = refl

no_sizes : reads_none font_size_property (codes "-1px" ∷ codes "-1em" ∷ codes "-1%" ∷ codes "16" ∷ codes "thin" ∷ codes "bold" ∷ codes "normal" ∷ codes "auto" ∷ codes "xxx-large" ∷ codes "large larger" ∷ [])
unfolding value_in tokens_in table units thousandths
no_sizes = refl

-- font weights: from 1 to 1000, once they are rounded
weights : reads font_weight_property (codes "1" ∷ codes "0.9996" ∷ codes "350.5" ∷ codes "1e3" ∷ codes "1000" ∷ codes "1000.0004" ∷ codes "+400.0" ∷ []) ≡ given (number (pos 1_000) ∷ number (pos 1_000) ∷ number (pos 350_500) ∷ number (pos 1_000_000) ∷ number (pos 1_000_000) ∷ number (pos 1_000_000) ∷ number (pos 400_000) ∷ [])
unfolding value_in tokens_in table units thousandths
weights = refl

weights_by_name : reads font_weight_property (codes "normal" ∷ codes "Bold" ∷ []) ≡ given (number (pos 400_000) ∷ number (pos 700_000) ∷ [])
unfolding value_in tokens_in table units thousandths
weights_by_name = refl

relative_weights : reads font_weight_property (codes "BOLDER" ∷ codes "lighteR" ∷ []) ≡ words (codes "bolder" ∷ codes "lighter" ∷ [])
unfolding value_in tokens_in table units thousandths
relative_weights = refl

no_weights : reads_none font_weight_property (codes "0" ∷ codes "0.9994" ∷ codes "1000.4" ∷ codes "1001" ∷ codes "-1" ∷ codes "1e20" ∷ codes "400px" ∷ codes "40%" ∷ codes "thick" ∷ codes "oblique" ∷ codes "400 700" ∷ [])
unfolding value_in tokens_in table units thousandths
no_weights = refl

-- `line-height`: 0 is a number there
heights : reads line_height_property (codes "0" ∷ codes "1.2" ∷ codes "-0.0004" ∷ codes "1e20" ∷ codes "0px" ∷ codes "1.5em" ∷ codes "2rem" ∷ codes "150%" ∷ codes "0%" ∷ []) ≡ given (number (pos 0) ∷ number (pos 1_200) ∷ number (pos 0) ∷ number (pos 2_000_000_000_000) ∷ pixels (pos 0) ∷ em (pos 1_500) ∷ rem (pos 2_000) ∷ percent (pos 150_000) ∷ percent (pos 0) ∷ [])
unfolding value_in tokens_in table units thousandths
heights = refl

height_by_name : reads line_height_property (codes "NORMAL" ∷ []) ≡ words (codes "normal" ∷ [])
unfolding value_in tokens_in table units thousandths
height_by_name = refl

no_heights : reads_none line_height_property (codes "-1" ∷ codes "-0.0005" ∷ codes "-1px" ∷ codes "-1em" ∷ codes "-1%" ∷ codes "auto" ∷ codes "medium" ∷ codes "1 2" ∷ [])
unfolding value_in tokens_in table units thousandths
no_heights = refl
