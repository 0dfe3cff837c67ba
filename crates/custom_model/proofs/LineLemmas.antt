-- Custom properties are printed within a line, where their values can be written.
use Rattle.std.proofs.Common.{List, [], ◌∷◌, ◌++◌, map, refl}
use Rattle.std.specs.Prelude.{codes}
use Rattle.std.specs.List.{AllByRecursion}
use Rattle.std.specs.FinMap as finmap
use Rattle.base_model.specs.Text.{Characters}
use Rattle.base_model.proofs.LineFeedLemmas.{IsWithinLine, within_line-append}
use Rattle.base_model.proofs.Lists.{each_weaker, each-map}
use Rattle.syntax_model.specs.Written.{ident_text}
use Rattle.syntax_model.proofs.LineLemmas.{ident_text_within, written_within}
use Rattle.custom_model.specs.Value.{CustomValues, unplaced}
use Rattle.custom_model.specs.Printed.{custom_text, custom_texts, each_after, joined, value_text}
use Rattle.custom_model.proofs.ExpandWritable.{AllWritable}
use Rattle.custom_model.proofs.Maps.{entries_got}

-- texts with a separator between each two

each_after_within : (separator : Characters) (texts : List Characters) → IsWithinLine separator → AllByRecursion IsWithinLine texts → IsWithinLine (each_after separator texts)
each_after_within separator [] h k = refl
each_after_within separator (text ∷ texts) h k =
    within_line-append separator (text ++ each_after separator texts) h
    (within_line-append text (each_after separator texts) k.0 (each_after_within separator texts h k.1))

pub joined_within : (separator : Characters) (texts : List Characters) → IsWithinLine separator → AllByRecursion IsWithinLine texts → IsWithinLine (joined separator texts)
joined_within separator [] h k = refl
joined_within separator (text ∷ texts) h k =
    within_line-append text (each_after separator texts) k.0 (each_after_within separator texts h k.1)

-- the text of each custom property
pub custom_texts_within : (values : CustomValues) → AllWritable (finmap.get values) → AllByRecursion IsWithinLine (custom_texts values)
unfolding custom_texts
custom_texts_within values all =
    each-map IsWithinLine custom_text (finmap.entries values)
    (each_weaker _ (λ entry. IsWithinLine (custom_text entry)) (λ entry is.
    within_line-append (ident_text entry.0) (codes ": " ++ value_text entry.1) (ident_text_within entry.0)
    (written_within (map unplaced entry.1) (all entry.0 entry.1 is))) (finmap.entries values) (entries_got values))
