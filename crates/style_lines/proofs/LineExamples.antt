-- Which words are a command line, computed on words that are written out.
use Rattle.std.proofs.Common.{◌≡◌, List, [], ◌∷◌, Some, None, refl, codes}
use Rattle.clap.specs.Walk.{Text}
use Rattle.clap.proofs.OnLiterals.{clap_on_literals}
use Rattle.style_lines.specs.Commands.{app}
use Rattle.style_lines.specs.Words.{line_of}
use Rattle.style_lines.specs.declared.words.Line.TheVariants.{Run, Gen}

-- the words after the program's name
abbrev style : List Text → List Text
style words = codes "style" ∷ words

run_alone : line_of (style (codes "run" ∷ [])) ≡ Some (Run 4 32)
unfolding line_of app clap_on_literals
run_alone = refl

run_with_both : line_of (style (codes "run" ∷ codes "--share=0" ∷ codes "--workers" ∷ codes "+064" ∷ codes "--" ∷ [])) ≡ Some (Run 64 0)
unfolding line_of app clap_on_literals
run_with_both = refl

gen_of_three : line_of (style (codes "gen" ∷ codes "--seed" ∷ codes "18446744073709551615" ∷ codes "--nodes=65536" ∷ codes "--batches=0" ∷ []))
    ≡ Some (Gen 18446744073709551615 65536 0 4)
unfolding line_of app clap_on_literals
gen_of_three = refl

no_command : line_of (style []) ≡ None
unfolding line_of app clap_on_literals
no_command = refl

help_is_none : line_of (style (codes "help" ∷ [])) ≡ None
unfolding line_of app clap_on_literals
help_is_none = refl

too_many_workers : line_of (style (codes "run" ∷ codes "--workers" ∷ codes "65" ∷ [])) ≡ None
unfolding line_of app clap_on_literals
too_many_workers = refl

twice : line_of (style (codes "run" ∷ codes "--share" ∷ codes "1" ∷ codes "--share" ∷ codes "1" ∷ [])) ≡ None
unfolding line_of app clap_on_literals
twice = refl

abbreviated : line_of (style (codes "run" ∷ codes "--work" ∷ codes "4" ∷ [])) ≡ None
unfolding line_of app clap_on_literals
abbreviated = refl

without_nodes : line_of (style (codes "gen" ∷ codes "--seed" ∷ codes "1" ∷ codes "--batches" ∷ codes "1" ∷ [])) ≡ None
unfolding line_of app clap_on_literals
without_nodes = refl
