-- The commands of the program, in the words of the crate clap, which says what becomes of a command line.
use Rattle.std.specs.Prelude.{◌^◌, ◌-◌, ℕ, true, [], ◌∷◌, Some, codes}
use Rattle.base_model.specs.Limits.{batch_limit, element_limit}
use Rattle.clap.specs.Simple.{App, new_app, new_rule, on_top, with_rule, with_subcommand}
use Rattle.clap.specs.Walk.{Rule, Text}
use Rattle.clap.specs.declared.builder.value_parser.ValueParser.TheVariants.{Unsigned}

-- the most threads that a restyle may use
abbrev pub worker_limit : ℕ
worker_limit = 64

-- the most elements for which styles are shared
abbrev pub share_limit : ℕ
share_limit = 64

-- the greatest number that a job is made from
abbrev pub seed_limit : ℕ
seed_limit = 2 ^ 64 - 1

-- the option `--NAME N`, where N is a number from `least` to `most`
abbrev pub number_option : Text → ℕ → ℕ → Rule
number_option name least most = record (new_rule name) { long = Some name; parser = Some (Unsigned least most) }

-- what N is where the option is left out
abbrev pub with_number : Text → Rule → Rule
with_number number rule = record rule { defaults = number ∷ [] }

-- the option may not be left out
abbrev pub needed : Rule → Rule
needed rule = record rule { required = true }

abbrev pub workers_rule : Rule
workers_rule = with_number (codes "4") (number_option (codes "workers") 1 worker_limit)

abbrev pub share_rule : Rule
share_rule = with_number (codes "32") (number_option (codes "share") 0 share_limit)

abbrev pub seed_rule : Rule
seed_rule = needed (number_option (codes "seed") 0 seed_limit)

abbrev pub nodes_rule : Rule
nodes_rule = needed (number_option (codes "nodes") 1 element_limit)

abbrev pub batches_rule : Rule
batches_rule = needed (number_option (codes "batches") 0 batch_limit)

abbrev pub run_app : App
run_app = with_rule (with_rule (new_app (codes "run")) workers_rule) share_rule

abbrev pub gen_app : App
gen_app =
    with_rule (with_rule (with_rule (with_rule (new_app (codes "gen")) seed_rule) nodes_rule) batches_rule) workers_rule

-- the program, with no option of its own, of which one of two subcommands is asked
unfoldable pub app : App
app = with_subcommand
    (with_subcommand (on_top (λ top. record top { subcommand_required = true }) (new_app (codes "style"))) run_app.top)
    gen_app.top
