-- What is read of the words that clap took, and where it took them.
use Rattle.std.proofs.Common.{◌≡◌, ◌≢◌, ◌↔◌, ◌⊎◌, inl, inr, ℕ, Bool, true, false, refl, sym, ap, ◌∙◌, subst, arith, List, [], ◌∷◌, Option, Some, None, is_some, option_map, Result, Ok, Err}
use Rattle.std.specs.Result.{result_unwrap_or}
use Rattle.std.specs.Str.Parse.{ParsesUnsigned}
use Rattle.clap.specs.Faults.{check_fault, defaults_fault, entered_fault, fault_of, level_fault, settle_fault, walk_fault}
use Rattle.clap.specs.Kinds.{IsAmong, Kinds, check_kinds, or_else}
use Rattle.clap.specs.Matches.{first_value}
use Rattle.clap.specs.Simple.{App, Shape, argument_words, built, entered, names_of, subcommand_of}
use Rattle.clap.specs.ValueTests.{is_unsigned_in}
use Rattle.clap.specs.Walk.{Held, Names, Row, Text, finished, first_of, nothing_held, rows_of, settled, stop_after, walk, walk_from}
use Rattle.clap.specs.declared.builder.value_parser.ValueParser.TheVariants.{Unsigned}
use Rattle.clap.specs.declared.error.kind.ErrorKind.{ErrorKind}
use Rattle.clap.specs.declared.parser.matches.Found.{Found}
use Rattle.clap.proofs.ValueTestLemmas.{Accepts-accepts, accepts-Accepts}
use Rattle.clap.proofs.WalkLemmas.{first_value-rows}
use Rattle.style_lines.specs.Commands.{app, seed_limit}
use Rattle.style_lines.specs.Words.{line_by, line_in, line_of, number_of}

-- an option's text, as the matches have it and as the rows do
pub first_given : (found : Found) (name : Text) → first_value found name ≡ first_of name (rows_of found)
first_given found name = first_value-rows found name

-- what `parse` reads as a number of 64 bits
pub spelled : {E : Type 0} (text : Text) (read : Result ℕ E) → ParsesUnsigned 64 10 text read → result_unwrap_or read 0 ≡ number_of (Some text)
spelled text (Ok n) h = rw (Accepts-accepts false (Unsigned 0 seed_limit) text (h.0.0, h.0.1, omega arith, omega (arith, h.0.1))) h.1
spelled text (Err e) h = go (is_unsigned_in 0 seed_limit text) refl
  where
    go : (b : Bool) → is_unsigned_in 0 seed_limit text ≡ b → 0 ≡ number_of (Some text)
    go false is = rw is refl
    go true is =
        let passed = accepts-Accepts false (Unsigned 0 seed_limit) text is in
        absurd (h (passed.0, passed.1))

-- What words come to, by what clap says of them where it is given the command of the program.

-- it found a fault with them, and did not run out of memory
pub line_none : (a : App) (words : List Text) (kind : ErrorKind) → a ≡ app → kind ≢ ErrorKind.OutOfMemory → (kind ≡ ErrorKind.OutOfMemory) ⊎ IsAmong kind (fault_of a words) → line_of words ≡ None
unfolding line_of
line_none a words kind is other (inl memory) = absurd (other memory)
line_none a words kind is other (inr among) =
    no_line kind (fault_of app words) (subcommand_of app words) (subst (λ b. IsAmong kind (fault_of b words)) is among)
  where
    no_line : (kind : ErrorKind) (faults : Kinds) (met : Option (Text × List Row)) → IsAmong kind faults → line_by faults met ≡ None
    no_line kind [] met among = absurd among
    no_line kind (fault ∷ faults) met among = refl

-- it took them
pub line_taken : (a : App) (words : List Text) (met : Option (Text × List Row)) → a ≡ app → fault_of a words ≡ [] → met ≡ subcommand_of a words
    → line_of words ≡ option_map (λ taken. line_in taken.0 taken.1) met
unfolding line_of
line_taken a words met is none same =
    ap (λ faults. line_by faults (subcommand_of app words)) (ap (λ b. fault_of b words) (sym is) ∙ none)
    ∙ ap (option_map (λ taken. line_in taken.0 taken.1)) (sym (same ∙ ap (λ b. subcommand_of b words) is))

-- ---- a line has a subcommand

second_none : (a b : Kinds) → or_else a b ≡ [] → b ≡ []
second_none [] b none = none
second_none (k ∷ ks) b none = cc

wanted : (help required missing : Bool) → required ≡ true → check_kinds help required missing ≡ [] → ⊥
wanted true required missing is none = cc
wanted false required missing is none = let some = rw is at none in cc

-- where a subcommand is wanted, its want is a fault
has_subcommand : (shape : Shape) (rows : List Row) (has : Bool) → shape.subcommand_required ≡ true → check_fault shape rows has ≡ [] → has ≡ true
has_subcommand shape rows true is none = refl
has_subcommand shape rows false is none = absurd (wanted _ _ _ is none)

level_without_fault : (shape : Shape) (names : Names) (held : Held) (words : List Text) (has : Bool) (below : Kinds) → shape.subcommand_required ≡ true
    → level_fault shape names held words has below ≡ [] → has ≡ true
level_without_fault shape names held words has below is none =
    let end = (walk shape.rules names held words).held in
    let rows = finished shape.rules end in
    let defaults = defaults_fault (settled shape.rules end).rows shape.rules in
    let settling = settle_fault shape.rules shape.args_override_self end in
    let fourth = check_fault shape rows has in
    let third = or_else defaults fourth in
    let second = or_else settling third in
    let first = or_else below second in
    has_subcommand shape rows has is (second_none defaults fourth (second_none settling third (second_none below second
    (second_none (walk_fault shape names (walk_from held) words) first none))))

met_without_fault : (a : App) (words : List Text) → (built a).top.subcommand_required ≡ true → fault_of a words ≡ [] → is_some (subcommand_of a words) ≡ true
met_without_fault a words is none =
    let stop = stop_after (built a).top.rules (names_of (built a)) (argument_words a words) in
    level_without_fault (built a).top (names_of (built a)) nothing_held (argument_words a words) (is_some (entered (built a) stop))
    (entered_fault (built a) stop) is none

wants_subcommand : (built app).top.subcommand_required ≡ true
unfolding app
wants_subcommand = refl

some_line : (faults : Kinds) (met : Option (Text × List Row)) → (faults ≡ [] → is_some met ≡ true) → (is_some (line_by faults met) ≡ true) ↔ (faults ≡ [])
some_line [] (Some taken) has = (λ is. refl, λ none. refl)
some_line [] None has = (λ is. refl, λ none. has none)
some_line (fault ∷ faults) met has = (λ is. cc, λ none. cc)

pub line_is_faultless : (words : List Text) → (is_some (line_of words) ≡ true) ↔ (fault_of app words ≡ [])
unfolding line_of
line_is_faultless words = some_line (fault_of app words) (subcommand_of app words) (met_without_fault app words wants_subcommand)
