-- What is kept of declarations can be written, as a test.
use Rattle.std.proofs.Common.{◌≡◌, List, [], ◌∷◌, Bool, true, ◌&&◌, refl, ap, ◌∙◌}
use Rattle.std.specs.List.{list_all, AllByRecursion}
use Rattle.sheet_model.specs.Declared.{Declared, Given, wide, exactly, referring, holding}
use Rattle.sheet_model.specs.StyleRules.{StyleRule}
use Rattle.sheet_model.proofs.DeclaredWritable.{GivenWritable, DeclaredWritable, StyleRuleWritable}
use Rattle.sheet_set.specs.Writable.{given_writable, declared_writable, rule_writable}

-- all pass that are so
all_pass : {X : Type 0} (Holds : X → Type 0) (passes : X → Bool) (each : (x : X) → Holds x → passes x ≡ true) (xs : List X) → AllByRecursion Holds xs → list_all passes xs ≡ true
all_pass Holds passes each [] h = refl
all_pass Holds passes each (x ∷ xs) h =
    ap (λ b. b && list_all passes xs) (each x h.0) ∙ all_pass Holds passes each xs h.1

given_passes : (given : Given) → GivenWritable given → given_writable given ≡ true
given_passes (wide word) h = refl
given_passes (exactly value) h = refl
given_passes (referring property_name tokens) h = h
given_passes (holding tokens) h = h

pub declared_pass : (ds : List Declared) → AllByRecursion DeclaredWritable ds → list_all declared_writable ds ≡ true
declared_pass = all_pass DeclaredWritable declared_writable (λ d h. given_passes d.given h)

pub rules_pass : (rules : List StyleRule) → AllByRecursion StyleRuleWritable rules → list_all rule_writable rules ≡ true
rules_pass = all_pass StyleRuleWritable rule_writable (λ rule h. declared_pass rule.declarations h)
