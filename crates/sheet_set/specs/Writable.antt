-- Whether what is kept of a declaration can be written, so that it reads back.
use Rattle.std.specs.Prelude.{map, Bool, true}
use Rattle.std.specs.List.{list_all}
use Rattle.syntax_model.specs.Written.{is_writable}
use Rattle.custom_model.specs.Value.{unplaced}
use Rattle.sheet_model.specs.Declared.{Declared, Given, wide, exactly, referring, holding}
use Rattle.sheet_model.specs.StyleRules.{StyleRule}

-- a keyword and a value of a property are not kept as tokens
abbrev pub given_writable : Given → Bool
given_writable (wide word) = true
given_writable (exactly value) = true
given_writable (referring property_name tokens) = is_writable (map unplaced tokens)
given_writable (holding tokens) = is_writable (map unplaced tokens)

abbrev pub declared_writable : Declared → Bool
declared_writable d = given_writable d.given

abbrev pub rule_writable : StyleRule → Bool
rule_writable rule = list_all declared_writable rule.declarations
