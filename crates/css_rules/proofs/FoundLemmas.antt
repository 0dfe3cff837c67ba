-- What is found token by token is what the definition finds.
use Rattle.std.proofs.Common.{◌≡◌, ℕ, zero, suc, ◌+◌, List, [], ◌∷◌, length, arith}
use Rattle.layer_model.specs.Name.{part_limit}
use Rattle.syntax_model.specs.Token.{Token}
use Rattle.syntax_model.specs.Brackets.{closed}
use Rattle.syntax_model.specs.Rules.{SheetEdition}
use Rattle.syntax_model.specs.SheetRules.{no_context, rules_in}
use Rattle.css_rules.specs.Walk.{finished, start, steps}
use Rattle.css_rules.proofs.BlockLemmas.{closed_fits}
use Rattle.css_rules.proofs.WalkLemmas.{Place}
use Rattle.css_rules.proofs.RunLemmas.{Claims, no_rule}
use Rattle.css_rules.proofs.ReadLemmas.{reads_more, reads_none}

claims : (most : ℕ) → Claims most
claims zero at stage tokens short enough fits = absurd (omega (arith, short))
claims (suc most) at stage [] short enough fits = reads_none stage fits
claims (suc most) at stage (token ∷ tokens) short enough fits =
    reads_more (record { most = most; claims = claims most; short = omega (arith, short); enough = enough }) token stage fits

pub all_found : (edition : SheetEdition) (tokens : List Token) → finished (steps (start edition) (closed tokens)) ≡ rules_in edition tokens
unfolding rules_in
all_found edition tokens =
    let top : Place = record {
      edition = edition;
      levels = part_limit;
      rules = [];
      anonymous = 0;
      outer = [];
      context = no_context;
    } in
    (claims (length (closed tokens) + 1) top no_rule (closed tokens) (omega arith) (omega arith) (closed_fits tokens)).all
