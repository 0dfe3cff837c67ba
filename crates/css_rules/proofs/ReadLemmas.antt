-- One token more.
use Rattle.std.proofs.Common.{◌≡◌, Bool, true, false, List, [], ◌∷◌, ◌++◌, refl, sym, ap, subst, ◌∙◌, ⊎_elim, append-nil}
use Rattle.std.proofs.lemmas.Bool.{cases_Bool}
use Rattle.base_model.specs.Lists.{is_nil}
use Rattle.syntax_model.specs.Token.{Token}
use Rattle.syntax_model.specs.TokenKinds.{is_at_keyword, is_open_curly}
use Rattle.syntax_model.specs.Brackets.{Bracket, curly, open_past}
use Rattle.syntax_model.specs.Rules.{Head, Piece, qualified_head, at_head}
use Rattle.syntax_model.specs.RulesIn.{is_between_rules, is_last, pieces_in, without_block}
use Rattle.syntax_model.specs.SheetRules.{RulesFound, found, qualified_found}
use Rattle.css_rules.specs.Walk.{Walk, head_named, step, steps}
use Rattle.css_rules.proofs.BlockLemmas.{Fits}
use Rattle.css_rules.proofs.WalkLemmas.{Place, after, close_is_not_last, ended_at, found_at, head_of, statement, between_opens_none, keyword_opens_none, last_opens_none, opens_curly}
use Rattle.css_rules.proofs.WalkLemmas.{none_kept, one_kept, same_last}
use Rattle.css_rules.proofs.RunLemmas.{DropsBlock, Fit, Holds, Known, Reads, Stage, before_block, in_dropped, in_kept, no_rule}
use Rattle.css_rules.proofs.RunLemmas.{after_none, between_at, found_next, from_end, from_stage, open_in, pieces_of, walk_in}
use Rattle.css_rules.proofs.EnterLemmas.{opens}

-- the end
last_statement : (at : Place) (head : Head) (prelude : List Token) → found_at at (without_block head prelude) ≡ ended_at at head prelude
last_statement at head prelude =
    ap (found_at at) (sym (append-nil (without_block head prelude)))
    ∙ (statement at head prelude []
    ∙ ap (λ rules. found rules at.anonymous) (append-nil (ended_at at head prelude).rules))

pub reads_none : {at : Place} (stage : Stage at) → Reads stage []
reads_none {at} no_rule fits =
    rw (after_none at) (record { all = refl; leaves = λ above others token is closes. rw (is, closes) })
reads_none {at} (before_block head prelude pending) fits =
    let no_last = close_is_not_last (head_of head) in
    rw (fits, last_statement at head prelude)
    (record { all = refl; leaves = λ above others token is closes. rw (no_last token.kind closes, is, closes) })
reads_none (in_kept prelude block bracket pending) fits = cc
reads_none (in_dropped rule block bracket pending) fits = cc

module _ {at : Place} {tokens : List Token} (known : Known at tokens) (token : Token) where
  abbrev top : Bool
  top = is_nil at.outer

  module _ (stage : Stage at) (fits : Fit stage (token ∷ tokens)) where
    abbrev passed : Walk
    passed = step (walk_in stage) token

    abbrev pieces : List Piece
    pieces = pieces_of stage (token ∷ tokens)

    abbrev opened : List Bracket
    opened = open_past (open_in stage) token

    -- the token leads to a stage
    leads : (next : Stage at) → passed ≡ walk_in next → pieces ≡ pieces_of next tokens → opened ≡ open_in next → Holds at (steps passed tokens) pieces
    leads next is same opens = rw (is, same) (from_stage known next (subst (λ p. Fits top p tokens) opens fits.1))

    -- or it ends the rule
    ends : (first : RulesFound) → passed ≡ between_at (after at first) → found_at at pieces ≡ found_next at first tokens → opened ≡ [] → Holds at (steps passed tokens) pieces
    ends first is gives opens = rw is (from_end known first pieces gives (subst (λ p. Fits top p tokens) opens fits.1))

  abbrev Goal : Stage at → Type 0
  Goal stage = Holds at (steps (walk_in stage) (token ∷ tokens)) (pieces_of stage (token ∷ tokens))

  -- between rules
  module _ (fits : Fits top [] (token ∷ tokens)) where
    skipped : is_between_rules top token.kind ≡ true → Goal no_rule
    skipped test = leads no_rule fits no_rule (rw (fits.0, test)) (rw test) (between_opens_none top token.kind test)

    module _ (other : is_between_rules top token.kind ≡ false) where
      keyword : is_at_keyword token.kind ≡ true → Goal no_rule
      keyword test =
          let none = none_kept (head_named token.name) in
          leads no_rule fits (before_block (at_head token.name) [] []) (rw (fits.0, other, test, none)) (rw (other, test)) (keyword_opens_none token.kind test)

      module _ (none : is_at_keyword token.kind ≡ false) where
        no_prelude : is_open_curly token.kind ≡ true → Goal no_rule
        no_prelude test =
            let open_one = opens_curly token.kind test in
            leads no_rule fits (in_kept [] [] curly []) (rw (fits.0, other, none, test, open_one)) (rw (other, none, test)) open_one

        begins : is_open_curly token.kind ≡ false → Goal no_rule
        begins test =
            let next : Stage at = before_block qualified_head (token ∷ []) (open_past [] token) in
            leads no_rule fits next (rw (fits.0, other, none, test)) (rw (other, none, test)) refl

      no_keyword : is_at_keyword token.kind ≡ false → Goal no_rule
      no_keyword none = ⊎_elim (no_prelude none) (begins none) (cases_Bool (is_open_curly token.kind))

    rule_more : is_between_rules top token.kind ≡ false → Goal no_rule
    rule_more other = ⊎_elim (keyword other) (no_keyword other) (cases_Bool (is_at_keyword token.kind))

  -- before a block
  module _ (head : Head) (prelude : List Token) where
    abbrev here : List Bracket → Stage at
    here pending = before_block head prelude pending

    abbrev longer : List Bracket → Stage at
    longer pending = before_block head (prelude ++ token ∷ []) (open_past pending token)

    module _ (fits : Fits top [] (token ∷ tokens)) where
      statement_ends : is_last head token.kind ≡ true → Goal (here [])
      statement_ends test =
          let gives = statement at head prelude (pieces_in top tokens) in
          ends (here []) fits (ended_at at head prelude) (rw (same_last head token.kind, test)) (rw test gives) (last_opens_none head token.kind test)

      module _ (on : is_last head token.kind ≡ false) where
        block_opens : is_open_curly token.kind ≡ true → Goal (here [])
        block_opens test =
            let open_one = opens_curly token.kind test in
            rw (same_last head token.kind, on, fits.0, test)
            (opens known (subst (λ p. Fits top p tokens) open_one fits.1) token open_one head prelude)

        goes_on : is_open_curly token.kind ≡ false → Goal (here [])
        goes_on test =
            let kept = one_kept (head_of head) prelude token in
            leads (here []) fits (longer []) (rw (same_last head token.kind, on, fits.0, test, kept)) (rw (on, test)) refl

      no_end : is_last head token.kind ≡ false → Goal (here [])
      no_end on = ⊎_elim (block_opens on) (goes_on on) (cases_Bool (is_open_curly token.kind))

    prelude_more : (pending : List Bracket) → Fits top pending (token ∷ tokens) → Goal (here pending)
    prelude_more [] fits = ⊎_elim (statement_ends fits) (no_end fits) (cases_Bool (is_last head token.kind))
    prelude_more (bracket ∷ pending) fits =
        leads (here (bracket ∷ pending)) fits (longer (bracket ∷ pending)) (rw (fits.0, one_kept (head_of head) prelude token)) refl refl

  -- in a block, by the brackets that are open then
  module _ (block : List Token) (bracket : Bracket) (pending : List Bracket) (fits : Fits top (bracket ∷ pending) (token ∷ tokens)) where
    kept_more : (prelude : List Token) (next : List Bracket) → open_past (bracket ∷ pending) token ≡ next → Goal (in_kept prelude block bracket pending)
    kept_more prelude [] is =
        ends (in_kept prelude block bracket pending) fits (found (qualified_found at.context prelude block) at.anonymous) (rw is) (rw is) is
    kept_more prelude (inner ∷ next) is =
        leads (in_kept prelude block bracket pending) fits (in_kept prelude (block ++ token ∷ []) inner next) (rw is) (rw is) is

    dropped_more : (rule : DropsBlock at) (next : List Bracket) → open_past (bracket ∷ pending) token ≡ next → Goal (in_dropped rule block bracket pending)
    dropped_more rule [] is =
        ends (in_dropped rule block bracket pending) fits (found [] rule.anonymous) (rw (is, append-nil)) (rw (is, rule.gives_none block)) is
    dropped_more rule (inner ∷ next) is =
        leads (in_dropped rule block bracket pending) fits (in_dropped rule (block ++ token ∷ []) inner next) (rw is) (rw is) is

  pub reads_more : (stage : Stage at) → Reads stage (token ∷ tokens)
  reads_more no_rule fits = ⊎_elim (skipped fits) (rule_more fits) (cases_Bool (is_between_rules top token.kind))
  reads_more (before_block head prelude pending) fits = prelude_more head prelude pending fits
  reads_more (in_kept prelude block bracket pending) fits = kept_more block bracket pending fits prelude _ refl
  reads_more (in_dropped rule block bracket pending) fits = dropped_more block bracket pending fits rule _ refl
