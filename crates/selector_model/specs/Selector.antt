-- Selectors as data (selectors-4).
use Rattle.std.specs.Prelude.{ℤ, Bool}
use Rattle.base_model.specs.Text.{Characters}
use Rattle.scene_model.specs.Element.{State}

-- how two compounds are related (selectors-4, section 15)
pub data Combinator : Type 0 where
  descendant : Combinator
  child : Combinator
  next_sibling : Combinator
  later_sibling : Combinator

-- how an attribute's value is compared: `=`, `~=`, `|=`, `^=`, `$=`, `*=` (selectors-4, section 6)
pub data AttributeOperator : Type 0 where
  equals : AttributeOperator
  includes : AttributeOperator
  dash_match : AttributeOperator
  prefix : AttributeOperator
  suffix : AttributeOperator
  substring : AttributeOperator

-- An+B: the indexes a * n + b, for n from 0 (css-syntax-3, section 6)
pub record AnB : Type 0 where
  pub a : ℤ
  pub b : ℤ

-- the indexes from the first or from the last, among all siblings or among those of the same type
pub record Nth : Type 0 where
  pub formula : AnB
  pub from_last : Bool
  pub of_type : Bool

-- A test of one element by itself, its attributes, its states or its index among its siblings.
pub data Simple : Type 0 where
  type_selector : Characters → Simple
  id_selector : Characters → Simple
  class_selector : Characters → Simple
  attribute_selector : Characters → Simple
  -- name, operator, value, and whether ASCII case counts
  attribute_compares : Characters → AttributeOperator → Characters → Bool → Simple
  root : Simple
  empty : Simple
  nth : Nth → Simple
  -- `:only-child`, or `:only-of-type`
  only : Bool → Simple
  in_state : State → Simple

-- A complex selector is its subject, with what is to the left of it: a combinator and a selector.
mutual
  pub data Selector : Type 0 where
    subject : Compound → Selector
    combined : Compound → Combinator → Selector → Selector

  -- the universal selector, or one more test
  pub data Compound : Type 0 where
    any : Compound
    with_test : Test → Compound → Compound

  pub data Test : Type 0 where
    simple : Simple → Test
    -- `:is`, `:where` and `:not`
    is_some : Selectors → Test
    where_some : Selectors → Test
    not_some : Selectors → Test

  -- the list of selectors in such a pseudo-class
  pub data Selectors : Type 0 where
    no_more : Selectors
    more : Selector → Selectors → Selectors
