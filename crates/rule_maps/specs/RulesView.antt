-- The view of the selectors of rules.
pub use Rattle.selector_types.specs.View.{rules_seen}
