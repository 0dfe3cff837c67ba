pub mod View
pub mod ValueParts
pub mod PropertySet
