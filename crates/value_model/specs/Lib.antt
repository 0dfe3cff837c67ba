pub mod Color
pub mod Value
pub mod Table
pub mod Shorthand
pub mod Style
pub mod HexColor
pub mod Printed
