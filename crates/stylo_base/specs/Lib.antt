pub mod Ascii
pub mod DeviceView
pub mod KindName
pub mod NameKey
pub mod NameList
pub mod StateView
pub mod TextForm
