pub mod Mapping
pub mod Renewing
