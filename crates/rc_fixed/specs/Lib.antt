pub mod Decimal
pub mod Units
pub mod Numeral
pub mod Steps
pub mod Texts
pub mod Laws
