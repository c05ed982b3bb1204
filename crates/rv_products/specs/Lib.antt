pub mod Products
pub mod Quotients
