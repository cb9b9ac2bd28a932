pub mod Letters
pub mod Pair
pub mod Serial
pub mod Id
pub mod TextFault
