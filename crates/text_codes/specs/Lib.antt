pub mod Codes
pub mod Readers
pub mod Lists
pub mod Numbers
pub mod Endings
pub mod Stops
pub mod Names
pub mod Laws
