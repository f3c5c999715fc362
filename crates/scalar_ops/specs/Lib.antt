pub mod ResultFlags
