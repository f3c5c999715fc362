pub mod ReadEnvironment
