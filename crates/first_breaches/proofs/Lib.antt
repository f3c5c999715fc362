pub mod FirstBreaches
