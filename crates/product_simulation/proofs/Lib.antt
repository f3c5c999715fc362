pub mod Answering
pub mod Composing
pub mod Ends
pub mod ExampleRuns
pub mod Moving
pub mod Simulating
