pub mod Shapes
pub mod TestFiles
pub mod Reading
pub mod ReadingTests
