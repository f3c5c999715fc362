pub mod VectorBlocks
pub mod ByteRanges
pub mod Bytewise
pub mod Contents
pub mod MemoryWords
pub mod Ordering
pub mod WordsInSpans
