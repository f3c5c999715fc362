pub mod VectorMnemonics
pub mod Mnemonics
