pub mod InGrammar
pub mod Counting
pub mod Texts
