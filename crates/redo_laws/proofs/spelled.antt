-- That what is lawful can be written.
pub mod SpelledRows
pub mod SpelledKinds
pub mod SpelledCleans
pub mod SpelledLaw
pub mod SoundLaw
