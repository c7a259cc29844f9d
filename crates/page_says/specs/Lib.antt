pub mod Space
pub mod Levels
pub mod LevelsWorked
pub mod LevelBests
pub mod Named
pub mod TwoTables
pub mod SpelledPages
