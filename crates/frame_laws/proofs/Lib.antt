pub mod FewBlocks
pub mod SoFar
