-- The types and the words of this crate, for the crates above and for proofs: import them from here. Declares nothing.
pub use Rattle.bitmap_block.specs.declared.first_level.L1.{L1}
pub use Rattle.bitmap_block.specs.declared.upper_level.UpperLevel.{UpperLevel}
pub use Rattle.bitmap_block.specs.Codes.{GREATEST_CODE, LEAST_GOOD_CODE, CODES_OF_L1, MAP_HEAD_SIZE, good_code, best_of, AreCodes, HasCodes, codes_in}
pub use Rattle.bitmap_block.specs.Pages.{ExtentMap, Summary, front_of_map, front_of_summary, IsMap, IsSummary}
unfoldable pub use Rattle.bitmap_block.specs.Pages.{spelling_of_map, spelling_of_summary, map_in, summary_in}
