-- The words of this crate, for the crates above: import them from here. Declares nothing.
pub use Rattle.checkpoint_block.specs.Points.{first_point, point_on, is_own_page, page_of_point, spelled_point, HasNumbers, IsSaid, with_point, PointOrNot, HasPoint}
unfoldable pub use Rattle.checkpoint_block.specs.Points.{point_of}
