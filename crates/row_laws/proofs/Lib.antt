pub mod PlaceLaw
