pub mod LikeLaw
pub mod HeadLaw
pub mod NeedLaw
