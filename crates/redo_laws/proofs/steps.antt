-- What a step, a taking back, a formatting and a Clean do to a slot, and who lies on top of it.
pub mod Adding
pub mod OnTop
pub mod Facts
pub mod Held
pub mod Beyond
pub mod After
pub mod ImageFacts
pub mod NewImages
