-- From 'allowed', kind by kind, to one shape that all row records share.
pub mod Basics
pub mod Shapes
pub mod AllKinds
pub mod FewParts
