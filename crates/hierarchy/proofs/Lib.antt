pub mod Gather
pub mod BelowLaws
pub mod TransitionLaws
pub mod ConsistentLaws
pub mod UnionLaws
