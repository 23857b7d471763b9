pub mod WordLaws
pub mod SourceLaws
pub mod LookLaws
pub mod NextLaws
pub mod WokenLaws
pub mod ConflictLaws
pub mod ClassLaws
pub mod HitLaws
