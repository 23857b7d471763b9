pub mod DelayLaws
pub mod LiveLaws
pub mod NumbersLoop
pub mod SheetStateLaws
pub mod SheetRunLaws
pub mod WhyLaws
