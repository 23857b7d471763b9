pub mod SheetTestLaws
pub mod MaskLaws
pub mod Passes
pub mod ContainmentLaws
pub mod EndsLaws
pub mod Past
