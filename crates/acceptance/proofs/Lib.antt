pub mod CellLaws
pub mod RowLaws
pub mod MaskLaws
pub mod WordLaws
pub mod HeadLaws
pub mod AcceptLaws
pub mod ContractLaws
