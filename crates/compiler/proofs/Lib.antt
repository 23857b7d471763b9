pub mod RowAfterRowLaws
pub mod WalkSteps
pub mod DoneLaws
pub mod TakenLaws
pub mod CellRowLaws
pub mod FillLaws
pub mod CompileLaws
pub mod ContractLaws
