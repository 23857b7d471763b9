pub mod TimerLaws
pub mod NoteLaws
pub mod TableStateLaws
pub mod BlockPlaceLaws
pub mod RestartLaws
pub mod TableRunLaws
pub mod ContractLaws
