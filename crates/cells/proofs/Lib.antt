pub mod SearchLaws
pub mod IndexLaws
pub mod NextDueLaws
pub mod BlockTimerLaws
pub mod AlikeLaws
pub mod TimerWordLaws
pub mod WordRowLaws
