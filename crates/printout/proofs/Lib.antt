pub mod AnswerLaws
pub mod TextLaws
pub mod Promised
