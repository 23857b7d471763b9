pub mod FrontPart
