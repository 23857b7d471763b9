-- Laws of the conversion's three functions.
pub mod ConversionLaws
