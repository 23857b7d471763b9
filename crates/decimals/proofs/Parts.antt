-- A text read in parts is the text read whole. Assumes nothing.
use mathlib.Core.Path.{refl}
use mathlib.Core.List.{[], ◌∷◌}
use Rattle.decimals.specs.Reading.{with_byte, with_text}
use Rattle.decimals.specs.Promises.{TextParts}

pub text_parts_lem : TextParts
unfolding TextParts with_text
text_parts_lem x [] b = refl
text_parts_lem x (y ∷ a) b = text_parts_lem (with_byte x y) a b
