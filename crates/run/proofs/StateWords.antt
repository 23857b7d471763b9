-- A state as 97 lent words, put part by part. Assumes nothing.
use mathlib.Core.Path.{◌≡◌, refl, sym, ap, ap₂, ◌∙◌}
use mathlib.Core.List.{List, [], ◌∷◌, ◌++◌}
use Prim.Native.Nat.{ℕ, ◌+◌, ◌≤◌, ◌<◌}
use native.Mathlib.Omega.{arith}
use lib.ListN.{length, get_or, take, drop, set, length-drop}
use lib.Seq.{take_all, get_or-drop}
use borrow.Rule.Slice.PartMut.{put_mid}
use Rattle.std.proofs.lemmas.Slice.{put_mid-paste}
use Rattle.rows.specs.Over.{over}
use Rattle.rows.proofs.OverLaws.{over_sets, over_more, over_front}
use Rattle.meaning.specs.Lists.{overwritten}
use Rattle.run.proofs.ArrayLaws.{copy_turn}

-- words copied from a place on
pub copied_turn : (r words : List ℕ) (at t : ℕ) → t < length r → at + t < length words → take t r ≡ take t (drop at words)
    → take (t + 1) (set r t (get_or words (at + t) 0)) ≡ take (t + 1) (drop at words)
copied_turn r words at t h k e =
    rw (← get_or-drop at words t 0) (copy_turn r (drop at words) t h (omega (arith, length-drop at words)) e)

-- values copied to a place
pub put_over : (words : List ℕ) (at : ℕ) (values : List ℕ) (k : ℕ) → length values ≡ k → put_mid at k words values ≡ over words at values
unfolding over
put_over words at values k e =
    put_mid-paste at k words values values k refl refl (sym e) ∙ rw (take_all k values (omega arith), sym e)

-- the same at the front
pub put_front : (words values : List ℕ) (k : ℕ) → length values ≡ k → values ++ drop k words ≡ over words 0 values
put_front words values k e = rw (← e) (sym (over_front words values))

-- the words of a state: the first, and 64 readings and 32 ages copied
pub state_put : (words : List ℕ) (a : ℕ) (readings ages r g : List ℕ) → r ≡ readings → g ≡ ages → length readings ≡ 64 → length ages ≡ 32 → 97 ≤ length words
    → put_mid 65 32 (put_mid 1 64 (set words 0 a) r) g ≡ overwritten (a ∷ (readings ++ ages)) words
unfolding overwritten
state_put words a readings ages r g re ge rl al h =
    ap₂ (λ (x y : List ℕ). put_mid 65 32 (put_mid 1 64 (set words 0 a) x) y) re ge
    ∙ put_over (put_mid 1 64 (set words 0 a) readings) 65 ages 32 al
    ∙ ap (λ (l : List ℕ). over l 65 ages) (put_over (set words 0 a) 1 readings 64 rl)
    ∙ ap (λ (l : List ℕ). over (over l 1 readings) 65 ages) (over_sets words 0 (a ∷ []) (omega arith))
    ∙ ap (λ (l : List ℕ). over l 65 ages) (over_more words 0 (a ∷ []) (omega arith) readings 1 (omega arith))
    ∙ over_more words 0 (a ∷ readings) (omega arith) ages 65 (omega arith)
    ∙ over_front words (a ∷ (readings ++ ages))
