-- The words of an array: a word stored, and a transition added to one of them. Assumes nothing.
use mathlib.Core.Path.{◌≡◌, sym, ap, ap₂, ◌∙◌}
use mathlib.Core.Bool.{Bool, true, false}
use mathlib.Core.List.{List}
use Prim.Native.Nat.{ℕ, ◌+◌, ◌<◌}
use lib.ListN.{length, get_or, set, replicate}
use Rattle.sets.specs.Sets.{union, single, set_of}
use Rattle.sets.proofs.Loops.{get_or_zeros, set_word, set_of_none}
use Rattle.sets.proofs.Membership.{set_of-add, set_of_skip}
use Rattle.planner.specs.Parts.{Words}

-- an array of zeros
pub zero_words : (n : ℕ) (f : ℕ → ℕ) {l : List ℕ} → l ≡ replicate n 0 → ((i : ℕ) → f i ≡ 0) → Words l n f
zero_words n f e z i k = ap (λ (l : List ℕ). get_or l i 0) e ∙ get_or_zeros n i ∙ sym (z i)

-- word k is stored, and the others are the same by both rules
pub word_stored : (f g : ℕ → ℕ) (l : List ℕ) (n k : ℕ) {v : ℕ} → k < length l → v ≡ g k → ((i : ℕ) → (i ≡ k → ⊥) → f i ≡ g i) → Words l n f → Words (set l k v) n g
word_stored f g l n k {v} room e same w i b = set_word l k v i room (λ q. e ∙ ap g (sym q)) (λ q. w i b ∙ same i q)

-- the words of the transitions below t, by a test of word and transition: t is added to word k, the one that it passes
module _ (p : ℕ → ℕ → Bool) where
  abbrev pub below_words : ℕ → ℕ → ℕ
  below_words t i = set_of t (p i)

  pub below_none : (n : ℕ) {l : List ℕ} → l ≡ replicate n 0 → Words l n (below_words 0)
  below_none n e = zero_words n (below_words 0) e (λ i. sym (set_of_none (p i)))

  pub below_added : (l : List ℕ) (n t k : ℕ) {x : ℕ} → k < length l → k < n → x ≡ single t → p k t ≡ true → ((i : ℕ) → (i ≡ k → ⊥) → p i t ≡ false)
      → Words l n (below_words t) → Words (set l k (union (get_or l k 0) x)) n (below_words (t + 1))
  below_added l n t k room b e here away w =
      word_stored (below_words t) (below_words (t + 1)) l n k room (ap₂ union (w k b) e ∙ set_of-add t (p k) here) (λ i q. set_of_skip t (p i) (away i q)) w
