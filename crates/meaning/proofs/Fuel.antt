-- The recursions up the tree: their fuel cuts nothing off, so that a step up leaves them as they were. Assumes nothing.
use mathlib.Core.Path.{◌≡◌, refl, sym, ap, ◌∙◌}
use mathlib.Core.Bool.{Bool, true, false, cond}
use mathlib.Core.List.{List}
use Prim.Native.Nat.{ℕ, zero, suc, ◌+◌, ◌≤◌, ◌<◌, zero-le}
use native.Mathlib.Nat.{le_refl, le_trans, le_antisymm, not-suc-le-zero}
use native.Mathlib.Omega.{arith}
use lib.Dec.{eqb}
use Rattle.sets.proofs.Tests.{bool_ext, cond_same}
use Rattle.meaning.specs.Sheet.{n_of, parent, contains_in, contains, strictly_contains, meeting_from}
use Rattle.meaning.specs.Hierarchy.{completed_in, child_in}
use Rattle.meaning.specs.Promises.{ContainmentEnough, MeetingEnough, CompletionEnough, ChildEnough}
use Rattle.meaning.proofs.SheetLaws.{Rooted, parent-le, parent_n, parent-le_of_suc, sound, tree}
use Rattle.meaning.proofs.Containment.{within_of, of_within}
use Rattle.meaning.proofs.Completion.{comp_of, of_comp}

-- ---- containment and completion: the relation that each tests knows no fuel

pub containment_enough_lem : ContainmentEnough
unfolding ContainmentEnough contains
containment_enough_lem s h a m f l =
    let ro = tree s (sound s h) in
    bool_ext (contains_in s (m + f) a m) (contains_in s m a m)
    (λ e. of_within s ro m (within_of s ro (m + f) a m e) (le_refl m) l)
    (λ e. of_within s ro (m + f) (within_of s ro m a m e) (omega arith) l)

pub completion_enough_lem : CompletionEnough
unfolding CompletionEnough
completion_enough_lem s h x m f l =
    let sd = sound s h in
    bool_ext (completed_in s (m + f) x m) (completed_in s m x m)
    (λ k. of_comp s sd x m (comp_of s sd x (m + f) m k) (le_refl m) l)
    (λ k. of_comp s sd x (m + f) (comp_of s sd x m m k) (omega arith) l)

-- ---- the meeting mode and the child: any two fuels that reach the root agree

-- c f m: the first of m, its parent, .. that passes the test, or where f steps end
pub record Climbs (s : List ℕ) (test : ℕ → Bool) (c : ℕ → ℕ → ℕ) : Type 0 where
  pub stop : (m : ℕ) → c 0 m ≡ m
  pub step : (f m : ℕ) → c (suc f) m ≡ cond (test m) m (c f (parent s m))

pub meeting_climbs : (s : List ℕ) (b : ℕ) → Climbs s (λ p. strictly_contains s p b) (λ f p. meeting_from s f p b)
unfolding meeting_from
meeting_climbs s b = record { stop = λ p. refl; step = λ f p. refl }

pub child_climbs : (s : List ℕ) (p : ℕ) → Climbs s (λ m. eqb (parent s m) p) (λ f m. child_in s f p m)
unfolding child_in
child_climbs s p = record { stop = λ m. refl; step = λ f m. refl }

module _ {s : List ℕ} (ro : Rooted s) {test : ℕ → Bool} {c : ℕ → ℕ → ℕ} (cl : Climbs s test c) where
  climb_root : (f : ℕ) → c f 0 ≡ 0
  climb_root zero = cl.stop 0
  climb_root (suc f) = cl.step f 0 ∙ ap (cond (test 0) 0) (ap (c f) ro.root ∙ climb_root f) ∙ cond_same (test 0) 0

  pub climb_same : (f g m : ℕ) → m ≤ f → m ≤ g → m < n_of s → c f m ≡ c g m
  climb_same zero g m h k l =
      let z : m ≡ 0 = le_antisymm h zero-le in
      ap (c 0) z ∙ cl.stop 0 ∙ sym (ap (c g) z ∙ climb_root g)
  climb_same (suc f) zero m h k l =
      let z : m ≡ 0 = le_antisymm k zero-le in
      ap (c (suc f)) z ∙ climb_root (suc f) ∙ sym (ap (c 0) z ∙ cl.stop 0)
  climb_same (suc f) (suc g) m h k l =
      cl.step f m
      ∙ ap (cond (test m) m) (climb_same f g (parent s m) (parent-le_of_suc s ro f m h l) (parent-le_of_suc s ro g m k l) (parent_n s ro m l))
      ∙ sym (cl.step g m)

  -- it ends at a mode that passes; below one that does not it goes on from the parent
  pub climb_found : (f m : ℕ) → test m ≡ true → c f m ≡ m
  climb_found zero m e = cl.stop m
  climb_found (suc f) m e = cl.step f m ∙ ap (λ (b : Bool). cond b m (c f (parent s m))) e

  pub climb_step : (m : ℕ) → 0 < m → m < n_of s → test m ≡ false → c m m ≡ c (parent s m) (parent s m)
  climb_step zero h l e = absurd (not-suc-le-zero h)
  climb_step (suc m) h l e =
      cl.step m (suc m)
      ∙ ap (λ (b : Bool). cond b (suc m) (c m (parent s (suc m)))) e
      ∙ climb_same m (parent s (suc m)) (parent s (suc m)) (parent-le_of_suc s ro m (suc m) (le_refl (suc m)) l) (le_refl (parent s (suc m))) (parent_n s ro (suc m) l)

pub meeting_enough_lem : MeetingEnough
unfolding MeetingEnough
meeting_enough_lem s h a b f la lb =
    let ro = tree s (sound s h) in
    climb_same ro (meeting_climbs s b) (a + f) a (parent s a) (le_trans (parent-le s ro a la) (omega arith)) (parent-le s ro a la) (parent_n s ro a la)

pub child_enough_lem : ChildEnough
unfolding ChildEnough
child_enough_lem s h p m f l = climb_same (tree s (sound s h)) (child_climbs s p) (m + f) m m (omega arith) (le_refl m) l
