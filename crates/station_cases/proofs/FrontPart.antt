-- The first elements of a row in memory, and the others: a row is cut, and made one again. It says nothing of the crate, and can be copied
-- as it stands.
--     past         the offset after n elements
--     cells_cut    a row gives its first n elements and the others
--     cells_glue   two rows, one after the other, give the row of both
-- Assumes `Logic`.
use Prim.Native.Nat.{ℕ, zero, suc, ◌+◌}
use mathlib.Core.List.{List, [], ◌∷◌, ◌++◌}
use lib.ListN.{length, take, drop}
use seplogic.Ra.Ura.{Ura}
use base.Logic.{SProp, ent, sep}
use base.Fml.{Fml, fsep}
use types.Logic.{Logic, sem}
use types.Kit.{‵, ◌⊛◌, ◌$◌, ◌∵◌, !, qed, move, keep, use1, use2, split, fsplit, fjoin, frame, done}
use types.SemTy.{SemTy, cells}
use denote.Steps.{nothing}

abbrev pub past : ℕ → ℕ → ℕ → ℕ
past size zero o = o
past size (suc n) o = past size n (o + size)

module _ {M : Type 1} {𝓤 : Ura M} (𝓛 : Logic 𝓤) (T : SemTy) where
  abbrev ⟦◌⟧ : Fml → SProp 𝓤
  ⟦ P ⟧ = sem 𝓛 P

  cut_none : (ys : List T.rep) (b o : ℕ) → ent 𝓤 ⟦ cells T ys b o ⟧ (sep 𝓤 ⟦ cells T [] b o ⟧ ⟦ cells T ys b o ⟧)
  cut_none ys b o = qed 𝓛 (‵ (cells T ys b o) ∷ []) ∵ nothing ! $ frame ! $ done !

  cut_step : (y : T.rep) (P Q R : Fml) (b o : ℕ) → ent 𝓤 ⟦ P ⟧ (sep 𝓤 ⟦ Q ⟧ ⟦ R ⟧)
      → ent 𝓤 ⟦ fsep (T.own_at y b o) P ⟧ (sep 𝓤 ⟦ fsep (T.own_at y b o) Q ⟧ ⟦ R ⟧)
  cut_step y P Q R b o h =
      qed 𝓛 (‵ (fsep (T.own_at y b o) P) ∷ []) ∵ fsplit ! $ move ! (1 ∷ []) $ use1 𝓛 (‵ Q ⊛ ‵ R) h $ split ! $
      move ! (2 ∷ 0 ∷ []) $ fjoin ! $ frame ! $ done !

  pub cells_cut : (n : ℕ) (ys : List T.rep) (b o : ℕ)
      → ent 𝓤 ⟦ cells T ys b o ⟧ (sep 𝓤 ⟦ cells T (take n ys) b o ⟧ ⟦ cells T (drop n ys) b (past T.size n o) ⟧)
  cells_cut zero ys b o = cut_none ys b o
  cells_cut (suc n) [] b o = cut_none [] b o
  cells_cut (suc n) (y ∷ ys) b o =
      cut_step y (cells T ys b (o + T.size)) (cells T (take n ys) b (o + T.size)) (cells T (drop n ys) b (past T.size n (o + T.size))) b o
      (cells_cut n ys b (o + T.size))

  glue_none : (ws : List T.rep) (b o : ℕ) → ent 𝓤 (sep 𝓤 ⟦ cells T [] b o ⟧ ⟦ cells T ws b o ⟧) ⟦ cells T ws b o ⟧
  glue_none ws b o = qed 𝓛 (‵ (cells T [] b o) ∷ ‵ (cells T ws b o) ∷ []) ∵ keep ! (1 ∷ []) $ done !

  glue_step : (z : T.rep) (P Q R : Fml) (b o : ℕ) → ent 𝓤 (sep 𝓤 ⟦ P ⟧ ⟦ Q ⟧) ⟦ R ⟧
      → ent 𝓤 (sep 𝓤 ⟦ fsep (T.own_at z b o) P ⟧ ⟦ Q ⟧) ⟦ fsep (T.own_at z b o) R ⟧
  glue_step z P Q R b o h =
      qed 𝓛 (‵ (fsep (T.own_at z b o) P) ∷ ‵ Q ∷ []) ∵ fsplit ! $ move ! (1 ∷ 2 ∷ []) $ use2 𝓛 (‵ R) h $ move ! (1 ∷ 0 ∷ []) $ fjoin ! $ done !

  pub cells_glue : (zs ws : List T.rep) (b o : ℕ)
      → ent 𝓤 (sep 𝓤 ⟦ cells T zs b o ⟧ ⟦ cells T ws b (past T.size (length zs) o) ⟧) ⟦ cells T (zs ++ ws) b o ⟧
  cells_glue [] ws b o = glue_none ws b o
  cells_glue (z ∷ zs) ws b o =
      glue_step z (cells T zs b (o + T.size)) (cells T ws b (past T.size (length zs) (o + T.size))) (cells T (zs ++ ws) b (o + T.size)) b o
      (cells_glue zs ws b (o + T.size))
