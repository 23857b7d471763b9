-- A mode that a tick does not exit stays and is not entered. Assumes nothing.
use mathlib.Core.Path.{◌≡◌, refl, sym, ap, ◌∙◌, subst}
use mathlib.Core.Logic.{◌⊎◌, inl, inr}
use mathlib.Core.Bool.{Bool, true, false, not, ◌&&◌}
use mathlib.Core.List.{List}
use Prim.Native.Nat.{ℕ, suc, ◌<◌}
use native.Mathlib.Nat.{lt_of_le_of_lt}
use lib.Dec.{T}
use Rattle.sets.specs.Sets.{has}
use Rattle.sets.proofs.Tests.{is_false, of_true, and_i, or_l, or_r}
use Rattle.sets.proofs.Membership.{has_none}
use Rattle.meaning.specs.Sheet.{n_of, t_of, kind, source}
use Rattle.meaning.specs.Hierarchy.{consistent, enters}
use Rattle.meaning.specs.Reaction.{TickSets, exiting, entering, after_round}
use Rattle.meaning.specs.Tick.{begin, chosen, tick}
use Rattle.meaning.proofs.SheetLaws.{Sound, tree}
use Rattle.meaning.proofs.Containment.{within_le, Ends, ends}
use Rattle.meaning.proofs.TickLaws.{Taken, rounds_ind, chosen_lt, modes_after, entered_after, exited_after, begin_by}
use Rattle.meaning.proofs.Consistency.{Cons, cons_e, cons_above, cons_after, exit_top, enter_top, enters_whole, enters_lt, entering_e, chosen_on, clear_apart}

-- the mode m has been exited, or it is in the set and has not been entered
abbrev pub ExitedOrStays : ℕ → TickSets → Type 0
ExitedOrStays m z = T (has z.exited m) ⊎ (T (has z.modes m) × (has z.entered m ≡ false))

module _ (s : List ℕ) (sd : Sound s) where
  -- ---- a round enters no mode that is in the set as it begins

  -- the child of its meeting mode that t enters is not in a set that has its source, since the child that t exits is
  enters_new : (x t m : ℕ) → Cons s x → t < t_of s → T (has x (source s t)) → T (has (enters s t) m) → T (has x m) → ⊥
  enters_new x t m c l on h k =
      E.distinct
      (c.lone (exit_top s t) (enter_top s t) out_n in_n E.left.pos E.right.pos (E.left.par ∙ sym E.right.par) (ap (kind s) E.left.par ∙ E.serial) out_on in_on)
    where
      E : Ends s t
      E = ends s sd t l

      small : m < n_of s
      small = enters_lt s sd t m h

      out_n : exit_top s t < n_of s
      out_n = lt_of_le_of_lt (within_le s (tree s sd) E.left.holds E.source_n) E.source_n

      in_n : enter_top s t < n_of s
      in_n = lt_of_le_of_lt (within_le s (tree s sd) E.right.holds E.target_n) E.target_n

      out_on : T (has x (exit_top s t))
      out_on = cons_above s sd c E.left.holds E.source_n on

      in_on : T (has x (enter_top s t))
      in_on = cons_above s sd c ((enters_whole s sd t l).below m small h) small k

  module _ (d i : ℕ) where
    entering_new : (z : TickSets) (m : ℕ) → Cons s z.modes → T (has z.modes m) → has (entering s (chosen s d i z)) m ≡ false
    entering_new z m c k =
        is_false (has (entering s (chosen s d i z)) m) (λ h.
        let r = entering_e s sd (chosen s d i z) m h in
        enters_new z.modes r.0 m c r.1 (chosen_on s sd z d i r.0 r.2) r.3 k)

    -- ---- round by round

    module _ (m : ℕ) where
      Stays : TickSets → ℕ → Type 0
      Stays z r = Cons s z.modes × ExitedOrStays m z

      stays_step : (z : TickSets) (r : ℕ) → Stays z r → Taken s d i z → Stays (after_round s z (chosen s d i z)) (suc r)
      unfolding Stays
      stays_step z r p taken =
          (cons_after s sd es (chosen_lt s d i z) (clear_apart s sd es (chosen_lt s d i z) taken.clear) z p.0 (chosen_on s sd z d i), go p.1)
        where
          es : ℕ
          es = chosen s d i z

          z' : TickSets
          z' = after_round s z es

          go : ExitedOrStays m z → ExitedOrStays m z'
          go (inl k) = inl (subst T (sym (exited_after s z es m)) (or_l (has z.exited m) (has (exiting s z es) m) k))
          go (inr k) = by (has (exiting s z es) m) refl
            where
              by : (b : Bool) → has (exiting s z es) m ≡ b → ExitedOrStays m z'
              by true e = inl (subst T (sym (exited_after s z es m)) (or_r (has z.exited m) (has (exiting s z es) m) (of_true e)))
              by false e =
                  inr (
                    subst T (sym (modes_after s z es m))
                        (or_l (has z.modes m && not (has (exiting s z es) m)) (has (entering s es) m)
                        (and_i (has z.modes m) (not (has (exiting s z es) m)) k.0 (subst (λ (b : Bool). T (not b)) (sym e) tt))),
                    entered_after s z es m ∙ rw k.1 (entering_new z m p.0 k.0),
                  )

    -- a mode of a consistent set is exited in the tick, or it is there at its end and was not entered
    pub exited_or_stays : (x : ℕ) → T (consistent s x) → (m : ℕ) → T (has x m) → ExitedOrStays m (tick s x d i).sets
    unfolding tick Stays
    exited_or_stays x c m h =
        (rounds_ind s d i (Stays m) (stays_step m) (suc (t_of s)) (begin s x) 0
        (begin_by s (λ z. Cons s z.modes × ExitedOrStays m z) x
        (λ e. absurd (subst T (ap (λ (v : ℕ). has v m) e ∙ has_none m) h)) (λ _. (cons_e s sd x c, inr (h, has_none m))))).1
