-- The loop over the rounds of a tick, for what is reported of transition t: what is left of the rounds reports what all do. `taken`: some
-- round of the tick takes t. Assumes nothing.
use mathlib.Core.Path.{◌≡◌, refl, sym, ap, ap₂, ◌∙◌}
use mathlib.Core.Bool.{Bool, true, false, not, ◌&&◌, cond}
use mathlib.Core.List.{List}
use Prim.Native.Nat.{ℕ, zero, suc, ◌+◌, ◌-◌, ◌^◌, ◌≤◌, ◌<◌}
use native.Mathlib.Nat.{sub-zero}
use native.Mathlib.Numerals.{add-one}
use native.Mathlib.Omega.{arith}
use lib.Dec.{ltb}
use Rattle.sets.specs.Sets.{has, union, meet, lowest, those}
use Rattle.meaning.specs.Sheet.{k_of, t_of, source}
use Rattle.meaning.specs.Check.{sheet_refusal}
use Rattle.meaning.specs.Reaction.{TickSets, alternative, triggered, eligible, after_round}
use Rattle.meaning.specs.Tick.{Tick}
use Rattle.meaning.specs.Why.{Report, never_triggered, gave_way_to, taken_in, ahead_of}
use Rattle.reaction.specs.Plan.{hits_of, mixed}
use Rattle.reaction.specs.Causes.{cause}
use Rattle.reaction.specs.Rounds.{sets_of, first_sets, after_ends, RoundOf, Begun}
use Rattle.reaction.specs.Reasons.{rounds_report}
use Rattle.reaction.specs.declared.tick.Sets.{Sets}
use Rattle.reaction.specs.declared.tick.Round.{Round}
use Rattle.reaction.proofs.RoundLoop.{all, Left, left_start}
use Rattle.reaction.proofs.RoundsLeft.{Over, Goes, rounds_still, fuel, goes, left_next, next_sets, next_triggers}

module _ (s : List ℕ) (taken : Bool) (t i : ℕ) where
  -- no round is taken
  report_none : (f : ℕ) (z : TickSets) (ts r : ℕ) → Over s i f z ts → rounds_report s taken f i z ts r t ≡ never_triggered
  unfolding rounds_report
  report_none zero z ts r e = refl
  report_none (suc f) z ts r e = rw e

  -- what a round that takes es of the triggered transitions ts reports; and else what the later ones do
  abbrev here : TickSets → ℕ → ℕ → ℕ → Report → Report
  here z ts es r later =
      cond (has es t) (taken_in (suc r) (cause s i z t)) (cond (not taken && has ts t) (gave_way_to (lowest (t_of s) (ahead_of s ts t))) later)

  report_goes : {f : ℕ} {z : TickSets} {ts r : ℕ} → Goes s i f z ts r
      → let next = after_round s z (eligible s ts) in
      rounds_report s taken (suc f) i z ts r t ≡ here z ts (eligible s ts) r (rounds_report s taken f i next (triggered s 0 i next) (suc r) t)
  unfolding rounds_report
  report_goes k = rw (k.filled, k.clear, k.fresh)

  module _ (begun entered first : ℕ) where
    abbrev pub whole : Report
    whole = rounds_report s taken (suc (t_of s)) i (sets_of begun (first_sets begun entered)) first 0 t

    -- after r rounds, with the sets z and the triggered transitions ts
    pub record Asked (z : Sets) (ts r : ℕ) : Type 0 where
      pub left : Left s begun entered first i z ts r
      pub later : rounds_report s taken (suc (t_of s) - r) i (sets_of begun z) ts r t ≡ whole

    pub asked_start : entered < 2 ^ 32 → Begun s begun entered first i → Asked (first_sets begun entered) first 0
    asked_start b h = record { left = left_start s begun entered first i b h; later = simp sub-zero }

module _ {s : List ℕ} {taken : Bool} {t i begun entered first : ℕ} {z : Sets} {ts r : ℕ} (n : Asked s taken t i begun entered first z ts r) where
  -- none is left
  pub asked_done : (all s begun entered first i).rounds ≤ r → never_triggered ≡ whole s taken t i begun entered first
  asked_done g =
      sym (report_none s taken t i (suc (t_of s) - r) (sets_of begun z) ts r
      (rounds_still s i (suc (t_of s) - r) (sets_of begun z) ts r (omega (arith, g, ap (λ (o : Tick). o.rounds) n.left.same))).over)
      ∙ n.later

  -- one more is taken
  module _ (g : r < (all s begun entered first i).rounds) {o : Round} (c : RoundOf s ts o) where
    abbrev es : ℕ
    es = o.chosen

    next : TickSets
    next = after_round s (sets_of begun z) es

    after : Report
    after = rounds_report s taken (t_of s - r) i next (triggered s 0 i next) (suc r) t

    round_reports : here s taken t i (sets_of begun z) ts es r after ≡ whole s taken t i begun entered first
    unfolding next after
    round_reports =
        ap (λ (x : ℕ). let y = after_round s (sets_of begun z) x in
        here s taken t i (sets_of begun z) ts x r (rounds_report s taken (t_of s - r) i y (triggered s 0 i y) (suc r) t)) c.chosen
        ∙ sym (report_goes s taken t i (goes n.left g))
        ∙ ap (λ (f : ℕ). rounds_report s taken f i (sets_of begun z) ts r t) (sym (fuel n.left g))
        ∙ n.later

    pub round_takes : has es t ≡ true → taken_in (r + 1) (cause s i (sets_of begun z) t) ≡ whole s taken t i begun entered first
    round_takes e = rw (add-one r) (rw e at round_reports)

    module _ (out : has es t ≡ false) where
      pub round_gives_way : (not taken && has ts t) ≡ true → gave_way_to (lowest (t_of s) (ahead_of s ts t)) ≡ whole s taken t i begun entered first
      round_gives_way q = rw (out, q) at round_reports

      -- it reports nothing
      pub round_passes : (not taken && has ts t) ≡ false → sheet_refusal s ≡ 0 → i < 2 ^ k_of s → {ts' hits unsure : ℕ} {y : Sets} → hits ≡ hits_of s i
          → unsure ≡ mixed s → y ≡ after_ends z o.moves.ends es
          → ts' ≡ union (meet o.moves.next hits) (those 64 (meet o.moves.next unsure) (λ u.
          has y.modes (source s u) && ltb 0 (alternative s i (sets_of begun y) u)))
          → Asked s taken t i begun entered first y ts' (r + 1)
      unfolding next after
      round_passes q h v {ts'} {y = y} a m e d =
          let f : suc (t_of s) - (r + 1) ≡ t_of s - r = omega arith in
          record {
            left = left_next n.left g c h v a m e d;
            later =
                ap (λ (x : ℕ). rounds_report s taken x i (sets_of begun y) ts' (r + 1) t) f
                ∙ ap₂ (λ (u : TickSets) (x : ℕ). rounds_report s taken (t_of s - r) i u x (r + 1) t) (next_sets n.left g c h v a m e d)
                (next_triggers n.left g c h v a m e d)
                ∙ ap (λ (x : ℕ). rounds_report s taken (t_of s - r) i next (triggered s 0 i next) x t) (add-one r)
                ∙ (rw (out, q) at round_reports);
          }
