-- What a tick of a sheet reports of a transition, from the state's readings as deadlines: due are those at 1. Assumes nothing.
use mathlib.Core.Path.{◌≡◌, refl, sym, ap, ◌∙◌}
use mathlib.Core.Bool.{true, false}
use mathlib.Core.List.{List}
use Prim.Native.Nat.{ℕ, zero, suc, ◌-◌, ◌^◌, ◌≤◌, ◌<◌}
use native.Mathlib.Omega.{arith}
use lib.Dec.{eqb}
use lib.ListN.{get_or}
use borrow.Author.Tests.{ne_eqb, lt-leb}
use Rattle.sets.specs.Sets.{those}
use Rattle.sets.proofs.Tests.{of_true}
use Rattle.sets.proofs.Membership.{those_same}
use Rattle.meaning.specs.Sheet.{k_of, t_of}
use Rattle.meaning.specs.Check.{sheet_refusal}
use Rattle.meaning.specs.Reaction.{delay, running, triggered}
use Rattle.meaning.specs.Tick.{Tick, tick}
use Rattle.meaning.specs.Run.{State, reading, due_timers, input_foreign}
use Rattle.meaning.specs.SheetRun.{state_ok}
use Rattle.meaning.specs.Why.{Report, refused, reason, why}
use Rattle.meaning.proofs.WhyLaws.{refused_tick, tick_reports}
use Rattle.reaction.specs.Rounds.{start_sets, rounds_by, StartOf, Before}
use Rattle.reaction.specs.Reasons.{reason_by}
use Rattle.reaction.specs.declared.tick.Start.{Start}
use Rattle.reaction.proofs.StartLaws.{tick_by}
use Rattle.reaction.proofs.ReasonLaws.{reason_by_lem}
use Rattle.run.proofs.DeadlineLaws.{start_within}
use Rattle.simulator.proofs.SheetRunLaws.{begins_by}
use Rattle.simulator.proofs.SheetStateLaws.{admitted, admitted_known}

-- a reading that is not 0 is lowered to 0 exactly if it is 1
lowered : (n : ℕ) → 1 ≤ n → eqb n 1 ≡ eqb (n - 1) 0
lowered zero h = absurd (omega arith)
lowered (suc zero) h = refl
lowered (suc (suc n)) h = ne_eqb (suc (suc n)) 1 (λ e. omega arith) ∙ sym (ne_eqb (suc (suc n) - 1) 0 (λ e. omega arith))

module _ (s : List ℕ) (h : sheet_refusal s ≡ 0) (q : State) (ok : state_ok s q ≡ true) {ends : List ℕ} {timers d : ℕ} (ee : ends ≡ q.readings)
    (te : timers ≡ running s q.at) (de : d ≡ those 64 timers (λ t. eqb (get_or ends t 0) 1)) where
  due_is : d ≡ due_timers (running s q.at) q.readings
  unfolding due_timers reading
  due_is =
      de
      ∙ rw (ee, te) (those_same 64 (running s q.at) (λ t. eqb (get_or q.readings t 0) 1) (λ t. eqb (get_or q.readings t 0 - 1) 0)
      (λ t l m. lowered (get_or q.readings t 0) (start_within (running s q.at) (delay s) q (admitted s q ok) t l (of_true m)).0))

  pub begins : {b : Start} → StartOf s q.at b → Before s b d
  begins = begins_by s (admitted_known s q ok) q.readings due_is

  -- of transition t, with the input i, from what is triggered first
  module _ {i t : ℕ} (v : i < 2 ^ k_of s) (l : t < t_of s) {b : Start} (st : StartOf s q.at b) {first : ℕ} (fe : first ≡ triggered s d i (start_sets b))
      {o : Tick} (oe : o ≡ rounds_by s (suc (t_of s)) i (start_sets b) first 0) where
    ticked : o ≡ tick s q.at d i
    unfolding begins begins_by
    ticked = tick_by s h (begins st) v fe oe

    ticked_due : o ≡ tick s q.at (due_timers (running s q.at) q.readings) i
    ticked_due = ticked ∙ ap (λ (x : ℕ). tick s q.at x i) due_is

    known : input_foreign (k_of s) i ≡ false
    unfolding input_foreign
    known = lt-leb (2 ^ k_of s) i v

    pub report_refused : {e : ℕ} → e ≡ o.refusal → (e ≡ 0 → ⊥) → refused e ≡ why s q i t
    report_refused e = refused_tick s q i t h ok l known (e ∙ ap (λ (x : Tick). x.refusal) ticked_due)

    pub report_reason : o.refusal ≡ 0 → {r : Report} → r ≡ reason_by s o i (start_sets b) first t → r ≡ why s q i t
    unfolding begins begins_by
    report_reason z e =
        e ∙ reason_by_lem s h (begins st) v fe ticked t ∙ ap (λ (x : ℕ). reason s q.at x i t) due_is
        ∙ tick_reports s q i t h ok l known (sym (ap (λ (x : Tick). x.refusal) ticked_due) ∙ z)
