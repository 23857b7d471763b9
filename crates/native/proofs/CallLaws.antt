-- What each call answers and leaves: too few words lent, and otherwise. Assumes nothing.
use mathlib.Core.Path.{◌≡◌, refl, ap, ◌∙◌}
use mathlib.Core.Logic.{◌⊎◌, inl, inr}
use mathlib.Core.Bool.{Bool, true, false, or-true, cond}
use mathlib.Core.List.{List, [], ◌∷◌, ◌++◌}
use Prim.Native.Nat.{ℕ, ◌+◌, ◌*◌, ◌/◌, ◌%◌, ◌^◌, ◌≤◌, ◌<◌}
use native.Mathlib.Nat.{zero-add}
use native.Mathlib.Omega.{arith}
use lib.Dec.{eqb, ltb}
use lib.ListN.{length, drop}
use lib.Seq.{sets, sets-eq}
use borrow.Author.Tests.{eqb-true, eqb-false, lt-ltb, le-ltb}
use Rattle.meaning.specs.Lists.{overwritten}
use Rattle.meaning.specs.Run.{State, Run}
use Rattle.meaning.specs.SheetRun.{NumberedRun, sheet_run}
use Rattle.meaning.specs.Why.{Report, refusal_of, reason_words, why}
use Rattle.meaning.specs.TableRun.{table_run}
use Rattle.meaning.specs.Compile.{Compiled, compile}
use Rattle.meaning.specs.Within.{Masked, masks_of}
use Rattle.run.specs.States.{state_words, words_of, state_in}
use Rattle.native.specs.Calls.{compile_call, WithinCall, within_call, call_short, RunCall, run_call, sheet_counts, sheet_call, table_call, why_call}

-- a row of stores at the front
pub sets_front : (vs l : List ℕ) → length vs ≤ length l → sets l 0 vs ≡ overwritten vs l
unfolding overwritten
sets_front vs l h = sets-eq vs l 0 (omega arith) ∙ ap (λ (n : ℕ). vs ++ drop n l) (zero-add (length vs))

-- words copied to the front
pub front_put : (lent words : List ℕ) {put : List ℕ} (k : ℕ) → length words ≡ k → put ≡ words → put ++ drop k lent ≡ overwritten words lent
unfolding overwritten
front_put lent words k e p = rw (← e, p) refl

-- ---- masks

module _ (sheet masks : List ℕ) where
  pub within_nothing : length masks < 32 → record { answer = 4294967295; masks = masks } ≡ within_call sheet masks
  unfolding within_call
  within_nothing h = rw (lt-ltb (length masks) 32 h)

  pub within_answered : 32 ≤ length masks → (o : Masked) (answer : ℕ) (words : List ℕ) → o ≡ masks_of sheet → answer ≡ o.refusal
      → (answer ≡ 0 → words ≡ overwritten o.masks masks) → ((answer ≡ 0 → ⊥) → words ≡ masks)
      → record { answer = answer; masks = words } ≡ within_call sheet masks
  unfolding within_call
  within_answered h o answer words e a f g = rw (le-ltb (length masks) 32 h, ← e, ← a) (go (eqb answer 0) refl)
    where
      go : (b : Bool) → eqb answer 0 ≡ b → ◌≡◌ {A = WithinCall} (record { answer = answer; masks = words }) (record { answer = answer; masks = cond b (overwritten o.masks masks) masks })
      go true k = rw (f (eqb-true answer 0 k))
      go false k = rw (g (eqb-false answer 0 k))

-- ---- compile

module _ (sheet table work info : List ℕ) where
  pub compile-nothing : length info < 2 → record { answer = 4294967295; table = table; work = work; info = info } ≡ compile_call sheet table work info
  unfolding compile_call
  compile-nothing h = rw (lt-ltb (length info) 2 h)

  pub compile_answered : 2 ≤ length info → (o : Compiled) (answer : ℕ) → o ≡ compile sheet table work → answer ≡ o.refusal
      → record { answer = answer; table = o.table; work = o.work; info = sets info 0 (o.f ∷ o.table_length ∷ []) } ≡ compile_call sheet table work info
  unfolding compile_call
  compile_answered h o answer e a =
      let front = sets_front (o.f ∷ o.table_length ∷ []) info h in
      rw (le-ltb (length info) 2 h, a, front, e)

-- ---- runs

-- fewer words lent than asked for, in info or in the state; or enough
module _ (n : ℕ) (state info : List ℕ) where
  call_short_lem : (length info < n) ⊎ (ltb (length state) state_words ≡ true) → call_short n state info ≡ true
  unfolding call_short
  call_short_lem (inl h) = rw (lt-ltb (length info) n h)
  call_short_lem (inr h) = rw (h, or-true)

  call_enough : n ≤ length info → state_words ≤ length state → call_short n state info ≡ false
  unfolding call_short
  call_enough h k = rw (le-ltb (length info) n h, le-ltb (length state) state_words k)

module _ (o : Run) (counts state out info : List ℕ) where
  pub run_nothing : (length info < length counts) ⊎ (ltb (length state) state_words ≡ true)
      → record { answer = 4294967295; state = state; out = out; info = info } ≡ run_call o counts state out info
  unfolding run_call
  run_nothing h = rw (call_short_lem (length counts) state info h)

  -- the state and the counts put into lent words
  pub run_answered : length counts ≤ length info → state_words ≤ length state → (answer : ℕ) (words : List ℕ)
      → answer ≡ o.refusal → words ≡ overwritten (words_of o.state) state
      → record { answer = answer; state = words; out = o.out; info = sets info 0 counts } ≡ run_call o counts state out info
  unfolding run_call
  run_answered h k answer words a w = rw (call_enough (length counts) state info h k, a, w, sets_front counts info h)

-- the counts of a sheet run, its rounds as whole times 2^32 and the rest
counted : (o : Run) (whole low : ℕ) → o.rounds ≡ whole * 2 ^ 32 + low → low < 2 ^ 32 → o.done ∷ whole ∷ low ∷ [] ≡ sheet_counts o
unfolding sheet_counts
counted o whole low n l =
    let p : whole ≡ o.rounds / 2 ^ 32 = omega arith in
    let r : low ≡ o.rounds % 2 ^ 32 = omega arith in
    rw (p, r)

-- the sheet run: its numbers too
module _ (sheet state inputs out numbers info : List ℕ) where
  pub sheet_nothing : (length info < 3) ⊎ (ltb (length state) state_words ≡ true)
      → record { call = record { answer = 4294967295; state = state; out = out; info = info }; numbers = numbers }
      ≡ sheet_call sheet state inputs out numbers info
  unfolding sheet_call run_call sheet_counts
  sheet_nothing h = rw (call_short_lem 3 state info h)

  -- o: what was run from the state q that the words hold
  pub sheet_answered : 3 ≤ length info → state_words ≤ length state → (o : NumberedRun) (q : State) → q ≡ state_in state → o ≡ sheet_run sheet q inputs out numbers
      → (whole low : ℕ) → o.run.rounds ≡ whole * 2 ^ 32 + low → low < 2 ^ 32 → (answer : ℕ) (words : List ℕ)
      → answer ≡ o.run.refusal → words ≡ overwritten (words_of o.run.state) state
      → record {
        call = record { answer = answer; state = words; out = o.run.out; info = sets info 0 (o.run.done ∷ whole ∷ low ∷ []) };
        numbers = o.numbers;
      }
      ≡ sheet_call sheet state inputs out numbers info
  unfolding sheet_call
  sheet_answered h k o q qe e whole low n l answer words a w =
      let f : o ≡ sheet_run sheet (state_in state) inputs out numbers = e ∙ ap (λ (x : State). sheet_run sheet x inputs out numbers) qe in
      let c : o.run.done ∷ whole ∷ low ∷ [] ≡ sheet_counts o.run = counted o.run whole low n l in
      rw (← f, ← c, call_enough 3 state info h k)
      (ap (λ (x : RunCall). record { call = x; numbers = o.numbers }) (run_answered o.run (o.run.done ∷ whole ∷ low ∷ []) state out info h k answer words a w))

module _ (table state inputs out info : List ℕ) (o : Run) (q : State) (qe : q ≡ state_in state) (e : o ≡ table_run table q inputs out) where
  pub table_call_lem : run_call o (o.done ∷ []) state out info ≡ table_call table state inputs out info
  unfolding table_call
  table_call_lem = let f : o ≡ table_run table (state_in state) inputs out = e ∙ ap (λ (x : State). table_run table x inputs out) qe in rw (← f) refl

-- ---- why

module _ (sheet state : List ℕ) (input transition : ℕ) (info : List ℕ) where
  pub why-nothing : (length info < 3) ⊎ (ltb (length state) state_words ≡ true) → record { answer = 4294967295; info = info } ≡ why_call sheet state input transition info
  unfolding why_call
  why-nothing h = rw (call_short_lem 3 state info h)

  -- o: what was reported of the state q that the words hold
  module _ (h : 3 ≤ length info) (k : state_words ≤ length state) {q : State} (qe : q ≡ state_in state) {o : Report} (e : o ≡ why sheet q input transition) where
    pub why_answered : {answer : ℕ} {words : List ℕ} → answer ≡ refusal_of o → words ≡ overwritten (reason_words o) info
        → record { answer = answer; info = words } ≡ why_call sheet state input transition info
    unfolding why_call
    why_answered a w =
        let f : o ≡ why sheet (state_in state) input transition = e ∙ ap (λ (x : State). why sheet x input transition) qe in
        rw (call_enough 3 state info h k, a, w, f)
