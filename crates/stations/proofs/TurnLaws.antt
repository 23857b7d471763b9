-- Laws for the turn of a station. Assumes nothing.
use mathlib.Core.Path.{◌≡◌, refl, sym, ap, ◌∙◌}
use mathlib.Core.Bool.{true, false}
use mathlib.Core.List.{List, [], ◌∷◌, ◌++◌, append-nil}
use Prim.Native.Nat.{ℕ, ◌+◌, ◌-◌, ◌*◌, ◌≤◌, zero-le, ◌<◌, min}
use native.Mathlib.Omega.{arith}
use lib.Dec.{ltb, leb→le}
use lib.ListN.{length, get_or, take, drop, get_or-append, length-drop, drop_of_length-le}
use lib.Seq.{drop_at, get_or-take, length-take-le}
use borrow.Author.Tests.{eq-eqb, ne_eqb}
use borrow.Rule.Slice.PartMut.{put_mid}
use Rattle.sets.proofs.Tests.{of_true}
use Rattle.meaning.specs.Refusal.{number_or_0}
use Rattle.meaning.specs.Run.{State, stops, Run, ran}
use Rattle.meaning.specs.Table.{k_in}
use Rattle.meaning.specs.TableRun.{table_step, table_run}
use Rattle.meaning.specs.Stations as meaning
use Rattle.meaning.specs.Stations.{has_work, Standing, standing_at}
use Rattle.meaning.proofs.ListLaws.{all_of_e}
use Rattle.meaning.proofs.RunLaws.{done_le, run_all}
use Rattle.run.specs.States.{state_of}
use Rattle.recorder.specs.declared.table_run.Ran.{Ran}
use Rattle.recorder.specs.Runs.{ran_of}
use Rattle.turns.specs.Sweeps.{turns_of}
use Rattle.turns.proofs.Commuting.{work_e}
use Rattle.stations.specs.declared.Station.{Station}
use Rattle.stations.specs.declared.Schedule.{Schedule}
use Rattle.stations.specs.Stations.{station_of}
use Rattle.stations.specs.Serving.{is_looking, served_of, parts_within, Ready, Given}
use Rattle.allowance.proofs.TickLaws.{tick_keeps}
use Rattle.stations.proofs.BatchLaws.{after_run, batch}

-- ---- a station has work

module _ (s : meaning.Station) where
  pub work_marked : (s.mark ≡ 0 → ⊥) → false ≡ has_work s
  unfolding has_work
  work_marked n = sym (rw (ne_eqb s.mark 0 n) refl)

  pub work_unmarked : s.mark ≡ 0 → ltb s.position s.in_length ≡ has_work s
  unfolding has_work
  work_unmarked e = sym (rw (eq-eqb s.mark 0 e) refl)

-- ---- the part from n on, lent and put back

module _ (n : ℕ) (l part : List ℕ) (h : n ≤ length l) where
  rest_none : drop (length l - n) (drop n l) ≡ []
  rest_none =
      let short : length (drop n l) ≤ length l - n = omega (arith, length-drop n l) in
      drop_of_length-le (drop n l) short

  pub rest_is : drop n (put_mid n (length l - n) l part) ≡ part
  rest_is =
      drop_at (take n l) (part ++ drop (length l - n) (drop n l)) n (length-take-le n l h)
      ∙ ap (λ (r : List ℕ). part ++ r) rest_none ∙ append-nil part

  pub front_is : (i : ℕ) → i < n → get_or (put_mid n (length l - n) l part) i 0 ≡ get_or l i 0
  front_is i k =
      get_or-append (take n l) (part ++ drop (length l - n) (drop n l)) 0 i (omega (arith, length-take-le n l h))
      ∙ get_or-take n l i 0 k

-- ---- parts that fit their lists

pub within_e : (sets words : ℕ) (s : Station) → parts_within sets words s ≡ true
    → (s.in_start + s.in_length ≤ sets) × (s.out_start + s.out_length ≤ words) × (5 * s.in_length ≤ s.out_length)
unfolding parts_within
within_e sets words s e =
    let r = all_of_e _ (of_true e) in
    (leb→le _ _ r.0, leb→le _ _ r.1.0, leb→le _ _ r.1.1.0)

-- no more ticks are done than there are sets
run_done : (w : List ℕ) (q : State) (is out : List ℕ) → (table_run w q is out).done ≤ length is
unfolding table_run
run_done w q is out =
    run_all (k_in w) (table_step w) _ _ _ q is out (λ r. r.done ≤ length is) (λ e. unfold ran stops in zero-le)
    (unfold ran in (done_le (k_in w) (table_step w) is q))

-- ---- the turns of a station that has work

module _ (w inputs : List ℕ) (s : Station) (c : Schedule) (work out : List ℕ) (ready : Ready w inputs s c work out)
    (serves : is_looking c.phase ≡ false) (works : has_work (station_of s) ≡ true) where
  pub not_at_end : s.position < s.in_length
  not_at_end = (work_e (station_of s) (of_true works)).1

  within : (s.in_start + s.in_length ≤ length inputs) × (s.out_start + s.out_length ≤ length out)
      × (5 * s.in_length ≤ s.out_length)
  within = within_e (length inputs) (length out) s (ready.serves serves).3

  -- where its next set stands, and where the words of that tick go
  abbrev i : ℕ
  i = s.in_start + s.position

  abbrev o : ℕ
  o = s.out_start + 5 * s.position

  -- n: how many ticks it can get at once
  module _ (n : ℕ) (count : n ≡ min c.turns (min c.left (s.in_length - s.position))) where
    few_sets : s.position + n ≤ s.in_length
    few_sets = omega (arith, not_at_end)

    few_left : n ≤ c.left
    few_left = omega arith

    pub sets_end : i + n ≤ length inputs
    sets_end = let h = within.0 in omega (arith, few_sets)

    pub words_end : o + 5 * n ≤ length out
    words_end =
        let h = within.1 in
        let k = within.2 in
        omega (arith, few_sets)

    -- the sets and the output words that are lent
    abbrev own : List ℕ
    own = take (i + n - i) (drop i inputs)

    abbrev lent : List ℕ
    lent = take (o + 5 * n - o) (drop o out)

    own_length : length own ≡ n
    own_length = let h = length-take-le (i + n - i) (drop i inputs) (omega (arith, sets_end, length-drop i inputs)) in omega arith

    lent_long : length lent ≡ 5 * n
    lent_long = let h = length-take-le (o + 5 * n - o) (drop o out) (omega (arith, words_end, length-drop o out)) in omega arith

    pub lent_enough : 5 * length own ≤ length lent
    lent_enough = omega (arith, own_length, lent_long)

    -- what their run returns
    module _ (r : Ran) (part : List ℕ) (run : ran_of r part ≡ table_run w (state_of s.state) own lent) where
      done_few : r.done.0 ≤ n
      done_few =
          let h = run_done w (state_of s.state) own lent in
          let e = ap (λ (x : Run). x.done) run in
          omega (arith, own_length)

      pub done_within : s.position + r.done.0 ≤ s.in_length
      done_within = omega (arith, done_few, few_sets)

      pub done_left : r.done.0 ≤ c.left
      done_left = omega (arith, done_few, few_left)

      -- the station after it, and the schedule
      pub given_by_run : (t : Station) (next : Schedule)
          → station_of t ≡ after_run (station_of s) r.done.0 (state_of r.state) (number_or_0 r.refusal)
          → next ≡ served_of c (c.left - r.done.0) (has_work (station_of t))
          → Given w inputs s c work out t next work (put_mid o (o + 5 * n - o) out part)
      given_by_run t next e h = record { left = c.left - r.done.0; same_work = refl; turns = turns; schedule = h }
        where
          k : ℕ
          k = o + 5 * n - o

          m : ℕ
          m = i + n - i

          leaves : Run → Standing
          leaves x =
              standing_at (after_run (station_of s) x.done x.state x.refusal ∷ []) (put_mid o k out x.out) (c.left - x.done)

          as_many : m ≡ n
          as_many = omega arith

          turns : standing_at (station_of t ∷ []) (put_mid o (o + 5 * n - o) out part) (c.left - r.done.0)
              ≡ turns_of w inputs c.turns 0 (standing_at (station_of s ∷ []) out c.left)
          turns =
              ap (λ (x : meaning.Station). standing_at (x ∷ []) (put_mid o k out part) (c.left - r.done.0)) e ∙ ap leaves run
              ∙ sym (batch w inputs (tick_keeps w (of_true ready.table)) ready.table (station_of s) out c.left c.turns m o k
              (of_true works) (ready.serves serves).0 (ready.serves serves).1 within.0 (omega (arith, words_end)) refl
              (as_many ∙ count) (omega (arith, as_many)))
