-- Document 02, Ask 6: stations on one table under one tick allowance. Assumes nothing.
use Rattle.std.specs.Prelude.{Bool, not, ◌&&◌, ◌||◌, cond, List, [], ◌∷◌, ℕ, zero, suc, ◌+◌, ◌-◌, ◌*◌, eqb, leb, ltb, length, get_or, set}
use Rattle.std.proofs.lemmas.List.Edits.{sets}
use Rattle.sets.specs.Sets.{some, every}
use Rattle.meaning.specs.Lists.{all_of, refused_if, first_refusal}
use Rattle.meaning.specs.Run.{State, power_on, tick_refusal}
use Rattle.meaning.specs.Table.{k_in, table_ok}
use Rattle.meaning.specs.TableRun.{table_state_ok, table_step}

-- "a lent list of stations, each with its own state, position and stopped mark"; "each has its own part of an input list and output
-- list"; "position is the next p", counted in its part
pub record Station : Type 0 where
  pub state : State
  pub position : ℕ
  pub mark : ℕ
  pub in_start : ℕ
  pub in_length : ℕ
  pub out_start : ℕ
  pub out_length : ℕ

-- what a place past the end of a list of stations reads as
unfoldable pub blank : Station
blank = record { state = power_on; position = 0; mark = 0; in_start = 0; in_length = 0; out_start = 0; out_length = 0 }

-- a station after a tick that leaves the state q, and one stopped by the refusal e
abbrev pub ticked : Station → State → Station
ticked s q =
    record {
      state = q;
      position = suc s.position;
      mark = s.mark;
      in_start = s.in_start;
      in_length = s.in_length;
      out_start = s.out_start;
      out_length = s.out_length;
    }

abbrev pub stopped : Station → ℕ → Station
stopped s e =
    record {
      state = s.state;
      position = s.position;
      mark = e;
      in_start = s.in_start;
      in_length = s.in_length;
      out_start = s.out_start;
      out_length = s.out_length;
    }

-- "A station lent with a mark other than 0, or at or past its part's end, is passed over": it has work if not
unfoldable pub has_work : Station → Bool
has_work s = eqb s.mark 0 && ltb s.position s.in_length

-- where a call stands: the stations, the output list, the ticks that are left of the allowance
pub record Standing : Type 0 where
  pub stations : List Station
  pub out : List ℕ
  pub left : ℕ

abbrev pub station_at : Standing → ℕ → Station
station_at a m = get_or a.stations m blank

abbrev pub station_count : Standing → ℕ
station_count a = length a.stations

-- "nobody has work" if not
unfoldable pub some_work : Standing → Bool
some_work a = some (station_count a) (λ m. has_work (station_at a m))

-- the set at a station's position
unfoldable pub next_set : List ℕ → Station → ℕ
next_set inputs s = get_or inputs (s.in_start + s.position) 0

-- a turn that stops station m by the refusal e, "with that number as its mark (0 before), and costs no tick"
abbrev pub after_stop : ℕ → ℕ → Standing → Standing
after_stop e m a = record { stations = set a.stations m (stopped (station_at a m) e); out = a.out; left = a.left }

-- w: the table
module _ (w : List ℕ) where
  -- why a turn stops its station: "a state refused 14", "a tick refused 13 or 15", in the order of a run; 0 if it does not
  unfoldable pub turn_refusal : State → ℕ → ℕ
  turn_refusal q i = first_refusal (refused_if (not (table_state_ok w q)) 14 ∷ tick_refusal (k_in w) (table_step w) q i ∷ [])

  -- inputs: the input list
  module _ (inputs : List ℕ) where
    -- a turn that serves station m a tick: "set p of the one having its words at 5p of the other"
    abbrev pub after_tick : ℕ → Standing → Standing
    after_tick m a =
        record {
          stations = set a.stations m (ticked (station_at a m) (table_step w (station_at a m).state (next_set inputs (station_at a m))).state);
          out =
              sets a.out ((station_at a m).out_start + 5 * (station_at a m).position)
              (table_step w (station_at a m).state (next_set inputs (station_at a m))).words;
          left = a.left - 1;
        }

    -- the turn of station m: "skipping those finished or stopped"; "once the allowance is spent no turn comes"
    unfoldable pub turn : ℕ → Standing → Standing
    turn m a =
        let e = turn_refusal (station_at a m).state (next_set inputs (station_at a m)) in
        cond (ltb 0 a.left && has_work (station_at a m)) (cond (eqb e 0) (after_tick m a) (after_stop e m a)) a

    -- "Passes go through the stations in number order, one tick each": the turns of r stations from m on
    unfoldable pub turns_from : ℕ → ℕ → Standing → Standing
    turns_from zero m a = a
    turns_from (suc r) m a = turns_from r (suc m) (turn m a)

    unfoldable pub pass : Standing → Standing
    pass a = turns_from (station_count a) 0 a

    -- at most f passes, "until the allowance is spent or nobody has work"
    unfoldable pub passes : ℕ → Standing → Standing
    passes zero a = a
    passes (suc f) a = let on = passes f (pass a) in cond (ltb 0 a.left && some_work a) on a

    -- all passes: one that serves no tick is the last, so there are no more of them than ticks left
    unfoldable pub all_passes : Standing → Standing
    all_passes a = passes a.left a

-- 18: "No stations, or more than 64"
unfoldable pub wrong_number : ℕ → Bool
wrong_number n = eqb n 0 || ltb 64 n

-- two parts share a word
unfoldable pub shares : ℕ → ℕ → ℕ → ℕ → Bool
shares start len start' len' =
    all_of (ltb 0 len ∷ ltb 0 len' ∷ ltb start (start' + len') ∷ ltb start' (start + len) ∷ [])

-- 19 if not: "parts that share a word, end past their list or have fewer than 5 output words per input set"
module _ (stations : List Station) (inputs out : List ℕ) where
  unfoldable pub parts_fit : ℕ → Bool
  parts_fit m =
      let s = get_or stations m blank in
      all_of
      (leb (s.in_start + s.in_length) (length inputs)
      ∷ leb (s.out_start + s.out_length) (length out)
      ∷ leb (5 * s.in_length) s.out_length
      ∷ [])

  unfoldable pub parts_apart : ℕ → ℕ → Bool
  parts_apart m n =
      let s = get_or stations m blank in
      let s' = get_or stations n blank in
      eqb m n
      || not (shares s.in_start s.in_length s'.in_start s'.in_length)
      && not (shares s.out_start s.out_length s'.out_start s'.out_length)

  unfoldable pub parts_ok : Bool
  parts_ok =
      every (length stations) parts_fit && every (length stations) (λ m. every (length stations) (parts_apart m))

-- what a call returns and leaves: the refusal, "the allowance spent, which is returned", the stations and the output list
pub record StationsRun : Type 0 where
  pub refusal : ℕ
  pub spent : ℕ
  pub stations : List Station
  pub out : List ℕ

-- a refused call "changes nothing"
unfoldable pub call_refused : ℕ → List Station → List ℕ → StationsRun
call_refused e stations out = record { refusal = e; spent = 0; stations = stations; out = out }

-- where a call begins, and what it returns where it ends
abbrev pub standing_at : List Station → List ℕ → ℕ → Standing
standing_at stations out allowance = record { stations = stations; out = out; left = allowance }

abbrev pub call_done : ℕ → Standing → StationsRun
call_done allowance a = record { refusal = 0; spent = allowance - a.left; stations = a.stations; out = a.out }

-- a call: 15, then 18, then 19, then the passes
unfoldable pub serve_stations : List ℕ → List Station → List ℕ → List ℕ → ℕ → StationsRun
serve_stations w stations inputs out allowance =
    let e =
    first_refusal
    (refused_if (not (table_ok w)) 15
    ∷ refused_if (wrong_number (length stations)) 18
    ∷ refused_if (not (parts_ok stations inputs out)) 19
    ∷ []) in
    let done = call_done allowance (all_passes w inputs (standing_at stations out allowance)) in
    cond (eqb e 0) done (call_refused e stations out)
