-- A faithful table serves any list of calls from power-on as its sheet does. Assumes nothing.
use mathlib.Core.Path.{◌≡◌, refl, sym, ap, ap₂, ◌∙◌, subst}
use mathlib.Core.Logic.{◌⊎◌, inl}
use mathlib.Core.Bool.{Bool, true, false, not, ◌&&◌, ◌||◌, cond}
use mathlib.Core.List.{List, [], ◌∷◌, ◌++◌, map, flatten, append-nil}
use Prim.Native.Nat.{ℕ, zero, suc, ◌*◌, ◌<◌}
use native.Mathlib.Nat.{not-suc-le-zero, le_of_suc-le-suc}
use native.Mathlib.Omega.{arith}
use lib.Dec.{T, eqb, ltb, lt→ltb}
use lib.ListN.{length, get_or, take}
use lib.Seq.{take_at}
use borrow.Author.Tests.{eqb-true, eqb-false, eq-eqb}
use Rattle.sets.specs.Sets.{has, every}
use Rattle.sets.proofs.Tests.{is_true, of_true, and_i, or_l}
use Rattle.sets.proofs.Facts.{every_i}
use Rattle.sets.proofs.Membership.{has_none}
use Rattle.meaning.specs.Lists.{overwritten, refused_if}
use Rattle.meaning.specs.Sheet.{k_of}
use Rattle.meaning.specs.Hierarchy.{consistent}
use Rattle.meaning.specs.Reaction.{running}
use Rattle.meaning.specs.Tick.{tick}
use Rattle.meaning.specs.Ages.{ages_ok}
use Rattle.meaning.specs.Run.{State, reading, power_on, is_fresh, readings_ok, Ticks, stops, output_short, Run, ran, ticks}
use Rattle.meaning.specs.SheetRun.{sheet_step, sheet_ticks}
use Rattle.meaning.specs.Table.{k_in, b_in, delay_in, mask_in, timers_in, table_ok}
use Rattle.meaning.specs.TableRun.{table_step, table_timers_ok, table_state_ok, table_ticks, table_run}
use Rattle.meaning.specs.WholeList.{Call, legal, done_sets, refusal_of, runs_from, done_words, all_done}
use Rattle.meaning.specs.Faithful.{faithful}
use Rattle.meaning.proofs.RefusalLaws.{test_passed_i}
use Rattle.meaning.proofs.SheetLaws.{Sound}
use Rattle.meaning.proofs.TickLaws.{running_e, running_none}
use Rattle.meaning.proofs.ReadingLaws.{Right, right_fresh, readings_ok_i}
use Rattle.meaning.proofs.AgeLaws.{Fits, fits_fresh, fits_next}
use Rattle.meaning.proofs.RunLaws.{ticks_then, ticks_split, ticks_keep, done_all, words_five, run_short, run_goes}
use Rattle.meaning.proofs.SheetTicksLaws.{five_long, Steady, steady_after, consistent_after}
use Rattle.meaning.proofs.LayoutLaws.{b_pos, mask_first}
use Rattle.meaning.proofs.FaithfulLaws.{delay_same}
use Rattle.meaning.proofs.Simulation.{Stands, timers_stand, ticks_agree}

-- ---- runs and the sheet's ticks from any two states, and what is served from them

-- s: the sheet; w: the table; q and p: the states that the runs and the sheet begin with; cs: the calls
module _ (s w : List ℕ) (q p : State) (cs : List Call) where
  -- what run j returns, and the state that it gets
  unfoldable pub run_from : ℕ → Run
  run_from j = get_or (runs_from w q cs) j (ran [] (stops 0 power_on))

  unfoldable pub state_from : ℕ → State
  state_from zero = q
  state_from (suc j) = (run_from j).state

  -- the sheet's state after the done ticks of runs 0 to j
  unfoldable pub sheet_by : ℕ → State
  sheet_by j = (sheet_ticks s (flatten (map (done_sets (k_of s)) (take (suc j) cs))) p).state

  pub record RunRightFrom (j : ℕ) (c : Call) : Type 0 where
    pub refusal : (run_from j).refusal ≡ refusal_of (k_of s) c
    pub done : (run_from j).done ≡ length (done_sets (k_of s) c)
    pub none : (run_from j).done ≡ 0 → (run_from j).state ≡ state_from j
    pub readings : 0 < (run_from j).done → (run_from j).state.readings ≡ (sheet_by j).readings
    pub block : 0 < (run_from j).done → (run_from j).state.at < b_in w
    pub mask : 0 < (run_from j).done → mask_in w (run_from j).state.at ≡ (sheet_by j).at
    pub ages : 0 < (run_from j).done → (run_from j).state.ages ≡ (sheet_by j).ages

  pub record ServedFrom : Type 0 where
    pub unrefused : (sheet_ticks s (all_done s cs) p).refusal ≡ 0
    pub words : flatten (map done_words (runs_from w q cs)) ≡ (sheet_ticks s (all_done s cs) p).words
    pub consistently : (i : ℕ) → i < length (all_done s cs) → T (consistent s (sheet_ticks s (take (suc i) (all_done s cs)) p).state.at)
    pub runs : (j : ℕ) → j < length cs → RunRightFrom j (get_or cs j (record { inputs = []; out = [] }))

module _ (s : List ℕ) (sd : Sound s) (w : List ℕ) (ok : T (table_ok w)) (f : T (faithful s w)) where
  -- ---- a state that stands for one of the sheet's is not refused

  module _ (q p : State) (st : Stands s sd w ok f q p) (right : Right s p) (fits : Fits s p) where
    same : (u : ℕ) → reading q.readings u ≡ reading p.readings u
    same u = ap (λ (l : List ℕ). reading l u) st.readings

    runs_same : (u : ℕ) → has (timers_in w q.at) u ≡ has (running s p.at) u
    runs_same u = ap (λ (x : ℕ). has x u) (timers_stand s sd w ok f q p st)

    readings_ok_lem : T (readings_ok (timers_in w q.at) (delay_in w) q.readings)
    unfolding Right
    readings_ok_lem =
        readings_ok_i (timers_in w q.at) (delay_in w) q.readings
        (λ u l on.
        let r = subst T (runs_same u) on in
        let k = running_e s p.at u r in
        let b = right u r in
        let d = delay_same s w f sd u k.small k.timer in
        (omega (arith, same u), omega (arith, same u)))
        (λ u l e. same u ∙ fits.zeros u l (sym (runs_same u) ∙ e))

    timers_ok_lem : T (table_timers_ok w q)
    unfolding table_timers_ok is_fresh
    timers_ok_lem = go (eqb q.at 0) refl
      where
        fresh : Bool
        fresh = every 64 (λ u. eqb (reading q.readings u) 0)

        go : (v : Bool) → eqb q.at 0 ≡ v → T (v && fresh || ltb 0 q.at && ltb q.at (b_in w) && readings_ok (timers_in w q.at) (delay_in w) q.readings)
        go true e =
            let z : p.at ≡ 0 = sym st.same ∙ ap (mask_in w) (eqb-true q.at 0 e) ∙ mask_first w ok in
            or_l fresh (ltb 0 q.at && ltb q.at (b_in w) && readings_ok (timers_in w q.at) (delay_in w) q.readings)
            (every_i 64 (λ u. eqb (reading q.readings u) 0) (λ u l.
            of_true (eq-eqb (reading q.readings u) 0 (same u ∙ fits.zeros u l (ap (λ (x : ℕ). has x u) (ap (running s) z ∙ running_none s) ∙ has_none u)))))
        go false e =
            let n = eqb-false q.at 0 e in
            and_i (ltb 0 q.at && ltb q.at (b_in w)) (readings_ok (timers_in w q.at) (delay_in w) q.readings)
            (and_i (ltb 0 q.at) (ltb q.at (b_in w)) (lt→ltb 0 q.at (omega arith)) (lt→ltb q.at (b_in w) st.low)) readings_ok_lem

    pub state_ok_lem : T (table_state_ok w q)
    unfolding table_state_ok
    state_ok_lem =
        and_i (table_timers_ok w q) (ages_ok (mask_in w q.at) q.ages) timers_ok_lem
        (subst T (ap₂ ages_ok (sym st.same) (sym st.ages)) fits.ages)

  -- ---- one call

  -- the table's run R from q, and the sheet's ticks S on its done sets
  record CallRight (q : State) (c : Call) (ds : List ℕ) (R : Run) (S : Ticks) : Type 0 where
    unrefused : S.refusal ≡ 0
    done : R.done ≡ length ds
    words : done_words R ≡ S.words
    refusal : R.refusal ≡ refusal_of (k_of s) c
    stands : Stands s sd w ok f R.state S.state
    right : Right s S.state
    still : length ds ≡ 0 → R.state ≡ q

  -- a call is refused neither 15 nor 14, so it is refused 12 or the ticks agree
  call_right : (q p : State) (c : Call) → Stands s sd w ok f q p → Right s p → Fits s p
      → CallRight q c (done_sets (k_of s) c) (table_run w q c.inputs c.out) (sheet_ticks s (done_sets (k_of s) c) p)
  unfolding done_sets refusal_of table_run ran done_words overwritten
  call_right q p c st r zs = go (output_short is c.out) refl
    where
      is : List ℕ
      is = c.inputs

      layout : refused_if (not (table_ok w)) 15 ≡ 0
      layout = test_passed_i (table_ok w) 15 ok

      admitted : table_state_ok w q ≡ true
      admitted = is_true (table_state_ok w q) (state_ok_lem q p st r zs)

      go : (b : Bool) → output_short is c.out ≡ b
          → CallRight q c (cond b [] (legal (k_of s) is)) (table_run w q is c.out) (sheet_ticks s (cond b [] (legal (k_of s) is)) p)
      go true e =
          subst (λ (X : Run). CallRight q c [] X (sheet_ticks s [] p))
          (sym (run_short (k_in w) (table_step w) (refused_if (not (table_ok w)) 15) (table_state_ok w q) (output_short is c.out) q is c.out layout admitted e))
          (unfold ticks stops in
          record {
            unrefused = refl;
            done = refl;
            words = refl;
            refusal = sym (ap (λ (b : Bool). cond b 12 (cond (ltb (length (legal (k_of s) is)) (length is)) 13 0)) e);
            stands = st;
            right = r;
            still = λ k. refl;
          })
      go false e =
          let g = ticks_agree s sd w ok f is q p st r in
          let ds = legal (k_of s) is in
          let five : length (table_ticks w is q).words ≡ 5 * (table_ticks w is q).done =
          ap length g.words ∙ words_five (k_of s) (sheet_step s) (five_long s) ds p
          ∙ ap (λ (n : ℕ). 5 * n) (done_all (k_of s) (sheet_step s) ds p g.unrefused ∙ sym g.done) in
          subst (λ (X : Run). CallRight q c ds X (sheet_ticks s ds p))
          (sym (run_goes (k_in w) (table_step w) (refused_if (not (table_ok w)) 15) (table_state_ok w q) (output_short is c.out) q is c.out layout admitted e))
          (record {
            unrefused = g.unrefused;
            done = g.done;
            words = take_at (table_ticks w is q).words _ (5 * (table_ticks w is q).done) five ∙ g.words;
            refusal = g.refusal ∙ sym (ap (λ (b : Bool). cond b 12 (cond (ltb (length (legal (k_of s) is)) (length is)) 13 0)) e);
            stands = g.stands;
            right = g.right;
            still = g.still;
          })

  -- ---- a list of calls

  -- the done sets of calls
  abbrev D : List Call → List ℕ
  D cs = flatten (map (done_sets (k_of s)) cs)

  -- what is left after the first call c, from its states
  module _ (q p : State) (c : Call) (cs : List Call) where
    abbrev ds : List ℕ
    ds = done_sets (k_of s) c

    abbrev R : Run
    R = table_run w q c.inputs c.out

    abbrev S : Ticks
    S = sheet_ticks s ds p

    -- the sheet's ticks on the done sets of c, then on those of later calls
    split : S.refusal ≡ 0 → (more : List ℕ) → sheet_ticks s (ds ++ more) p ≡ ticks_then S (sheet_ticks s more S.state)
    split unrefused more = ticks_split (k_of s) (sheet_step s) ds more p unrefused

    -- the runs after the first, as runs of the whole list
    later : S.refusal ≡ 0 → (j : ℕ) (e : Call) → RunRightFrom s w R.state S.state cs j e → RunRightFrom s w q p (c ∷ cs) (suc j) e
    unfolding run_from runs_from sheet_by flatten ticks_then
    later unrefused j e r =
        record {
          refusal = r.refusal;
          done = r.done;
          none = λ z. r.none z ∙ before j;
          readings = λ l. r.readings l ∙ ap (λ (x : Ticks). x.state.readings) (sym two);
          block = r.block;
          mask = λ l. r.mask l ∙ ap (λ (x : Ticks). x.state.at) (sym two);
          ages = λ l. r.ages l ∙ ap (λ (x : Ticks). x.state.ages) (sym two);
        }
      where
        before : (k : ℕ) → state_from s w R.state S.state cs k ≡ state_from s w q p (c ∷ cs) (suc k)
        before zero = unfold state_from run_from runs_from in refl
        before (suc k) = unfold state_from run_from runs_from in refl

        two : sheet_ticks s (ds ++ D (take (suc j) cs)) p ≡ ticks_then S (sheet_ticks s (D (take (suc j) cs)) S.state)
        two = split unrefused (D (take (suc j) cs))

    -- the first run
    first_run : CallRight q c ds R S → RunRightFrom s w q p (c ∷ cs) 0 c
    unfolding run_from runs_from sheet_by flatten state_from
    first_run h =
        let one = sym (append-nil ds) in
        record {
          refusal = h.refusal;
          done = h.done;
          none = λ z. h.still (sym h.done ∙ z);
          readings = λ l. h.stands.readings ∙ ap (λ (x : List ℕ). (sheet_ticks s x p).state.readings) one;
          block = λ l. h.stands.low;
          mask = λ l. h.stands.same ∙ ap (λ (x : List ℕ). (sheet_ticks s x p).state.at) one;
          ages = λ l. h.stands.ages ∙ ap (λ (x : List ℕ). (sheet_ticks s x p).state.ages) one;
        }

  module _ (keeps : (y d i : ℕ) → (y ≡ 0) ⊎ T (consistent s y) → T (consistent s (tick s y d i).sets.modes)) where
    -- from states that stand for each other, every list of calls is served
    served : (cs : List Call) (q p : State) → Stands s sd w ok f q p → Right s p → Fits s p → Steady s p → ServedFrom s w q p cs
    unfolding all_done flatten runs_from
    served [] q p st r zs sy =
        unfold ticks stops in
        record { unrefused = refl; words = refl; consistently = λ i l. absurd (not-suc-le-zero l); runs = λ j l. absurd (not-suc-le-zero l) }
    served (c ∷ cs) q p st r zs sy = go (call_right q p c st r zs) (served cs (R q p c cs).state (S q p c cs).state)
      where
        go : CallRight q c (ds q p c cs) (R q p c cs) (S q p c cs)
            → (Stands s sd w ok f (R q p c cs).state (S q p c cs).state → Right s (S q p c cs).state → Fits s (S q p c cs).state
            → Steady s (S q p c cs).state → ServedFrom s w (R q p c cs).state (S q p c cs).state cs)
            → ServedFrom s w q p (c ∷ cs)
        go h ih =
            unfold ticks_then in
            record {
              unrefused = whole;
              words = ap₂ (λ (x y : List ℕ). x ++ y) h.words rest.words ∙ ap (λ (x : Ticks). x.words) (sym two);
              consistently = consistent_after s keeps (ds q p c cs ++ D cs) p sy whole;
              runs = at;
            }
          where
            rest : ServedFrom s w (R q p c cs).state (S q p c cs).state cs
            rest =
                ih h.stands h.right
                (ticks_keep (k_of s) (sheet_step s) (Fits s) (λ x i _ _. unfold sheet_step in (fits_next s x _)) (ds q p c cs) p zs)
                (steady_after s keeps (ds q p c cs) p sy)

            two : sheet_ticks s (ds q p c cs ++ D cs) p ≡ ticks_then (S q p c cs) (sheet_ticks s (D cs) (S q p c cs).state)
            two = split q p c cs h.unrefused (D cs)

            whole : (sheet_ticks s (ds q p c cs ++ D cs) p).refusal ≡ 0
            whole = ap (λ (x : Ticks). x.refusal) two ∙ (unfold ticks_then in rest.unrefused)

            at : (j : ℕ) → j < suc (length cs) → RunRightFrom s w q p (c ∷ cs) j (get_or (c ∷ cs) j (record { inputs = []; out = [] }))
            at zero l = first_run q p c cs h
            at (suc j) l = later q p c cs h.unrefused j (get_or cs j (record { inputs = []; out = [] })) (rest.runs j (le_of_suc-le-suc l))

-- from power-on, by the one fact that a tick leaves a consistent set
pub served_from_power_on : (s : List ℕ) → Sound s → ((y d i : ℕ) → (y ≡ 0) ⊎ T (consistent s y) → T (consistent s (tick s y d i).sets.modes))
    → (w : List ℕ) → T (table_ok w) → T (faithful s w) → (cs : List Call) → ServedFrom s w power_on power_on cs
served_from_power_on s sd keeps w ok f cs =
    served s sd w ok f keeps cs power_on power_on stands (right_fresh s power_on (unfold power_on in refl)) (fits_fresh s) (unfold power_on in (inl refl))
  where
    stands : Stands s sd w ok f power_on power_on
    stands = unfold power_on in (record { low = b_pos w ok; same = mask_first w ok; readings = refl; ages = refl })
