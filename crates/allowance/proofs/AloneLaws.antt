-- A station's own sets and words, and the table run on them. Assumes nothing.
use mathlib.Core.Path.{◌≡◌, refl, sym, ap, ◌∙◌, subst}
use mathlib.Core.Logic.{◌⊎◌, inl, inr}
use mathlib.Core.Bool.{false, not}
use mathlib.Core.List.{List, [], ◌++◌}
use Prim.Native.Nat.{ℕ, ◌+◌, ◌-◌, ◌*◌, ◌≤◌, ◌<◌, min}
use native.Mathlib.Omega.{arith}
use lib.Dec.{T}
use lib.ListN.{length, get_or, take, drop, length-append, length-take, length-drop, get_or-append}
use lib.Seq.{length-take-le, get_or-take, get_or-drop, get_or-append-add, ext_get_or}
use borrow.Author.Tests.{le-ltb}
use Rattle.sets.proofs.Tests.{is_true, below_or_not}
use Rattle.meaning.specs.Lists.{overwritten, refused_if}
use Rattle.meaning.specs.Run.{State, stops, output_short, ran, ticks}
use Rattle.meaning.specs.Table.{k_in, table_ok}
use Rattle.meaning.specs.TableRun.{table_state_ok, table_step, table_ticks, table_run}
use Rattle.meaning.specs.TickAllowance.{part}
use Rattle.meaning.proofs.RefusalLaws.{test_passed_i}
use Rattle.meaning.proofs.RunLaws.{run_state, run_goes, run_all}

-- ---- parts
pub part_length : (b n : ℕ) (l : List ℕ) → b + n ≤ length l → length (part b n l) ≡ n
part_length b n l h = length-take-le n (drop b l) (omega (arith, length-drop b l))

pub part_at : (b n : ℕ) (l : List ℕ) (u : ℕ) → u < n → get_or (part b n l) u 0 ≡ get_or l (b + u) 0
part_at b n l u h = get_or-take n (drop b l) u 0 h ∙ get_or-drop b l u 0

-- the rest of a part, from place p on
pub rest_length : (b n p : ℕ) (l : List ℕ) → b + n ≤ length l → length (drop p (part b n l)) ≡ n - p
rest_length b n p l h = length-drop p (part b n l) ∙ ap (λ (x : ℕ). x - p) (part_length b n l h)

pub rest_at : (b n p : ℕ) (l : List ℕ) (u : ℕ) → p + u < n → get_or (drop p (part b n l)) u 0 ≡ get_or l (b + p + u) 0
rest_at b n p l u h =
    let e : b + (p + u) ≡ b + p + u = omega arith in
    get_or-drop p (part b n l) u 0 ∙ part_at b n l (p + u) h ∙ ap (λ (x : ℕ). get_or l x 0) e

-- its first j sets are those of the list
pub first_sets_lem : (b n p j : ℕ) (l : List ℕ) → b + n ≤ length l → p + j ≤ n → take j (drop p (part b n l)) ≡ take j (drop (b + p) l)
first_sets_lem b n p j l h k =
    ext_get_or 0 (take j (drop p (part b n l))) (take j (drop (b + p) l)) (left ∙ sym right)
    (λ u q. at u (subst (λ (x : ℕ). u < x) left q))
  where
    left : length (take j (drop p (part b n l))) ≡ j
    left = length-take-le j (drop p (part b n l)) (omega (arith, rest_length b n p l h))

    right : length (take j (drop (b + p) l)) ≡ j
    right = length-take-le j (drop (b + p) l) (omega (arith, length-drop (b + p) l))

    at : (u : ℕ) → u < j → get_or (take j (drop p (part b n l))) u 0 ≡ get_or (take j (drop (b + p) l)) u 0
    at u q =
        get_or-take j (drop p (part b n l)) u 0 q ∙ rest_at b n p l u (omega arith)
        ∙ sym (get_or-take j (drop (b + p) l) u 0 q ∙ get_or-drop (b + p) l u 0)

-- a part of out' is the same part of out with the words ws laid over it from place p on
module _ (b n : ℕ) (out out' : List ℕ) (fits : b + n ≤ length out) (same : length out' ≡ length out) where
  fits' : b + n ≤ length out'
  fits' = subst (λ (x : ℕ). b + n ≤ x) (sym same) fits

  pub part_before : (p : ℕ) → ((u : ℕ) → u < p → u < n → get_or out' (b + u) 0 ≡ get_or out (b + u) 0)
      → take p (part b n out') ≡ take p (part b n out)
  part_before p h =
      ext_get_or 0 (take p (part b n out')) (take p (part b n out))
      (length-take p (part b n out') ∙ ap (min p) (long ∙ sym (part_length b n out fits)) ∙ sym (length-take p (part b n out)))
      (λ u q. let e = length-take p (part b n out') in at u (omega (arith, e)) (omega (arith, e, long)))
    where
      long : length (part b n out') ≡ n
      long = part_length b n out' fits'

      at : (u : ℕ) → u < p → u < n → get_or (take p (part b n out')) u 0 ≡ get_or (take p (part b n out)) u 0
      at u x y =
          get_or-take p (part b n out') u 0 x ∙ part_at b n out' u y ∙ h u x y
          ∙ sym (get_or-take p (part b n out) u 0 x ∙ part_at b n out u y)

  pub part_laid : (p : ℕ) (ws : List ℕ) → length ws ≤ n - p
      → ((u : ℕ) → u < length ws → get_or out' (b + p + u) 0 ≡ get_or ws u 0)
      → ((u : ℕ) → length ws ≤ u → p + u < n → get_or out' (b + p + u) 0 ≡ get_or out (b + p + u) 0)
      → drop p (part b n out') ≡ overwritten ws (drop p (part b n out))
  unfolding overwritten
  part_laid p ws k h g =
      let long = rest_length b n p out' fits' in
      ext_get_or 0 (drop p (part b n out')) (ws ++ later)
      (omega (arith, long, rest_length b n p out fits, length-append ws later, length-drop (length ws) (drop p (part b n out))))
      (λ u q. at u (omega (arith, long)) (below_or_not u (length ws)))
    where
      -- the words after those laid
      later : List ℕ
      later = drop (length ws) (drop p (part b n out))

      at : (u : ℕ) → p + u < n → (u < length ws) ⊎ (length ws ≤ u) → get_or (drop p (part b n out')) u 0 ≡ get_or (ws ++ later) u 0
      at u l (inl z) = rest_at b n p out' u l ∙ h u z ∙ sym (get_or-append ws later 0 u z)
      at u l (inr z) =
          let v = u - length ws in
          let f : u ≡ length ws + v = omega arith in
          rest_at b n p out' u l ∙ g u z l
          ∙ sym (ap (λ (x : ℕ). get_or (ws ++ later) x 0) f ∙ get_or-append-add ws later v 0
          ∙ get_or-drop (length ws) (drop p (part b n out)) v 0 ∙ ap (λ (x : ℕ). get_or (drop p (part b n out)) x 0) (sym f) ∙ rest_at b n p out u l)

-- ---- the run alone
module _ (w : List ℕ) (table : T (table_ok w)) (q : State) (is out : List ℕ) where
  layout : refused_if (not (table_ok w)) 15 ≡ 0
  layout = test_passed_i (table_ok w) 15 table

  pub run_ticks : T (table_state_ok w q) → 5 * length is ≤ length out → table_run w q is out ≡ ran out (table_ticks w is q)
  unfolding table_run output_short
  run_ticks ok h =
      run_goes (k_in w) (table_step w) _ (table_state_ok w q) (output_short is out) q is out layout (is_true (table_state_ok w q) ok)
      (le-ltb (length out) (5 * length is) h)

  pub run_bad_state : table_state_ok w q ≡ false → table_run w q is out ≡ ran out (stops 14 q)
  unfolding table_run
  run_bad_state bad = run_state (k_in w) (table_step w) _ (table_state_ok w q) (output_short is out) q is out layout bad

-- a run on no set, whatever its refusal
pub run_none : (w : List ℕ) (q : State) (out : List ℕ)
    → ((table_run w q [] out).done ≡ 0) × ((table_run w q [] out).state ≡ q) × ((table_run w q [] out).out ≡ out)
unfolding table_run ticks ran stops overwritten
run_none w q out =
    run_all (k_in w) (table_step w) _ (table_state_ok w q) (output_short [] out) q [] out
    (λ r. (r.done ≡ 0) × (r.state ≡ q) × (r.out ≡ out)) (λ e. (refl, refl, refl)) (refl, refl, refl)
