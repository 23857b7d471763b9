-- The loop that finds the due timers of a set: the set built so far, and the number that it makes. Assumes nothing.
use mathlib.Core.Path.{◌≡◌, refl, sym, ap, ◌∙◌, subst}
use mathlib.Core.Bool.{Bool, true, false}
use mathlib.Core.List.{List, [], ◌∷◌}
use Prim.Native.Nat.{ℕ, suc, ◌+◌, ◌*◌, ◌^◌, ◌≤◌, ◌<◌}
use native.Mathlib.Nat.{add-zero, zero-add, zero-mul, mul-add, mul-one, mul_assoc, mul-zero, pow-suc, pow-le-pow_right, lt_of_lt_of_le}
use native.Mathlib.Numerals.{add-one}
use native.Mathlib.Omega.{arith}
use lib.ListN.{length}
use lib.Pow.{pow_pos}
use Rattle.sets.specs.Sets.{has, union, minus, digit, those, members, size}
use Rattle.sets.proofs.Tests.{is_true, of_true}
use Rattle.sets.proofs.Facts.{size-le}
use Rattle.sets.proofs.Membership.{has_none, has-those}
use Rattle.sets.proofs.Members.{Turn, members-turn, members_none}
use Rattle.sets.proofs.Those.{Subset, subset_turn, those_start, those_tested, those_done}
use Rattle.meaning.specs.TableRun.{due_number}

module _ (timers low : ℕ) (p : ℕ → Bool) where
  abbrev all : ℕ
  all = those 64 timers p

  -- what the loop keeps, with these timers left
  pub record Counted (set number place rest : ℕ) : Type 0 where
    pub fits : rest < 2 ^ 64
    pub part : Subset rest timers
    pub built : set ≡ minus all rest
    pub small : number < 2 ^ place
    pub room : place + size 64 rest ≤ 64
    pub sum : number + 2 ^ place * due_number (members 64 rest) all ≡ 2 ^ low * due_number (members 64 timers) all

  pub counted_start : timers < 2 ^ 64 → low + size 64 timers ≤ 64 → Counted 0 0 low timers
  counted_start l r =
      record {
        fits = l;
        part = λ i h. h;
        built = sym (those_start 64 timers p);
        small = pow_pos low;
        room = r;
        sum = zero-add (2 ^ low * due_number (members 64 timers) all);
      }

  -- adding a timer's digit
  more : (b : Bool) (number w n : ℕ) → number + digit b * w + w * 2 * n ≡ number + w * (digit b + 2 * n)
  unfolding digit
  more true number w n = omega (arith, mul-add w 1 (2 * n), mul_assoc w 2 n, mul-one w)
  more false number w n = omega (arith, mul_assoc w 2 n, ap (λ (x : ℕ). w * x) (zero-add (2 * n)), zero-mul w)

  fewer : (b : Bool) (number w : ℕ) → number < w → number + digit b * w < w * 2
  unfolding digit
  fewer true number w h = omega arith
  fewer false number w h = let z : 0 * w ≡ 0 = zero-mul w in omega arith

  module _ {set number place rest t rest' : ℕ} (c : Counted set number place rest) (u : Turn 64 rest t rest') where
    size-turn : size 64 rest ≡ suc (size 64 rest')
    unfolding size
    size-turn = ap length (members-turn u)

    pub place_small : place < 64
    place_small = omega (arith, c.room, size-turn)

    due_there : has all t ≡ p t
    due_there = rw (has-those 64 timers p t u.lowest.small, is_true (has timers t) (c.part t (of_true u.lowest.member)))

    number_turn : due_number (members 64 rest) all ≡ digit (has all t) + 2 * due_number (members 64 rest') all
    unfolding due_number
    number_turn = ap (λ (l : List ℕ). due_number l all) (members-turn u)

    pub number_small : number + digit (p t) * 2 ^ place < 2 ^ 64
    number_small =
        lt_of_lt_of_le (fewer (p t) number (2 ^ place) c.small)
        (subst (λ (x : ℕ). x ≤ 2 ^ 64) (pow-suc 2 place) (pow-le-pow_right (omega arith) {i = suc place} place_small))

    double : 2 ^ (place + 1) ≡ 2 ^ place * 2
    double = ap (λ (x : ℕ). 2 ^ x) (add-one place) ∙ pow-suc 2 place

    pub counted_turn : Counted (union set (digit (p t) * 2 ^ t)) (number + digit (p t) * 2 ^ place) (place + 1) rest'
    counted_turn =
        record {
          fits = u.fits;
          part = subset_turn timers u c.part;
          built = those_tested timers p u c.part c.built refl refl;
          small = rw double (fewer (p t) number (2 ^ place) c.small);
          room = omega (arith, c.room, size-turn);
          sum = rw double (more (p t) number (2 ^ place) (due_number (members 64 rest') all) ∙ rw (← due_there, ← number_turn) c.sum);
        }

  pub counted_done : {set number place rest : ℕ} → Counted set number place rest → rest ≡ 0
      → (set ≡ all) × (number ≡ 2 ^ low * due_number (members 64 timers) all)
  unfolding due_number
  counted_done {set} {number} {place} {rest} c z = (
    c.built ∙ those_done 64 timers rest p z,
    rw (z, members_none, mul-zero, add-zero) at c.sum,
  )

-- none due
pub number_none : (ts : List ℕ) → due_number ts 0 ≡ 0
unfolding due_number digit
number_none [] = refl
number_none (t ∷ ts) = rw (has_none t, number_none ts)

-- from bit 0 on there is room for every timer
pub room_from_0 : (timers : ℕ) → 0 + size 64 timers ≤ 64
room_from_0 timers = omega (arith, size-le 64 timers)
