-- The modes within each mode and the modes that contain each, worked out in one pass over the modes; the meeting mode from the latter.
-- Assumes nothing.
use mathlib.Core.Path.{◌≡◌, refl, sym, ap, ap₂, ◌∙◌, subst}
use mathlib.Core.Logic.{⊎_elim}
use mathlib.Core.Bool.{Bool, true, false, not, ◌&&◌, ◌||◌, or_comm}
use mathlib.Core.List.{List}
use Prim.Native.Nat.{ℕ, zero, suc, ◌+◌, ◌-◌, ◌^◌, ◌≤◌, ◌<◌}
use native.Mathlib.Nat.{le_refl, le_antisymm, lt_of_le_of_lt, lt_of_lt_of_le, pow-le-pow_right, eq-zero-or-pos, eq-or-lt_of_le}
use native.Mathlib.Omega.{arith}
use lib.Dec.{T, eqb, eqb→eq, not_T}
use lib.ListN.{length, get_or, set}
use borrow.Author.Tests.{eqb-false, eq-eqb, ne_eqb}
use Rattle.sets.specs.Sets.{has, union, meet, single, set_of, some, highest}
use Rattle.sets.proofs.Tests.{is_true, is_false, of_true, of_false, and_l, and_r, and_i, or_e, or_l, or_r, bool_ext, eqb-sym, below_or_not}
use Rattle.sets.proofs.Membership.{has_none, has_above, has-union, has_meet, has-single, has-set_of, set_of-lt, meet-le, same_members}
use Rattle.sets.proofs.Facts.{has-lt}
use Rattle.sets.proofs.Quantifiers.{some_same, some-false}
use Rattle.sets.proofs.Highest.{Highest, highest_member}
use Rattle.sets.proofs.Loops.{row-turn}
use Rattle.meaning.specs.Sheet.{n_of, parent, is_child, contains, strictly_contains, meeting_from, meeting_of}
use Rattle.meaning.specs.Within.{within, within_each}
use Rattle.meaning.proofs.ListLaws.{row_at}
use Rattle.meaning.proofs.SheetLaws.{Rooted, parent-le, parent_n}
use Rattle.meaning.proofs.Containment.{Within, here, up, within_le, within_root, within_trans, within_strict, contains_e, contains_i}
use Rattle.meaning.proofs.Fuel.{meeting_climbs, climb_same, climb_found, climb_step}
use Rattle.meaning.proofs.WithinLaws.{contains_strictly, strictly_by_child, has_within, within_none}
use Rattle.sheet.specs.Masks.{containers, Containers, Withins}
use Rattle.sheet.proofs.Passes.{Added, added_start, added_turn, added_whole}

-- ---- the modes within each mode: each mode adds itself and what is within it to its parent

module _ (s : List ℕ) where
  -- a mode and the modes within it
  abbrev inside : ℕ → ℕ
  inside c = set_of (n_of s) (contains s c)

  abbrev none : ℕ → ℕ → Bool
  none p i = false

  abbrev adds : ℕ → ℕ → Bool
  adds c i = has (inside c) i

  -- the words after the modes from m on were added
  abbrev pub WithinFrom : ℕ → List ℕ → Type 0
  WithinFrom m words = Added s none adds m words

  -- the words of the modes below m are the modes that contain each
  abbrev pub ContainersTo : ℕ → List ℕ → Type 0
  ContainersTo m words = (p : ℕ) → p < m → get_or words p 0 ≡ containers s p

module _ (s : List ℕ) (ro : Rooted s) where
  inside_none : (c i : ℕ) → n_of s ≤ i → has (inside s c) i ≡ false
  inside_none c i l = has_above (n_of s) (inside s c) i (set_of-lt (n_of s) (contains s c)) l

  within_children : (p i : ℕ) → some (n_of s) (λ c. is_child s p c && has (inside s c) i) ≡ has (within s p) i
  within_children p i =
      ⊎_elim
      (λ (l : i < n_of s).
      some_same (n_of s) (λ c. is_child s p c && has (inside s c) i) (λ c. is_child s p c && contains s c i) (λ c k. ap (λ (b : Bool). is_child s p c && b) (has-set_of (n_of s) (contains s c) i l))
      ∙ sym (strictly_by_child s ro p i l) ∙ sym (has_within s p i l))
      (λ (l : n_of s ≤ i).
      some-false (n_of s) (λ c. is_child s p c && has (inside s c) i) (λ c k. is_false (is_child s p c && has (inside s c) i) (λ h. of_false (inside_none c i l) (and_r (is_child s p c) (has (inside s c) i) h)))
      ∙ sym (within_none s p i l)) (below_or_not i (n_of s))

  -- what a mode adds
  pub has_inside : (m i : ℕ) → m < n_of s → has (union (within s m) (single m)) i ≡ has (inside s m) i
  has_inside m i k =
      has-union (within s m) (single m) i
      ∙ ⊎_elim
      (λ (l : i < n_of s).
      ap₂ ◌||◌ (has_within s m i l) (has-single m i ∙ eqb-sym i m)
      ∙ or_comm (strictly_contains s m i) (eqb m i)
      ∙ sym (contains_strictly s m i) ∙ sym (has-set_of (n_of s) (contains s m) i l))
      (λ (l : n_of s ≤ i). ap₂ ◌||◌ (within_none s m i l) (has-single m i ∙ ne_eqb i m (λ e. omega arith)) ∙ sym (inside_none m i l)) (below_or_not i (n_of s))

  pub inside_is : (m : ℕ) → m < n_of s → union (within s m) (single m) ≡ set_of (n_of s) (contains s m)
  inside_is m k = same_members (λ i. has_inside m i k)

  word_whole : (words : List ℕ) (m p : ℕ) → m ≤ p + 1 → WithinFrom s m words → get_or words p 0 ≡ within s p
  word_whole words m p h a = same_members (λ i. a p i ∙ added_whole s (none s) (adds s) ro m p i h ∙ within_children p i)

  pub within_start : (words : List ℕ) (n : ℕ) → n ≡ n_of s → ((p : ℕ) → get_or words p 0 ≡ 0) → WithinFrom s n words
  within_start words n e f = added_start s (none s) (adds s) words n e (λ p i. ap (λ (w : ℕ). has w i) (f p) ∙ has_none i)

  pub within_turn : (words : List ℕ) (m p b : ℕ) → 1 < m → m ≤ n_of s → p ≡ parent s (m - 1) → p < length words → b ≡ single (m - 1)
      → WithinFrom s m words → WithinFrom s (m - 1) (set words p (union (get_or words p 0) (union (get_or words (m - 1) 0) b)))
  within_turn words m p b h l e room k a =
      let up_one : m ≡ m - 1 + 1 = omega arith in
      let a' : WithinFrom s (m - 1 + 1) words = subst (λ (i : ℕ). WithinFrom s i words) up_one a in
      let m' = m - 1 in
      added_turn s (none s) (adds s) words m' p (union (get_or words m' 0) b) (omega arith) (omega arith) e room a'
      (λ i. ap₂ (λ (x y : ℕ). has (union x y) i) (word_whole words (m' + 1) m' (omega arith) a') k ∙ has_inside m' i (omega arith))

  pub within_end : (words : List ℕ) (m p : ℕ) → m ≤ 1 → WithinFrom s m words → get_or words p 0 ≡ within s p
  within_end words m p h a = word_whole words m p (omega arith) a

  -- ---- the modes that contain each mode: itself and those that contain its parent

  pub has-containers : (m i : ℕ) → m < n_of s → has (containers s m) i ≡ contains s i m
  unfolding containers
  has-containers m i l =
      ⊎_elim (λ k. has-set_of (n_of s) (λ p. contains s p m) i k)
      (λ (k : n_of s ≤ i).
      has_above (n_of s) (set_of (n_of s) (λ p. contains s p m)) i (set_of-lt (n_of s) (λ p. contains s p m)) k
      ∙ sym (is_false (contains s i m) (λ c. omega (arith, within_le s ro (contains_e s ro i m c) l)))) (below_or_not i (n_of s))

  contains_end : (a x : ℕ) → x ≤ a → x < n_of s → contains s a x ≡ eqb x a
  contains_end a x h l =
      ⊎_elim
      (λ (e : x ≡ a). is_true (contains s a x) (rw (sym e) (contains_i s ro x here l)) ∙ sym (eq-eqb x a e))
      (λ (k : x < a). is_false (contains s a x) (λ c. omega (arith, within_le s ro (contains_e s ro a x c) l)) ∙ sym (ne_eqb x a (λ e. omega arith)))
      (eq-or-lt_of_le h)

  root_alone : 0 < n_of s → 1 ≡ containers s 0
  root_alone l = same_members (λ i. has-single 0 i ∙ sym (has-containers 0 i l ∙ contains_end i 0 (omega arith) l ∙ eqb-sym 0 i))

  pub containers_start : (words : List ℕ) → 0 < n_of s → get_or words 0 0 ≡ 1 → ContainersTo s 1 words
  containers_start words l e p k = let z : p ≡ 0 = omega arith in rw (z, e) (root_alone l)

  pub contains-parent : (p m : ℕ) → 0 < m → m < n_of s → contains s p m ≡ (contains s p (parent s m) || eqb p m)
  contains-parent p m pos l =
      bool_ext (contains s p m) (contains s p (parent s m) || eqb p m)
      (λ h. go (eqb p m) refl (contains_e s ro p m h))
      (λ h. ⊎_elim (λ a. contains_i s ro m (up pos (contains_e s ro p (parent s m) a)) l) (λ a. rw (eqb→eq p m a) (contains_i s ro m here l)) (or_e (contains s p (parent s m)) (eqb p m) h))
    where
      go : (b : Bool) → eqb p m ≡ b → Within s p m → T (contains s p (parent s m) || b)
      go true e w = or_r (contains s p (parent s m)) true tt
      go false e w = or_l (contains s p (parent s m)) false (contains_i s ro (parent s m) (within_strict w (eqb-false p m e)).1 (parent_n s ro m l))

  containers-parent : (m : ℕ) → 0 < m → m < n_of s → union (containers s (parent s m)) (single m) ≡ containers s m
  containers-parent m pos l =
      same_members (λ i.
      has-union (containers s (parent s m)) (single m) i
      ∙ ap₂ ◌||◌ (has-containers (parent s m) i (parent_n s ro m l)) (has-single m i)
      ∙ sym (has-containers m i l ∙ contains-parent i m pos l))

  pub containers-turn : (words : List ℕ) (m p b : ℕ) → 0 < m → m < n_of s → m < length words → p ≡ parent s m → b ≡ single m
      → ContainersTo s m words → ContainersTo s (m + 1) (set words m (union (get_or words p 0) b))
  containers-turn words m p b pos l room e k a =
      row-turn (containers s) words m room a (ap₂ union (a p (rw e (ro.lower m pos l)) ∙ ap (containers s) e) k ∙ containers-parent m pos l)

  pub containers_end : (words : List ℕ) (m : ℕ) → n_of s ≤ m → ContainersTo s m words → Containers s words
  unfolding Containers
  containers_end words m l a p k = a p (omega arith)

  -- ---- the meeting mode of two modes of which neither contains the other

  meeting_start : (a b : ℕ) → a < n_of s → meeting_of s a b ≡ meeting_from s (parent s a) (parent s a) b
  unfolding meeting_of
  meeting_start a b l = climb_same ro (meeting_climbs s b) a (parent s a) (parent s a) (parent-le s ro a l) (le_refl (parent s a)) (parent_n s ro a l)

  module _ (a b : ℕ) (an : a < n_of s) (bn : b < n_of s) (na : contains s a b ≡ false) (nb : contains s b a ≡ false) where
    abbrev common : ℕ
    common = meet (containers s a) (containers s b)

    common_e : (i : ℕ) → T (has common i) → Within s i a × Within s i b
    common_e i h =
        let g : has common i ≡ (contains s i a && contains s i b) = has_meet (containers s a) (containers s b) i ∙ ap₂ ◌&&◌ (has-containers a i an) (has-containers b i bn) in
        let k = subst (λ (t : Bool). T t) g h in
        (contains_e s ro i a (and_l (contains s i a) (contains s i b) k), contains_e s ro i b (and_r (contains s i a) (contains s i b) k))

    common_i : (i : ℕ) → Within s i a → Within s i b → T (has common i)
    common_i i v w =
        of_true (has_meet (containers s a) (containers s b) i ∙ ap₂ ◌&&◌ (has-containers a i an ∙ is_true _ (contains_i s ro a v an)) (has-containers b i bn ∙ is_true _ (contains_i s ro b w bn)))

    common_lt : common < 2 ^ n_of s
    unfolding containers
    common_lt = lt_of_le_of_lt (meet-le (containers s a) (containers s b)) (set_of-lt (n_of s) (λ p. contains s p a))

    -- the root is among them
    pub common_some : 0 < common
    common_some = ⊎_elim (λ (e : common ≡ 0). absurd (of_false (has_none 0) (subst (λ (x : ℕ). T (has x 0)) e (common_i 0 (within_root s ro a a (le_refl a) an) (within_root s ro b b (le_refl b) bn))))) (λ k. k) (eq-zero-or-pos common)

    module _ (h : ℕ) (top : Highest 32 common h) where
      holds_b : strictly_contains s h b ≡ true
      unfolding strictly_contains
      holds_b =
          let w = common_e h top.member in
          is_true (not (eqb h b) && contains s h b)
          (and_i (not (eqb h b)) (contains s h b)
          (not_T (eqb h b) (λ e. of_false nb (subst (λ (i : ℕ). T (contains s i a)) (eqb→eq h b e) (contains_i s ro a w.0 an))))
          (contains_i s ro b w.1 bn))

      below_top : (x : ℕ) → Within s x a → strictly_contains s x b ≡ true → x ≤ h
      unfolding strictly_contains
      below_top x w e = top.most x (common_i x w (contains_e s ro x b (and_r (not (eqb x b)) (contains s x b) (of_true e))))

      -- the climb from a mode x that h contains and that contains a ends at h
      climb : (k x : ℕ) → x ≤ k → x < n_of s → Within s h x → Within s x a → meeting_from s x x b ≡ h
      climb zero x l xn v w =
          let e : x ≡ h = le_antisymm (omega arith) (within_le s ro v xn) in
          climb_found ro (meeting_climbs s b) x x (rw e holds_b) ∙ e
      climb (suc k) x l xn v w = go (strictly_contains s x b) refl (climb k (parent s x))
        where
          go : (t : Bool) → strictly_contains s x b ≡ t
              → (parent s x ≤ k → parent s x < n_of s → Within s h (parent s x) → Within s (parent s x) a → meeting_from s (parent s x) (parent s x) b ≡ h)
              → meeting_from s x x b ≡ h
          go true e ih = climb_found ro (meeting_climbs s b) x x e ∙ le_antisymm (below_top x w e) (within_le s ro v xn)
          go false e ih =
              let r = within_strict v (λ q. of_false e (subst (λ (i : ℕ). T (strictly_contains s i b)) q (of_true holds_b))) in
              let lower = ro.lower x r.0 xn in
              climb_step ro (meeting_climbs s b) x r.0 xn e ∙ ih (omega arith) (parent_n s ro x xn) r.1 (within_trans (up r.0 here) w)

      meeting_top : meeting_of s a b ≡ h
      meeting_top =
          let w = common_e h top.member in
          let r = within_strict w.0 (λ e. of_false na (subst (λ (i : ℕ). T (contains s i b)) e (contains_i s ro b w.1 bn))) in
          meeting_start a b an ∙ climb (parent s a) (parent s a) (le_refl (parent s a)) (parent_n s ro a an) r.1 (up r.0 here)

    module _ (small : n_of s ≤ 32) where
      top : Highest 32 common (highest 32 common)
      top = highest_member 32 common (lt_of_lt_of_le common_lt (pow-le-pow_right {n = 2} (omega arith) small)) common_some

      pub meeting-highest : highest 32 common ≡ meeting_of s a b
      meeting-highest = sym (meeting_top (highest 32 common) top)

      pub meeting_mode : highest 32 common < n_of s
      meeting_mode = has-lt (n_of s) common (highest 32 common) common_lt top.member

-- ---- the words read

pub containers_word : (s words : List ℕ) → Containers s words → (p : ℕ) → p < n_of s → get_or words p 0 ≡ containers s p
unfolding Containers
containers_word s words h p l = h p l

pub contains_word : (s words : List ℕ) → Rooted s → Containers s words → (a m : ℕ) → m < n_of s → has (get_or words m 0) a ≡ contains s a m
contains_word s words ro h a m l = ap (λ (w : ℕ). has w a) (containers_word s words h m l) ∙ has-containers s ro m a l

pub within_word : (s words : List ℕ) → Withins s words → (p : ℕ) → p < n_of s → get_or words p 0 ≡ within s p
unfolding Withins
within_word s words h p l = h p l

pub withins_of : (s words : List ℕ) → n_of s ≤ 32 → words ≡ within_each s → Withins s words
unfolding Withins within_each
withins_of s words small e p l = ap (λ (w : List ℕ). get_or w p 0) e ∙ row_at 32 (within s) p (omega arith)

pub meeting_words : (s words : List ℕ) → Rooted s → n_of s ≤ 32 → Containers s words → (a b : ℕ) → a < n_of s → b < n_of s → contains s a b ≡ false → contains s b a ≡ false
    → let x = meet (get_or words a 0) (get_or words b 0) in (0 < x) × (highest 32 x ≡ meeting_of s a b) × (highest 32 x < n_of s)
meeting_words s words ro small h a b an bn na nb =
    rw (containers_word s words h a an, containers_word s words h b bn)
    (common_some s ro a b an bn na nb, meeting-highest s ro a b an bn na nb small, meeting_mode s ro a b an bn na nb small)
