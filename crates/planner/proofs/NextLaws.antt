-- The events that transitions name and the words of modes and transitions, while the transitions are looked at one by one, and what they
-- are at the end. Assumes nothing.
use mathlib.Core.Path.{◌≡◌, refl, sym, ap, ap₂, ◌∙◌}
use mathlib.Core.Bool.{Bool, true, false, ◌&&◌, ◌||◌, and-false, or-false, or_assoc}
use mathlib.Core.List.{List}
use Prim.Native.Nat.{ℕ, ◌+◌, ◌<◌}
use native.Mathlib.Decide.{ℕ_discrete}
use native.Mathlib.Omega.{arith}
use lib.Dec.{T, eqb, ltb, lt→ltb}
use borrow.Author.Tests.{eq-eqb, ne_eqb, le-ltb}
use lib.ListN.{length, get_or, set, replicate}
use lib.Seq.{get_or-set_same, get_or-set_other}
use Rattle.sets.specs.Sets.{has, union, single, some}
use Rattle.sets.proofs.Tests.{is_true, of_true, bool_ext, and_i, and_r}
use Rattle.sets.proofs.Facts.{some_e}
use Rattle.sets.proofs.Members.{Turn, without_it, without_other}
use Rattle.sets.proofs.Those.{Subset}
use Rattle.sets.proofs.Membership.{has_none, has-union, has-single, same_members, set_of-has}
use Rattle.sets.proofs.Quantifiers.{some_same, some-false}
use Rattle.sets.proofs.Loops.{get_or_zeros, some_or, below_next, set_word_has}
use Rattle.meaning.specs.Sheet.{n_of, k_of, t_of, source, contains, term_count}
use Rattle.meaning.specs.Check.{sheet_refusal}
use Rattle.meaning.specs.NamedEvents.{names}
use Rattle.meaning.proofs.SheetLaws.{sound}
use Rattle.meaning.proofs.NamedLaws.{names_event}
use Rattle.hierarchy.specs.Unions.{UnionWithin}
use Rattle.reaction.specs.Plan.{named_in, named_all}
use Rattle.planner.specs.Parts.{Words, from_of}
use Rattle.planner.specs.Looks.{AddedTo, Added, LooksTo, LookedTo, EntryWords, ExitWords, looks_entry, looks_exit, looks_taken, taken_of, named_of}
use Rattle.planner.proofs.LookLaws.{names_are, entry_is, exit_is, taken_is}

-- ---- a transition added to the words of a set

module _ (old : List ℕ) (xs t : ℕ) where
  -- while the members of `rest` are to come
  abbrev pub AddedBut : List ℕ → ℕ → Type 0
  AddedBut new rest = (k i : ℕ) → (has (get_or new k 0) i || (has rest k && eqb i t)) ≡ (has (get_or old k 0) i || (has xs k && eqb i t))

  -- each member has a word
  pub added_room : {rest k r : ℕ} (n : ℕ) → ((j : ℕ) → has xs j ≡ true → j < n) → Subset rest xs → Turn 64 rest k r → k < n
  added_room {rest} {k} n h p u = h k (is_true (has xs k) (p k (of_true u.lowest.member)))

  pub added_turn : (new : List ℕ) {rest k r x : ℕ} → k < length new → AddedBut new rest → Turn 64 rest k r → x ≡ single t
      → AddedBut (set new k (union (get_or new k 0) x)) r
  added_turn new {rest} {k} {r} {x} b d u e j i = word (ℕ_discrete j k) ∙ d j i
    where
      v : ℕ
      v = union (get_or new k 0) x

      word : Dec (j ≡ k) → (has (get_or (set new k v) j 0) i || (has r j && eqb i t)) ≡ (has (get_or new j 0) i || (has rest j && eqb i t))
      word (yes q) =
          rw (q, get_or-set_same new k v 0 b, e, has-union (get_or new k 0) (single t) i, has-single t i, u.removed, without_it rest k, u.lowest.member)
          (or-false (has (get_or new k 0) i || eqb i t))
      word (no n) = rw (get_or-set_other new k j v 0 n, u.removed, without_other rest k j n)

  pub added_done : (new : List ℕ) (rest : ℕ) → AddedBut new rest → rest ≡ 0 → AddedTo old new xs t
  added_done new rest d e k i =
      sym (ap (λ (r : ℕ). has (get_or new k 0) i || (has r k && eqb i t)) e ∙ rw (has_none k) (or-false (has (get_or new k 0) i))) ∙ d k i

-- ---- the loop over the transitions: words to which the transitions that pass a test are added

module _ (looks : ℕ → ℕ → Bool) where
  added_none : (l : List ℕ) → Added looks 0 l l
  added_none l i u =
      sym (ap (λ (b : Bool). has (get_or l i 0) u || (b && looks u i)) (le-ltb u 0 (omega arith)) ∙ or-false (has (get_or l i 0) u))

  added_more : (old now new : List ℕ) (t xs : ℕ) → Added looks t old now → AddedTo now new xs t → ((i : ℕ) → has xs i ≡ looks t i) → Added looks (t + 1) old new
  added_more old now new t xs h d e i u =
      let x = has (get_or old i 0) u in
      d i u
      ∙ ap₂ (λ (a b : Bool). a || (b && eqb u t)) (h i u) (e i)
      ∙ or_assoc x (ltb u t && looks u i) (looks t i && eqb u t)
      ∙ ap (λ (b : Bool). x || b) (below_next (λ v. looks v i) t u)

  added_skip : (old now : List ℕ) (t : ℕ) → Added looks t old now → ((i : ℕ) → looks t i ≡ false) → Added looks (t + 1) old now
  added_skip old now t h e i u =
      h i u
      ∙ ap (λ (b : Bool). has (get_or old i 0) u || b)
      (sym (or-false (ltb u t && looks u i)) ∙ ap (λ (b : Bool). (ltb u t && looks u i) || (b && eqb u t)) (sym (e i)) ∙ below_next (λ v. looks v i) t u)

  -- to words that were 0
  added_alone : (old new : List ℕ) (t : ℕ) → ((i : ℕ) → get_or old i 0 ≡ 0) → Added looks t old new → (i u : ℕ) → has (get_or new i 0) u ≡ (ltb u t && looks u i)
  added_alone old new t z h i u =
      h i u ∙ ap (λ (b : Bool). b || (ltb u t && looks u i)) (ap (λ (w : ℕ). has w u) (z i) ∙ has_none u)

module _ (s : List ℕ) where
  pub looked_start : {named : List ℕ} (entry exit next : List ℕ) → named ≡ replicate 32 0 → LookedTo s 0 named entry entry exit exit next next 0
  unfolding some
  looked_start entry exit next z =
      record {
        names_at = λ m e. ap (λ (l : List ℕ). has (get_or l m 0) e) z ∙ ap (λ (w : ℕ). has w e) (get_or_zeros 32 m) ∙ has_none e;
        entries = added_none (looks_entry s) entry;
        exits = added_none (looks_exit s) exit;
        takes = added_none (looks_taken s) next;
        events = has_none;
      }

  module _ (h : sheet_refusal s ≡ 0) (t : ℕ) (l : t < t_of s) {named entry₀ entry exit₀ exit next₀ next : List ℕ} {all : ℕ}
      (d : LookedTo s t named entry₀ entry exit₀ exit next₀ next all) where
    -- one transition more: its events are put into the word of its source, it is added to the words of the modes and transitions
    module _ {k es ms xs ts : ℕ} (o : LooksTo s t (term_count s t) es ms xs ts) (at : k ≡ source s t) (room : k < length named) where
      named-turn : (m e : ℕ) → has (get_or (set named k (union (get_or named k 0) es)) m 0) e ≡ some (t + 1) (λ u. has (single m) (source s u) && names s u e)
      named-turn m e =
          set_word_has named k (union (get_or named k 0) es) m e room
          (λ q.
          let here : has (single m) (source s t) ≡ true = has-single m (source s t) ∙ eq-eqb (source s t) m (sym at ∙ sym q) in
          has-union (get_or named k 0) es e
          ∙ some_or (λ u. has (single m) (source s u) && names s u e) t (ap (λ (j : ℕ). has (get_or named j 0) e) (sym q) ∙ d.names_at m e)
          (names_are s h t l o e ∙ rw here))
          (λ q.
          let away : has (single m) (source s t) ≡ false = has-single m (source s t) ∙ ne_eqb (source s t) m (λ i. q (sym (at ∙ i))) in
          sym (or-false (has (get_or named m 0) e))
          ∙ some_or (λ u. has (single m) (source s u) && names s u e) t (d.names_at m e) (rw away))

      pub looked_turn : (entry' exit' next' : List ℕ) → AddedTo entry entry' ms t → AddedTo exit exit' xs t → AddedTo next next' ts t
          → LookedTo s (t + 1) (set named k (union (get_or named k 0) es)) entry₀ entry' exit₀ exit' next₀ next' (union all es)
      looked_turn entry' exit' next' a b c =
          record {
            names_at = named-turn;
            entries = added_more (looks_entry s) entry₀ entry entry' t ms d.entries a (entry_is s h t l o);
            exits = added_more (looks_exit s) exit₀ exit exit' t xs d.exits b (exit_is s h t l o);
            takes = added_more (looks_taken s) next₀ next next' t ts d.takes c (taken_is s h t l o);
            events = λ e. has-union all es e ∙ some_or (λ u. names s u e) t (d.events e) (names_are s h t l o e);
          }

    -- one transition more whose terms are about none of these
    module _ (o : LooksTo s t (term_count s t) 0 0 0 0) where
      not_named : (e : ℕ) → names s t e ≡ false
      not_named e = sym (names_are s h t l o e) ∙ has_none e

      pub looked_skip : LookedTo s (t + 1) named entry₀ entry exit₀ exit next₀ next all
      looked_skip =
          record {
            names_at =
                λ m e.
                sym (or-false (has (get_or named m 0) e))
                ∙ some_or (λ u. has (single m) (source s u) && names s u e) t (d.names_at m e)
                (sym (ap (λ (b : Bool). has (single m) (source s t) && b) (not_named e) ∙ and-false (has (single m) (source s t))));
            entries = added_skip (looks_entry s) entry₀ entry t d.entries (λ m. sym (entry_is s h t l o m) ∙ has_none m);
            exits = added_skip (looks_exit s) exit₀ exit t d.exits (λ m. sym (exit_is s h t l o m) ∙ has_none m);
            takes = added_skip (looks_taken s) next₀ next t d.takes (λ v. sym (taken_is s h t l o v) ∙ has_none v);
            events = λ e. sym (or-false (has all e)) ∙ some_or (λ u. names s u e) t (d.events e) (sym (not_named e));
          }

  pub looked_same : (entry₀ exit₀ next₀ : List ℕ) {n all all' : ℕ} {named named' entry entry' exit exit' next next' : List ℕ}
      → named ≡ named' → entry ≡ entry' → exit ≡ exit' → next ≡ next' → all ≡ all'
      → LookedTo s n named' entry₀ entry' exit₀ exit' next₀ next' all' → LookedTo s n named entry₀ entry exit₀ exit next₀ next all
  looked_same entry₀ exit₀ next₀ a b c f e d = rw (a, b, c, f, e) d

  pub looked_done : {n m : ℕ} {named entry₀ entry exit₀ exit next₀ next : List ℕ} {all : ℕ} → LookedTo s n named entry₀ entry exit₀ exit next₀ next all → n ≡ m
      → LookedTo s m named entry₀ entry exit₀ exit next₀ next all
  looked_done d e = rw e at d

-- ---- what the words are at the end

-- a test that implies another, and both
both : (a b : Bool) → (T b → T a) → b ≡ (a && b)
both a b f = bool_ext b (a && b) (λ q. and_i a b (f q) q) (and_r a b)

-- a test of the same in each case stands before them
before_some : (n : ℕ) (p q : ℕ → Bool) (b : Bool) → some n (λ i. p i && (b && q i)) ≡ (b && some n (λ i. p i && q i))
before_some n p q true = refl
before_some n p q false = some-false n (λ i. p i && false) (λ i l. and-false (p i))

module _ (s : List ℕ) (h : sheet_refusal s ≡ 0) {named entry₀ entry exit₀ exit next₀ next : List ℕ} {all : ℕ}
    (d : LookedTo s (t_of s) named entry₀ entry exit₀ exit next₀ next all) where
  -- events that some transition names are events of the sheet
  in_sheet : (e : ℕ) (p : ℕ → Bool) → ((u : ℕ) → T (p u) → T (names s u e)) → some (t_of s) p ≡ (ltb e (k_of s) && some (t_of s) p)
  in_sheet e p f =
      both (ltb e (k_of s)) (some (t_of s) p)
      (λ q.
      let r = some_e (t_of s) p q in
      lt→ltb e (k_of s) (names_event s (sound s h) r.0 e r.1 (f r.0 r.2)))

  pub events_done : all ≡ named_all s
  unfolding named_all
  events_done =
      same_members (λ e.
      d.events e ∙ in_sheet e (λ u. names s u e) (λ u q. q) ∙ sym (set_of-has (k_of s) (λ x. some (t_of s) (λ u. names s u x)) e))

  pub named_done : Words named 32 (named_of s)
  unfolding named_in
  named_done m l =
      same_members (λ e.
      d.names_at m e
      ∙ in_sheet e (λ u. has (single m) (source s u) && names s u e) (λ u. and_r (has (single m) (source s u)) (names s u e))
      ∙ sym (set_of-has (k_of s) (λ x. some (t_of s) (λ u. has (single m) (source s u) && names s u x)) e))

  pub taken_done : next₀ ≡ replicate 64 0 → Words next (t_of s) (taken_of s)
  unfolding taken_of
  taken_done z t l =
      same_members (λ u.
      added_alone (looks_taken s) next₀ next (t_of s) (λ i. ap (λ (w : List ℕ). get_or w i 0) z ∙ get_or_zeros 64 i) d.takes t u
      ∙ sym (set_of-has (t_of s) (λ v. looks_taken s v t) u))

  pub entries_done : Words entry₀ 32 (from_of s) → EntryWords s entry
  unfolding EntryWords
  entries_done w m u l = d.entries m u ∙ ap (λ (x : ℕ). has x u || (ltb u (t_of s) && looks_entry s u m)) (w m l)

  pub exits_done : exit₀ ≡ replicate 32 0 → (unions : List ℕ) → UnionWithin s exit unions → ExitWords s unions
  unfolding UnionWithin ExitWords
  exits_done z unions k p u l =
      k p u l
      ∙ some_same (n_of s) (λ m. contains s p m && has (get_or exit m 0) u) (λ m. contains s p m && (ltb u (t_of s) && looks_exit s u m))
      (λ m i.
      ap (λ (b : Bool). contains s p m && b)
      (added_alone (looks_exit s) exit₀ exit (t_of s) (λ j. ap (λ (w : List ℕ). get_or w j 0) z ∙ get_or_zeros 32 j) d.exits m u))
      ∙ before_some (n_of s) (contains s p) (looks_exit s u) (ltb u (t_of s))
