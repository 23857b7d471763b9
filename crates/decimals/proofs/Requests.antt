-- What a request that is accepted has, and how its tests go. Assumes nothing.
use mathlib.Core.Path.{◌≡◌, refl, sym, ap}
use mathlib.Core.Bool.{Bool, true, false, cond}
use mathlib.Core.List.{List}
use Prim.Native.Nat.{ℕ, ◌+◌, ◌≤◌}
use lib.Dec.{eqb→eq, leb→le}
use lib.ListN.{length}
use borrow.Author.Tests.{le-leb, eq-eqb}
use Rattle.std.proofs.Common.{None, Some}
use Rattle.std.proofs.lemmas.Option.{none-some, same_Some}
use Rattle.meaning.specs.Lists.{all_of}
use Rattle.meaning.proofs.ListLaws.{all_of_e}
use Rattle.sets.proofs.Tests.{is_true, is_false, of_true}
use Rattle.decimals.specs.declared.request.Request.{Request}
use Rattle.decimals.specs.Request.{most_words, most_ticks, sheet_length, tick_count, request_ok, asked}

pub record Accepted (numbers : List ℕ) : Type 0 where
  pub some : 1 ≤ length numbers
  pub sheet : sheet_length numbers ≤ most_words
  pub long : 2 + sheet_length numbers ≤ length numbers
  pub ticks : tick_count numbers ≤ most_ticks
  pub whole : length numbers ≡ 2 + sheet_length numbers + tick_count numbers

module _ (numbers : List ℕ) where
  pub accepted : request_ok numbers ≡ true → Accepted numbers
  unfolding request_ok
  accepted e =
      let h = all_of_e _ (of_true e) in
      record {
        some = leb→le _ _ h.0;
        sheet = leb→le _ _ h.1.0;
        long = leb→le _ _ h.1.1.0;
        ticks = leb→le _ _ h.1.1.1.0;
        whole = eqb→eq _ _ h.1.1.1.1.0;
      }

  pub unaccepted : (Accepted numbers → ⊥) → request_ok numbers ≡ false
  unaccepted lacks = is_false (request_ok numbers) (λ h. lacks (accepted (is_true (request_ok numbers) h)))

  -- what is asked, accepted or not
  pub asked_ok : Accepted numbers → Some (record { words = sheet_length numbers; ticks = tick_count numbers }) ≡ asked numbers
  unfolding asked request_ok all_of
  asked_ok h = rw (le-leb _ _ h.some, le-leb _ _ h.sheet, le-leb _ _ h.long, le-leb _ _ h.ticks, eq-eqb _ _ h.whole)

  pub asked-not : (Accepted numbers → ⊥) → None ≡ asked numbers
  unfolding asked
  asked-not lacks = rw (unaccepted lacks)

-- what an answer of `asked` tells
pub record Asked (numbers : List ℕ) (q : Request) : Type 0 where
  pub ok : request_ok numbers ≡ true
  pub words : q.words ≡ sheet_length numbers
  pub ticks : q.ticks ≡ tick_count numbers
  pub accepted : Accepted numbers

module _ (numbers : List ℕ) where
  abbrev numbers_of : Request
  numbers_of = record { words = sheet_length numbers; ticks = tick_count numbers }

  pub asked_some : (q : Request) → Some q ≡ asked numbers → Asked numbers q
  unfolding asked
  asked_some q h = go (request_ok numbers) refl h
    where
      go : (b : Bool) → request_ok numbers ≡ b → Some q ≡ cond b (Some numbers_of) None → Asked numbers q
      go true e k =
          let same = same_Some q numbers_of k in
          record {
            ok = e;
            words = ap (λ (r : Request). r.words) same;
            ticks = ap (λ (r : Request). r.ticks) same;
            accepted = accepted numbers e;
          }
      go false e k = absurd (none-some q (sym k))

  pub asked_none : None ≡ asked numbers → request_ok numbers ≡ false
  unfolding asked
  asked_none h = go (request_ok numbers) h
    where
      go : (b : Bool) → None ≡ cond b (Some numbers_of) None → b ≡ false
      go true k = absurd (none-some numbers_of k)
      go false k = refl
