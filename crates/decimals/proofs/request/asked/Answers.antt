-- `decimals::request::asked` meets its contract: each test that fails refuses, and numbers that pass all are accepted. Assumes nothing.
use Rattle.std.proofs.Common.{◌≡◌, ℕ, ◌+◌, get_or, ap, ◌∙◌, arith}
use Rattle.decimals.specs.Request.{sheet_length, tick_count}
use Rattle.decimals.proofs.Requests.{asked_ok, asked-not}
use Rattle.decimals.proofs.request.asked.Goals as goal
use Rattle.decimals.proofs.request.asked.Goals.{then-ticks-gt-MOST_TICKS-via-then-ticks-gt-MOST_TICKS, then-ticks-gt-MOST_TICKS-via-else-ticks-gt-MOST_TICKS+then-numbers-words}

pub returns-in_err-words : goal.returns-in_err-words
returns-in_err-words c = c.from_residual.ensures ∙ asked-not _ (λ k. omega (arith, k.some, c.in_err-words.ensures.item.3))

pub returns-then-words-gt-MOST_WORDS : goal.returns-then-words-gt-MOST_WORDS
unfolding sheet_length
returns-then-words-gt-MOST_WORDS c = asked-not _ (λ k. omega (arith, k.sheet, c.in_ok-words.ensures.item.3.1 0))

pub returns-in_err-ticks : goal.returns-in_err-ticks
unfolding sheet_length
returns-in_err-ticks c =
    c.from_residual-in_err-ticks.ensures
    ∙ asked-not _ (λ k. omega (arith, k.long, c.in_ok-words.ensures.item.3.1 0, c.in_err-ticks.ensures.lookup.3))

pub returns-then-ticks-gt-MOST_TICKS : goal.returns-then-ticks-gt-MOST_TICKS
unfolding sheet_length tick_count
returns-then-ticks-gt-MOST_TICKS c =
    let n = c.args.numbers.now in
    let words : c.in_ok-words.field-0.now ≡ sheet_length n = c.in_ok-words.ensures.item.3.1 0 in
    let ticks : c.in_ok-ticks.field-0.now ≡ tick_count n = c.in_ok-ticks.ensures.lookup.3.1 0 ∙ ap (λ (v : ℕ). get_or n (1 + v) 0) words in
    asked-not n
    (λ k. elim c.then-ticks-gt-MOST_TICKS.branch [
      | then-ticks-gt-MOST_TICKS-via-then-ticks-gt-MOST_TICKS w ↦ omega (arith, k.ticks, ticks)
      | then-ticks-gt-MOST_TICKS-via-else-ticks-gt-MOST_TICKS+then-numbers-words w ↦ omega (arith, k.whole, words, ticks)
    ])

pub returns : goal.returns
unfolding sheet_length tick_count
returns c =
    let n = c.args.numbers.now in
    let words : c.in_ok-words.field-0.now ≡ sheet_length n = c.in_ok-words.ensures.item.3.1 0 in
    let ticks : c.in_ok-ticks.field-0.now ≡ tick_count n = c.in_ok-ticks.ensures.lookup.3.1 0 ∙ ap (λ (v : ℕ). get_or n (1 + v) 0) words in
    rw (words, ticks)
    (asked_ok n record {
      some = omega (arith, c.in_ok-words.ensures.item.3.0);
      sheet = omega (arith, words);
      long = omega (arith, words, c.in_ok-ticks.ensures.lookup.3.0);
      ticks = omega (arith, ticks);
      whole = omega (arith, words, ticks);
    })
