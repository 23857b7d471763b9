-- `run::ages::enter_by_words` meets its contract. Assumes nothing.
use Rattle.std.proofs.Common.{◌≡◌, ℕ, ◌+◌, ◌-◌, ◌*◌, ◌<◌, List, length, get_or, arith, refl, sym, ap, ap₂, ◌∙◌}
use Rattle.sets.specs.Sets.{meet, minus}
use Rattle.meaning.proofs.ListLaws.{row_from-length}
use Rattle.run.specs.Entries.{entered_at, limits_by}
use Rattle.run.proofs.EntryLaws.{limits_none, limits_first, not_found, found_turn}
use Rattle.run.proofs.ages.enter_by_words.Goals as goal

pub returns-then-set-eq0 : goal.returns-then-set-eq0
returns-then-set-eq0 c = sym (ap (λ (x : ℕ). limits_by c.args.limits.now c.args.out.now x c.args.done) c.if-set-eq0.true ∙ limits_none _ _ _ c.requires.0)

-- the modes found in a tick are stored, and looked for no more
left : (limits new out : List ℕ) (wanted less p : ℕ) {found : ℕ} → 0 < p → found ≡ meet wanted (get_or out (5 * (p - 1)) 0)
    → new ≡ entered_at found (p - 1 + 1) limits → less ≡ minus wanted found → limits_by new out less (p - 1) ≡ limits_by limits out wanted p
left limits new out wanted less p h e n l =
    ap₂ (λ (x : List ℕ) (y : ℕ). limits_by x out y (p - 1)) n l
    ∙ found_turn limits out wanted (p - 1) e
    ∙ ap (λ (n : ℕ). limits_by limits out wanted n) (omega arith)

pub returns-then-wanted-eq0 : goal.returns-then-wanted-eq0
returns-then-wanted-eq0 c =
    let l = c.loop-p in
    let out = c.args.out.now in
    let long : length c.enter.new.limits ≡ 32 = ap length c.enter.ensures ∙ row_from-length _ 0 32 in
    sym (limits_none c.enter.new.limits out (l.p - 1) long)
    ∙ ap (λ (x : ℕ). limits_by c.enter.new.limits out x (l.p - 1)) (sym c.if-wanted-eq0.true)
    ∙ left l.limits _ out l.wanted _ l.p (omega arith) refl c.enter.ensures c.minus-wanted.ensures ∙ l.invariant.same

pub loop-p-preserved-else-wanted-eq0 : goal.loop-p-preserved-else-wanted-eq0
loop-p-preserved-else-wanted-eq0 c =
    let l = c.loop-p in
    record {
      long = ap length c.enter.ensures ∙ row_from-length _ 0 32;
      same = left l.limits _ c.args.out.now l.wanted _ l.p (omega arith) refl c.enter.ensures c.minus-wanted.ensures ∙ l.invariant.same;
    }

pub loop-p-preserved : goal.loop-p-preserved
loop-p-preserved c =
    let l = c.loop-p in
    let out = c.args.out.now in
    record {
      long = l.invariant.long;
      same = not_found l.limits out l.wanted (l.p - 1) c.if-found-ne0.false
          ∙ ap (λ (n : ℕ). limits_by l.limits out l.wanted n) (omega arith) ∙ l.invariant.same;
    }

pub returns : goal.returns
returns c =
    let l = c.loop-p in
    let out = c.args.out.now in
    sym (limits_first l.limits out l.wanted l.invariant.long) ∙ ap (λ (n : ℕ). limits_by l.limits out l.wanted n) (omega arith) ∙ l.invariant.same
