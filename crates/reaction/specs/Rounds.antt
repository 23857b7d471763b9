-- The structs of a tick as the sets and ticks of the meaning. Assumes nothing.
use Rattle.std.specs.Prelude.{Option, ◌≡◌, ◌⊎◌, cond, List, ℕ, zero, suc, ◌+◌, ◌*◌, ◌/◌, ◌%◌, ◌^◌, ◌<◌, T, eqb, get_or}
use Rattle.sets.specs.Sets.{has, union, meet, minus, set_of, some_in}
use Rattle.meaning.specs.Sheet.{n_of, t_of}
use Rattle.meaning.specs.Refusal.{number_or_0}
use Rattle.meaning.specs.declared.refusal.Refusal.{Refusal}
use Rattle.meaning.specs.Hierarchy.{consistent, exits}
use Rattle.meaning.specs.Reaction.{TickSets, is_timer, triggered, eligible, ambiguous, restless, entering, after_round}
use Rattle.meaning.specs.Tick.{Tick, begin}
use Rattle.reaction.specs.declared.plan.Plan.{Plan}
use Rattle.reaction.specs.Plan.{sources_in, conflicts_of, mixed, early, next_of}
use Rattle.reaction.specs.declared.tick.Sets.{Sets}
use Rattle.reaction.specs.declared.tick.Ticked.{Ticked}
use Rattle.reaction.specs.declared.tick.Moves.{Moves}
use Rattle.reaction.specs.declared.tick.Round.{Round}
use Rattle.reaction.specs.declared.tick.Start.{Start}

-- the sets of a tick that began in the modes `begun`: these and the modes entered are the active ones
abbrev pub sets_of : ℕ → Sets → TickSets
sets_of begun z =
    record { modes = z.modes; entered = z.entered; exited = z.exited; active = union begun z.entered; taken = z.taken }

-- what a tick gave that began in the modes `begun`
abbrev pub tick_of : ℕ → Ticked → Tick
tick_of begun r =
    let entered = r.changed % 2 ^ 32 in
    record {
      refusal = number_or_0 r.refusal;
      sets = record { modes = r.modes; entered = entered; exited = r.changed / 2 ^ 32; active = union begun entered; taken = r.taken };
      rounds = r.rounds;
    }

-- what a tick gives whose rounds ended so
abbrev pub ended_so : Option Refusal → Sets → ℕ → Ticked
ended_so why z r = record { refusal = why; rounds = r; modes = z.modes; changed = z.exited * 2 ^ 32 + z.entered; taken = z.taken }

-- what is carried from round to round, before the first
abbrev pub first_sets : ℕ → ℕ → Sets
first_sets begun entered = record { modes = begun; entered = entered; exited = 0; taken = 0 }

-- the sets with which a tick begins
abbrev pub start_sets : Start → TickSets
start_sets b = sets_of b.begun (first_sets b.begun b.entered)

-- the sets after a round that takes es, by the word of the modes exited and entered
abbrev pub after_ends : Sets → ℕ → ℕ → Sets
after_ends z ends es =
    record {
      modes = union (minus z.modes (ends % 2 ^ 32)) (ends / 2 ^ 32);
      entered = union z.entered (ends / 2 ^ 32);
      exited = union z.exited (meet z.modes (ends % 2 ^ 32));
      taken = union z.taken es;
    }

-- the moves m of some transitions, and of transition t besides, by the words of the plan
abbrev pub add_move : Plan → Moves → ℕ → Moves
add_move plan m t =
    record {
      ends = union m.ends (get_or plan.ends t 0);
      clashes = union m.clashes (get_or plan.conflicts t 0);
      next = union m.next (get_or plan.next t 0);
    }

module _ (s : List ℕ) where
  -- the modes that the transitions es exit if active
  unfoldable pub exits_of : ℕ → ℕ
  exits_of es = set_of (n_of s) (λ m. some_in (t_of s) es (λ t. has (exits s t) m))

  -- the transitions that a round which takes es can trigger next
  abbrev pub next_in : ℕ → ℕ
  next_in es = set_of (t_of s) (λ u. some_in (t_of s) es (λ t. has (next_of s t) u))

  -- what the transitions es do if they are taken together
  pub record MovesOf (es : ℕ) (m : Moves) : Type 0 where
    pub exits : m.ends % 2 ^ 32 ≡ exits_of es
    pub enters : m.ends / 2 ^ 32 ≡ entering s es
    pub clashes : m.clashes ≡ set_of (t_of s) (λ u. some_in (t_of s) es (λ t. has (conflicts_of s t) u))
    pub next : m.next ≡ next_in es

  -- the eligible ones of the triggered transitions ts, and what they do
  pub record RoundOf (ts : ℕ) (r : Round) : Type 0 where
    pub chosen : r.chosen ≡ eligible s ts
    pub moves : MovesOf r.chosen r.moves

  -- the rounds of a tick from the triggered transitions ts on: as `rounds_from`, but timers are due in the first round only
  unfoldable pub rounds_by : ℕ → ℕ → TickSets → ℕ → ℕ → Tick
  rounds_by zero i z ts r = record { refusal = 0; sets = z; rounds = r }
  rounds_by (suc f) i z ts r =
      let es = eligible s ts in
      let next = after_round s z es in
      let on = rounds_by f i next (triggered s 0 i next) (suc r) in
      cond (eqb es 0) (record { refusal = 0; sets = z; rounds = r })
      (cond (ambiguous s es) (record { refusal = 8; sets = z; rounds = r })
      (cond (restless s z es) (record { refusal = 9; sets = z; rounds = r }) on))

  -- a mode set that a tick begins from: power-on's 0, or a consistent one
  abbrev pub Known : ℕ → Type 0
  Known x = (x ≡ 0) ⊎ T (consistent s x)

  -- what a tick from the mode set x begins with: its modes, those of them entered, the transitions whose source is one of them, and
  -- which of these are judged at once
  pub record StartOf (x : ℕ) (b : Start) : Type 0 where
    pub begun : b.begun ≡ (begin s x).modes
    pub entered : b.entered ≡ (begin s x).entered
    pub live : b.live ≡ sources_in s b.begun
    pub unsure : b.unsure ≡ meet b.live (cond (eqb x 0) (mixed s) (early s))

  -- what a tick begins with and its due timers, from some mode set; none is due at power-on
  pub record Before (b : Start) (due : ℕ) : Type 0 where
    pub set : ℕ
    pub known : Known set
    pub start : StartOf set b
    pub small : due < 2 ^ t_of s
    pub timing : (t : ℕ) → T (has due t) → T (is_timer s t)
    pub none : set ≡ 0 → due ≡ 0

  -- a tick begins in these modes, those of them entered, with these triggered transitions, by some due timers
  pub record Begun (begun entered first i : ℕ) : Type 0 where
    pub known : T (consistent s begun)
    pub whole : union begun entered ≡ begun
    pub due : ℕ
    pub triggers : first ≡ triggered s due i (sets_of begun (first_sets begun entered))
