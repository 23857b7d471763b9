-- The plan: what depends on the sheet alone. Assumes nothing.
use Rattle.std.specs.Prelude.{◌≡◌, Bool, not, ◌&&◌, ◌||◌, cond, List, ℕ, ◌+◌, ◌*◌, ◌^◌, ◌<◌, eqb, ltb, get_or, replicate}
use Rattle.sets.specs.Sets.{has, union, meets, single, set_of, those, some, every}
use Rattle.meaning.specs.Sheet.{k_of, t_of, source, term_count, term_kind, term_value}
use Rattle.meaning.specs.Check.{sheet_refusal}
use Rattle.meaning.specs.Hierarchy.{complete, exits, enters}
use Rattle.meaning.specs.GivesWay.{gives_way}
use Rattle.meaning.specs.Reaction.{TickSets, is_delay, delay, is_timer, alternative, conflict}
use Rattle.meaning.specs.NamedEvents.{names}
use Rattle.reaction.specs.Facts.{open_facts, alternative_by}
use Rattle.reaction.specs.declared.plan.Plan.{Plan}

-- a plan to be filled in
abbrev pub no_plan : Plan
no_plan =
    record {
      ends = replicate 64 0;
      conflicts = replicate 64 0;
      yielders = replicate 64 0;
      next = replicate 64 0;
      delays = replicate 64 0;
      hits = replicate 64 0;
      from = replicate 32 0;
      named = replicate 32 0;
      timers = 0;
      mixed = 0;
      early = 0;
      events = 0;
      start = 0;
    }

-- the sets of a tick in which nothing has happened
abbrev pub no_sets : TickSets
no_sets = record { modes = 0; entered = 0; exited = 0; active = 0; taken = 0 }

-- a term of this kind speaks of events, or is an "or"
unfoldable pub is_event_kind : ℕ → Bool
is_event_kind c = eqb c 1 || eqb c 2 || eqb c 7

module _ (s : List ℕ) where
  -- the transitions whose source is in the mode set x
  unfoldable pub sources_in : ℕ → ℕ
  sources_in x = set_of (t_of s) (λ t. has x (source s t))

  -- the other transitions in conflict with t
  unfoldable pub conflicts_of : ℕ → ℕ
  conflicts_of t = set_of (t_of s) (λ u. not (eqb t u) && conflict s t u)

  -- the transitions that give way to t
  unfoldable pub yielders_of : ℕ → ℕ
  yielders_of t = set_of (t_of s) (λ u. gives_way s u t)

  unfoldable pub timers : ℕ
  timers = set_of (t_of s) (is_timer s)

  -- the delay of a timer, 0 of another transition
  abbrev pub timer_delay : ℕ → ℕ
  timer_delay t = cond (has timers t) (delay s t) 0

  unfoldable pub events_only : ℕ → Bool
  events_only t = every (term_count s t) (λ j. is_event_kind (term_kind s t j))

  -- the transitions that the input set i triggers by itself where their source is active: those of delay 0, and those with event
  -- terms alone that hold
  unfoldable pub hits_of : ℕ → ℕ
  hits_of i =
      set_of (t_of s) (λ t. cond (is_delay s t) (eqb (delay s t) 0) (events_only t && ltb 0 (alternative s i no_sets t)))

  -- the transitions whose terms are judged: they speak of more than events
  unfoldable pub mixed : ℕ
  mixed = set_of (t_of s) (λ t. not (is_delay s t) && not (events_only t))

  -- a term of kind c and value v is about what t does: about a mode that t enters or exits, or about t
  unfoldable pub is_about : ℕ → ℕ → ℕ → Bool
  is_about t c v =
      cond (eqb c 3) (meets v (enters s t))
      (cond (eqb c 4) (has (enters s t) v)
      (cond (eqb c 5) (has (exits s t) v)
      (eqb c 6 && eqb v t)))

  -- the transitions with a term about what t does
  unfoldable pub woken_by : ℕ → ℕ
  woken_by t = set_of (t_of s) (λ u. some (term_count s u) (λ j. is_about t (term_kind s u j) (term_value s u j)))

  -- the transitions that a round which takes t can trigger next: t enters their source, or a term of theirs is about what t does
  unfoldable pub next_of : ℕ → ℕ
  next_of t = union (sources_in (enters s t)) (woken_by t)

  -- of those that are judged, the transitions whose terms can hold before anything is entered, exited or taken: an
  -- alternative is about events and active modes alone
  unfoldable pub early : ℕ
  early = those 64 mixed (λ t. ltb 0 (alternative_by s open_facts t))

  -- the events that transitions with a source in x name; the events that any transition names
  unfoldable pub named_in : ℕ → ℕ
  named_in x = set_of (k_of s) (λ e. some (t_of s) (λ t. has x (source s t) && names s t e))

  unfoldable pub named_all : ℕ
  named_all = set_of (k_of s) (λ e. some (t_of s) (λ t. names s t e))

  -- the sheet passes 1 to 6, and a plan is its own
  pub record Planned (plan : Plan) : Type 0 where
    pub passes : sheet_refusal s ≡ 0
    pub ends_at : (t : ℕ) → t < t_of s → get_or plan.ends t 0 ≡ enters s t * 2 ^ 32 + exits s t
    pub conflicts_at : (t : ℕ) → t < t_of s → get_or plan.conflicts t 0 ≡ conflicts_of t
    pub yielders_at : (t : ℕ) → t < t_of s → get_or plan.yielders t 0 ≡ yielders_of t
    pub next_at : (t : ℕ) → t < t_of s → get_or plan.next t 0 ≡ next_of t
    pub delays_at : (t : ℕ) → t < 64 → get_or plan.delays t 0 ≡ timer_delay t
    pub hits_at : (i : ℕ) → i < 2 ^ k_of s → get_or plan.hits i 0 ≡ hits_of i
    pub from_at : (m : ℕ) → m < 32 → get_or plan.from m 0 ≡ sources_in (single m)
    pub named_at : (m : ℕ) → m < 32 → get_or plan.named m 0 ≡ named_in (single m)
    pub timing_at : plan.timers ≡ timers
    pub judged_at : plan.mixed ≡ mixed
    pub early_at : plan.early ≡ early
    pub events_at : plan.events ≡ named_all
    pub start_at : plan.start ≡ complete s (single 0)
