-- What the contract of `serve` asks of a caller, which is nothing, and what it tells: the equation that the theorems of its calls rest
-- on. `Asked` and `Learnt` are made here by the logic's reading of the clauses that the check makes of the source (`serve.clauses`).
-- Assumes nothing.
use mathlib.Core.Path.{◌≡◌, refl}
use base.Logic.{emp}
use contract.Lifetimes.{Lfts}
use denote.Triple.Clauses.{ClausesAt, AtExit}
use borrow.Fn.Claims.{AllOf}
use borrow.Fn.World.{World, ArgsD}
use borrow.Fn.Read.{Read, no_know, r_top, r_last, all_models}
use Rattle.meaning.specs.Stations.{serve_stations}
use Rattle.stations.specs.Stations.{stations_of, call_of}
use Rattle.stations.specs.declared.Served.{Served}
use Rattle.stations.specs.contracts.serve.{signature, ended, clauses}

module _ (κs : Lfts 4) (passed : ArgsD signature κs) where
  -- the clauses at a model of the logic
  abbrev clauses_at : (w : World) → ClausesAt w.𝓤 ended κs
  clauses_at w = clauses w.𝓛 w.𝓜.mem w.𝓡.run κs passed

  abbrev requires_read : Read (λ w. emp w.𝓤) no_know (λ w. (clauses_at w).requires tt)
  requires_read = all_models (λ w. (clauses_at w).requires tt) (λ w. r_top) (λ w. refl) (λ w. refl) (λ w. refl)

  -- what a caller must show
  abbrev pub Asked : Type 0
  Asked = AllOf requires_read.owes

  pub serve_asks : Asked
  serve_asks = tt

  module _ (returned : Served) (left : AtExit ended κs) where
    abbrev ensures_read : Read (λ w. emp w.𝓤) no_know (λ w. (clauses_at w).ensures tt returned left)
    ensures_read = all_models (λ w. (clauses_at w).ensures tt returned left) (λ w. r_last _) (λ w. refl) (λ w. refl) (λ w. refl)

    -- what a caller learns
    abbrev pub Learnt : Type 0
    Learnt = AllOf ensures_read.tells

    pub serve_tells : Learnt
        → call_of returned left.0.now left.1.1.1.0.now
        ≡ serve_stations passed.1.0.now (stations_of passed.0.now) passed.1.1.0.now passed.1.1.1.0.now
        passed.1.1.1.1.0
    serve_tells h = h
