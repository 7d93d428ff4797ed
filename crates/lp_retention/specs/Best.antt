-- The strategies of the greatest rank, from the last strategy to the first (own rule).
use Rattle.std.specs.Prelude.{ℕ, ◌+◌, ◌==◌, nat_lt, List, [], ◌∷◌, Option, Some, None, if◌then◌else◌}
use Rattle.lp_model.specs.declared.fault.refs.Site.TheVariants.{Register}
use Rattle.lp_model.specs.declared.fault.strategy.StrategyFault.{StrategyFault}
use Rattle.lp_model.specs.declared.fault.strategy.StrategyFault.TheVariants.{Tied}
use Rattle.lp_strategy.specs.Elements.{or_later}
use Rattle.lp_retention.specs.declared.best.Best.{Best}

-- no strategy has a rank
abbrev pub none_yet : Best
none_yet = record { rank = 0; first = None; second = None }

-- one more strategy, which stands before all others; rank 0 is none
abbrev pub offer : ℕ → ℕ → Best → Best
offer k r b =
    if r == 0 then b
    else if nat_lt b.rank r then record { rank = r; first = Some k; second = None }
    else if b.rank == r then record { rank = r; first = Some k; second = b.first }
    else b

-- of strategies by their numbers
abbrev pub best_from : {A : Type 0} → (A → ℕ) → ℕ → List A → Best
best_from ranked k [] = none_yet
best_from ranked k (t ∷ ts) = offer k (ranked t) (best_from ranked (k + 1) ts)

-- by the second and the first: the winner is above each other one
abbrev pub settled : Option ℕ → Option ℕ → Option ℕ
settled None first = first
settled (Some k) first = None

abbrev pub winning : Best → Option ℕ
winning b = settled b.second b.first

-- two of the greatest rank at a register, by its number
abbrev pub tie_by : ℕ → Option ℕ → Option ℕ → Option StrategyFault
tie_by k (Some x) (Some z) = Some (Tied (Register (record { 0 = k })) (record { 0 = x }) (record { 0 = z }))
tie_by k _ _ = None

abbrev pub tie_of : ℕ → Best → Option StrategyFault
tie_of k b = tie_by k b.first b.second

-- the first of all registers, which are numbered from some number on
abbrev pub tie_from : ℕ → List Best → Option StrategyFault
tie_from k [] = None
tie_from k (b ∷ bs) = or_later (tie_of k b) (tie_from (k + 1) bs)

-- a number that 4 bytes beside none have room for
abbrev pub kept : Option ℕ → Option ℕ
kept None = None
kept (Some k) = if nat_lt k 4294967295 then Some k else None

abbrev pub won : Best → Option ℕ
won b = kept (winning b)
