-- What a pool ends as, once a `&mut` to a record has ended.
use Rattle.std.specs.Prelude.{ℕ}
use Rattle.std.specs.Borrow.{Fml, RattleType, MutBor, Lends}
use Rattle.lp_pool.specs.Pool.{Held, with_record}
use Rattle.lp_pool.specs.contracts.pool.Pool.{the_row}

-- the place has the last value written through r, and the pool is else as it was
abbrev pub lends_place : (R : RattleType) → MutBor (Held R.Denot) → ℕ → MutBor R.Denot → Fml
lends_place R s place r = Lends (the_row R) R s r (with_record s.now place)
