-- What the slots end as, once a `&mut` to a record has ended.
use Rattle.std.specs.Prelude.{ℕ, List, slice_set}
use Rattle.std.specs.Borrow.{Fml, RattleType, MutBor, Lends}
use Rattle.lp_pool.specs.declared.slots.Records.{Records}
use Rattle.lp_pool.specs.contracts.slots.Records.{the_row}

abbrev pub with_items : {X : Type 0} → Records X → List X → Records X
with_items r xs = record { mark = r.mark; spots = r.spots; items = xs }

abbrev pub lends_record : (R : RattleType) → MutBor (Records R.Denot) → ℕ → MutBor R.Denot → Fml
lends_record R s place r = Lends (the_row R) R s r (λ w. with_items s.now (slice_set s.now.items place w))
