use Rattle.std.proofs.Common.{◌≡◌, List, length, true, sym, subst}
use Rattle.std.specs.List.{flat_map}
use Rattle.lp_model.specs.declared.library.PgPin.{PgPin}
use Rattle.lp_model.specs.Agreement.{numbers_below}
use Rattle.lp_model.specs.LibraryView.{pg_pin_numbers}
use Rattle.lp_parts.proofs.Below.{below_taken}
use Rattle.lp_parts.proofs.function.default_down.Goals as goal

pub down_by-requires-clause-below : goal.down_by-requires-clause-below
down_by-requires-clause-below c = subst (λ (pgs : List PgPin). numbers_below (length c.args.names.now) (flat_map pg_pin_numbers pgs) ≡ true) (sym c.first_eight.ensures) (below_taken (length c.args.names.now) 8 c.args.pgs.now c.requires.below)
