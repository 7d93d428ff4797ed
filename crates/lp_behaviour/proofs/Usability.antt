-- What stands of the parts of a cell that may be used.
use Rattle.std.proofs.Common.{◌≡◌, true, length, ◌↔◌}
use Rattle.std.proofs.lemmas.Bool.{and_parts, and_from, le-leb, leb-true}
use Rattle.lp_model.specs.declared.library.Cell.{Cell}
use Rattle.lp_behaviour.specs.Usable.{passes, IsUsable}

-- the parts that pass are those of a cell that may be used
pub passes-usable : (cell : Cell) → (passes cell ≡ true) ↔ IsUsable cell
passes-usable cell = (
  λ all.
      let pgs = and_parts _ _ all in
      let pins = and_parts _ _ pgs.1 in
      let each_pg = and_parts _ _ pins.1 in
      let each_pin = and_parts _ _ each_pg.1 in
      let state = and_parts _ _ each_pin.1 in
      record {
        few_pgs = leb-true (length cell.pgs) 8 pgs.0;
        few_pins = leb-true (length cell.pins) 240 pins.0;
        pgs = each_pg.0;
        pins = each_pin.0;
        state = state.0;
        retention = state.1;
      },
  λ u.
      and_from _ _ (le-leb (length cell.pgs) 8 u.few_pgs)
      (and_from _ _ (le-leb (length cell.pins) 240 u.few_pins)
      (and_from _ _ u.pgs (and_from _ _ u.pins (and_from _ _ u.state u.retention)))),
)
