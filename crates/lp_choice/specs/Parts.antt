-- The pins of a cell by their parts in it (own rule).
use Rattle.std.specs.Prelude.{Bool, ◌&&◌, []}
use Rattle.lp_model.specs.declared.library.Pin.{Pin}
use Rattle.lp_model.specs.LibraryView.{pin_view}
use Rattle.lp_spec_design.specs.Graph.{is_output_pin}
use Rattle.lp_spec_pins.specs.Pins.{is_input_pin, is_data}
use Rattle.lp_spec_fit.specs.Fits.{is_iso_data, is_iso_enable}
use Rattle.lp_choice.specs.declared.parts.Part.{Part}
use Rattle.lp_choice.specs.declared.parts.Part.TheVariants.{ClampedData, Enable, ShiftedData, Output, Control}

abbrev pub has_part : Part → Pin → Bool
has_part ClampedData q = is_input_pin (pin_view [] q) && is_iso_data (pin_view [] q)
has_part Enable q = is_input_pin (pin_view [] q) && is_iso_enable (pin_view [] q)
has_part ShiftedData q = is_input_pin (pin_view [] q) && is_data (pin_view [] q)
has_part Output q = is_output_pin (pin_view [] q)
has_part Control q = is_input_pin (pin_view [] q)
