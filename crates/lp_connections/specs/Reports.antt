-- The faults of connections and assigns as they are written: the word and the fields, the first line that holds (own rule).
use Rattle.std.specs.Prelude.{[], ◌∷◌, Option, codes, option_map, unwrap_or}
use Rattle.lp_spec_design.specs.Netlists.{Structure}
use Rattle.lp_spec_faults.specs.Lines.{first_of}
use Rattle.lp_spec_faults.specs.Modules.{InstanceAt, unfit_cell, word_at}
use Rattle.lp_spec_faults.specs.Wires.{ConnectionAt, unknown_pin, pin_field, already_powered, width, join_fields}
use Rattle.lp_targets.specs.Reports.{Report, or_else}

abbrev pub unknown_pin_report : Structure → Option Report
unknown_pin_report s = option_map (λ (c : ConnectionAt). (codes "F14 UnknownPin", c.parent.name ∷ c.instance.name ∷ pin_field c ∷ [])) (first_of (unknown_pin s))

abbrev pub powered_report : Structure → Option Report
powered_report s = option_map (λ (c : ConnectionAt). (codes "F20 AlreadyPowered", c.parent.name ∷ c.instance.name ∷ pin_field c ∷ [])) (first_of (already_powered s))

abbrev pub width_report : Structure → Option Report
width_report s = option_map (λ j. (codes "F15 Width", join_fields s j)) (first_of (width s))

abbrev pub unfit_report : Structure → Option Report
unfit_report s = option_map (λ (x : InstanceAt). (codes "F61 UnfitCell", x.parent.name ∷ x.instance.name ∷ unwrap_or (word_at s x) [] ∷ [])) (first_of (unfit_cell s))

-- an unknown pin, else a connected power pin, else another width, else a cell that a source may not have
abbrev pub connections_report : Structure → Option Report
connections_report s = or_else (unknown_pin_report s) (or_else (powered_report s) (or_else (width_report s) (unfit_report s)))
