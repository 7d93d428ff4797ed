use Rattle.std.proofs.Common.{not, ap}
use Rattle.std.proofs.lemmas.Bool.{and_from}
use Rattle.lp_model.specs.NetlistView.{PortView}
use Rattle.lp_spec_plain_module.specs.Netlists.{is_supply}
use Rattle.lp_spec_plain_module.specs.Tests.{has_no_assign}
use Rattle.lp_spec_plain_module.proofs.Lists.{all-weaker}
use Rattle.lp_spec_plain_netlist.specs.Flats.{flat_of}
use Rattle.lp_spec_plain_netlist.proofs.Names.{is_free, ports-apart, free-supply}
use Rattle.lp_spec_plain_netlist.proofs.Fitting.{no_assign, ports_free, fit_parts, written_parts, instances_flat}
use Rattle.lp_spec_plain_netlist.proofs.laws.fits_are_flat.Goals as goal

pub returns : goal.returns
returns c cells m power gnd margin single read fit plain apart =
    let f = flat_of cells m power gnd margin in
    let parts = fit_parts cells m single read fit in
    and_from _ _ (ap not (ports-apart power gnd apart))
    (and_from _ _ (ap has_no_assign (no_assign m single))
    (and_from _ _ (all-weaker (λ (p : PortView). is_free p.name) (λ (p : PortView). not (is_supply f p.name)) (λ p e. free-supply f p.name e) m.ports (ports_free m single))
    (instances_flat cells m power gnd margin single parts.no_cell m.instances parts.joined parts.known plain (written_parts m parts.written).instances)))
