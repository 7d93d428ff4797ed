use Rattle.std.proofs.Common.{ap, sym, ◌∙◌, arith, map}
use Rattle.lp_model.specs.NetlistView.{module_view}
use Rattle.lp_spec_plain_netlist.specs.Single.{is_single}
use Rattle.lp_plain_fits.proofs.Singles.{one_module}
use Rattle.lp_plain_fits.proofs.single.is_single.Goals as goal

pub returns-in-len1 : goal.returns-in-len1
returns-in-len1 c =
    let texts = c.args.names.now in
    let modules = c.as_slice.result.now in
    c.is_single_module.ensures
    ∙ sym (one_module texts modules c.source-item.result (omega arith) (omega arith) c.source-item.is)
    ∙ ap (λ ms. is_single (map (module_view texts) ms)) c.as_slice.ensures
