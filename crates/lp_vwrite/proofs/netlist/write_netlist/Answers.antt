use Rattle.std.proofs.Common.{◌≡◌, ◌++◌, map, sym, ap, ◌∙◌, subst}
use Rattle.std.specs.Prelude.{flat_map}
use Rattle.lp_model.specs.NetlistView.{module_view, netlist_view}
use Rattle.lp_verilog.specs.Reads.{Reads}
use Rattle.lp_vwrite.specs.Layout.{module_text, layout}
use Rattle.lp_vwrite.proofs.ReadBack.{read_back}
use Rattle.lp_vwrite.proofs.netlist.write_netlist.Goals as goal

pub returns-clause-reads : goal.returns-clause-reads
unfolding layout
returns-clause-reads c = λ h table.
    let view = netlist_view c.args.names.now c.args.netlist.now in
    let text : c.new.result ≡ layout view =
    c.new.ensures ∙ c.in_ok-put_modules.ensures
    ∙ ap (λ x. x ++ flat_map module_text (map (module_view c.args.names.now) c.as_slice.result.now)) c.new-out.ensures.items
    ∙ ap (λ xs. flat_map module_text (map (module_view c.args.names.now) xs)) c.as_slice.ensures
    in
    subst (λ t. Reads t view) (sym text) (read_back view h table)
