use Rattle.std.proofs.Common.{map, sym, ap, ◌∙◌}
use Rattle.std.specs.List.{list_all}
use Rattle.std.proofs.lemmas.List.Folds.{list_all-map}
use Rattle.lp_text.specs.Texts.{text_at}
use Rattle.lp_model.specs.declared.netlist.Instance.{Instance}
use Rattle.lp_model.specs.NetlistView.{InstanceView, instance_view}
use Rattle.lp_model.specs.LibraryView.{cell_view}
use Rattle.lp_spec_plain_netlist.specs.Fits.{cell_named, is_plain_target}
use Rattle.lp_accept.proofs.plain.are_plain.Goals as goal

pub returns : goal.returns
returns c =
    let names = c.args.names.now in
    let cells = map (cell_view names) c.args.index.now in
    c.all_plain.ensures
    ∙ ap (list_all (λ (x : Instance). is_plain_target (cell_named cells (text_at names x.target.0)))) c.as_slice.ensures
    ∙ sym (list_all-map (λ (x : InstanceView). is_plain_target (cell_named cells x.target)) (instance_view names) c.args.source.now.instances)
