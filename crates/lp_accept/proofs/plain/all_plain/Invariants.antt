use Rattle.std.proofs.Common.{◌≡◌, true, map, take}
use Rattle.std.specs.List.{list_all}
use Rattle.lp_text.specs.Texts.{text_at}
use Rattle.lp_model.specs.LibraryView.{cell_view}
use Rattle.lp_spec_plain_netlist.specs.Fits.{cell_named, is_plain_target}
use Rattle.lp_accept.proofs.plain.all_plain.Given as goal

abbrev pub invariant-loop-instance : goal.invariant-loop-instance
invariant-loop-instance l = list_all (λ x. is_plain_target (cell_named (map (cell_view l.names) l.index) (text_at l.names x.target.0))) (take l.instance-index l.instances) ≡ true
