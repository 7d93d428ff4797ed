-- The tests over texts are those over numbers.
use Rattle.std.proofs.Common.{◌≡◌, ℕ, ◌<◌, ◌==◌, Bool, true, not, ◌&&◌, cond, List, [], ◌∷◌, ◌++◌, length, Option, Some, None, Bor, Result, Ok, Err, IfOk, refl, sym, ap, ◌∙◌}
use Rattle.std.specs.Prelude.{map, is_none}
use Rattle.std.specs.List.{flat_map}
use Rattle.std.specs.Option.{option_map, option_copied}
use Rattle.std.proofs.lemmas.Bool.{and_parts}
use Rattle.lp_text.specs.Texts.{distinct}
use Rattle.lp_model.specs.declared.library.Cell.{Cell}
use Rattle.lp_model.specs.declared.netlist.Instance.{Instance}
use Rattle.lp_model.specs.declared.netlist.Module.{Module}
use Rattle.lp_model.specs.LibraryView.{cell_view, cell_numbers}
use Rattle.lp_model.specs.NetlistView.{port_numbers, net_numbers, instance_view, instance_numbers, assign_numbers, module_view, module_numbers}
use Rattle.lp_spec_design.specs.Netlists.{first}
use Rattle.lp_spec_plain_netlist.specs.Fits as fits
use Rattle.lp_plain_index.specs.Cells.{cell_numbered}
use Rattle.lp_plain_index.proofs.Numbers.{below-left, below-right, below-head, below-tail, same_name}
use Rattle.lp_plain_fits.specs.Numbered as numbered
use Rattle.lp_plain_fits.proofs.Lists.{none_same, some_if, distinct_same}
use Rattle.lp_plain_fits.proofs.Cells.{Below, cell_same, all_joined, target_below}
use Rattle.lp_plain_fits.proofs.Sources.{driven_same, sources_below}

module _ (texts : List (List ℕ)) (apart : distinct texts ≡ true) (cells : List Cell) (of_cells : Below texts (flat_map cell_numbers cells)) where
  -- ---- parts of a module

  ports_below : (m : Module) → Below texts (module_numbers m) → Below texts (flat_map port_numbers m.ports)
  ports_below m below =
      let ports = flat_map port_numbers m.ports in
      let rest = flat_map net_numbers m.nets ++ (flat_map instance_numbers m.instances ++ flat_map assign_numbers m.assigns) in
      below-left (length texts) ports rest (below-tail (length texts) m.name.0 (ports ++ rest) below)

  instances_below : (m : Module) → Below texts (module_numbers m) → Below texts (flat_map instance_numbers m.instances)
  instances_below m below =
      let ports = flat_map port_numbers m.ports in
      let nets = flat_map net_numbers m.nets in
      let instances = flat_map instance_numbers m.instances in
      let rest = flat_map assign_numbers m.assigns in
      below-left (length texts) instances rest (below-right (length texts) nets (instances ++ rest) (below-right (length texts) ports (nets ++ (instances ++ rest)) (below-tail (length texts) m.name.0 (ports ++ (nets ++ (instances ++ rest))) below)))

  -- ---- fits

  fit_same : (m : Module) → Below texts (module_numbers m) → fits.is_fit (map (cell_view texts) cells) (module_view texts m) ≡ numbered.is_fit cells m
  fit_same m below =
      let name = ap is_none (cell_same texts apart cells m.name.0 (below-head (length texts) m.name.0 _ below) of_cells) ∙ none_same (cell_view texts) (cell_numbered cells m.name.0) in
      let of_instances = instances_below m below in
      let sources = ap distinct (driven_same texts apart cells m of_cells of_instances) ∙ distinct_same texts apart (numbered.inputs m.ports ++ numbered.driven cells m.instances) (sources_below texts apart cells m (ports_below m below) of_instances) in
      λ i. name i && (all_joined texts apart cells m.instances of_cells of_instances i && sources i)

  pub if_fit : {E : Type 0} (r : Result Bool E) (m : Module) → Below texts (module_numbers m) → IfOk r (λ b. b ≡ numbered.is_fit cells m) → IfOk r (λ b. b ≡ fits.is_fit (map (cell_view texts) cells) (module_view texts m))
  if_fit (Ok b) m below e = e ∙ sym (fit_same m below)
  if_fit (Err x) m below e = tt
