-- The netlist that a text denotes, by the texts of its names.
use Rattle.std.specs.Prelude.{◌≡◌, ◌≤◌, ℕ, true, List, length, map}
use Rattle.lp_text.specs.Texts.{distinct}
use Rattle.lp_model.specs.declared.netlist.Module.{Module}
use Rattle.lp_model.specs.NetlistView.{ModuleView, module_view}
use Rattle.lp_text.specs.Limits.{most_names}
use Rattle.lp_verilog.specs.Denotes.{Denotes}

-- with its names numbered by some table of distinct texts, the text denotes modules that are seen so
pub record Reads (text : List ℕ) (view : List ModuleView) : Type 0 where
  pub names : List (List ℕ)
  pub modules : List Module
  pub apart : distinct names ≡ true
  pub few : length names ≤ most_names
  pub denotes : Denotes names text modules
  pub seen : view ≡ map (module_view names) modules
