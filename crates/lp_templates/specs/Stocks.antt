-- The modules of a netlist with their sizes, and the cells of its library.
use Rattle.std.specs.Prelude.{List}
use Rattle.lp_model.specs.declared.library.Cell.{Cell}
use Rattle.lp_model.specs.declared.library.Library.{Library}
use Rattle.lp_model.specs.declared.netlist.Module.{Module}
use Rattle.lp_model.specs.declared.netlist.Netlist.{Netlist}
use Rattle.lp_targets.specs.declared.size.Size.{Size}

pub record Stock : Type 0 where
  pub modules : List Module
  pub cells : List Cell
  pub sizes : List Size

abbrev pub stock_of : Netlist → Library → List Size → Stock
stock_of n l sizes = record { modules = n.modules; cells = l.cells; sizes = sizes }
