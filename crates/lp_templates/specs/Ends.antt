-- Where places from one on end (own rule).
use Rattle.std.specs.Prelude.{ℕ, ◌+◌}
use Rattle.lp_model.specs.declared.graph.EdgeFrom.{EdgeFrom}
use Rattle.lp_model.specs.declared.graph.EdgeFrom.TheVariants.{Node as FromNode, Const as FromConst}

abbrev pub end_of : EdgeFrom → ℕ → ℕ
end_of (FromNode k) n = n + k.0
end_of (FromConst b) n = n
