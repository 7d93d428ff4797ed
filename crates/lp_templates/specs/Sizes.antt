-- What modules have together, each count up to what 32 bits hold (own rule).
use Rattle.std.specs.Prelude.{ℕ, ◌+◌, min}
use Rattle.lp_targets.specs.declared.size.Size.{Size}

abbrev pub capped : ℕ → ℕ → ℕ
capped a b = min 4294967295 (a + b)

abbrev pub joined : Size → Size → Size
joined a b = record { nodes = capped a.nodes b.nodes; cells = capped a.cells b.cells; instances = capped a.instances b.instances }

abbrev pub no_size : Size
no_size = record { nodes = 0; cells = 0; instances = 0 }

abbrev pub one_cell : Size
one_cell = record { nodes = 0; cells = 1; instances = 0 }

abbrev pub own_of : ℕ → Size
own_of nodes = record { nodes = nodes; cells = 0; instances = 1 }
