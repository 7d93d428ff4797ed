-- The limits of tables of names (own rule); the most bytes of a file is the constant LIMIT.
use Rattle.std.specs.Prelude.{ℕ}

-- numbers of names have 32 bits
abbrev pub most_names : ℕ
most_names = 4294967295

-- the most names of a table before a text is read: those of 16 libraries and a netlist fit behind them
abbrev pub most_names_before : ℕ
most_names_before = 3000000000
