use Rattle.std.proofs.Common.{inl, inr, arith}
use Rattle.lp_verilog.proofs.Unique.{none_where_refused}
use Rattle.lp_verilog.proofs.laws.refused_reads_nothing.Goals as goal

pub returns : goal.returns
returns c names text f v apart few short (inl long) reads = absurd (let above = long.0 in omega (arith, short, above))
returns c names text f v apart few short (inr stops) reads = none_where_refused names text v stops.1.off stops.1.at stops.1.word apart few stops.1.leads reads
