use Rattle.std.proofs.Common.{nat_lt, rules}
use Rattle.std.proofs.lemmas.List.Sorted.{IsPartitionPoint-from_clause, IsPartitionedBy-ltb}
use Rattle.lp_connections.specs.Rows.{entry_name}
use Rattle.lp_connections.specs.declared.rows.Entry.{Entry}
use Rattle.lp_connections.proofs.rows.start_of.Goals as goal

pub returns : goal.returns
returns c =
    IsPartitionPoint-from_clause (λ (e : Entry). nat_lt e.name c.args.number) c.args.entries.now c.partition_point.result c.partition_point.ensures.partitioned
    (IsPartitionedBy-ltb entry_name c.args.entries.now c.args.number c.requires)
    (λ a r f' k. search rules)
