use Rattle.std.proofs.Common.{min, ap, ◌∙◌}
use Rattle.std.specs.Prelude.{sum_by}
use Rattle.lp_spec_faults.specs.Modules.{bit_count}
use Rattle.lp_drivers.specs.Table.{most_bits}
use Rattle.lp_drivers.proofs.Joined.{both-up-to}
use Rattle.lp_drivers.proofs.widths.module_bits.Goals as goal

pub returns : goal.returns
returns c =
    let m = c.args.source.now in
    both-up-to (sum_by (λ p. bit_count p.range) m.ports) (sum_by (λ n. bit_count n.range) m.nets) c.port_bits-ports.result c.net_bits-nets.result c.saturating_add.result most_bits
    (c.port_bits-ports.ensures ∙ ap (λ xs. min most_bits (sum_by (λ p. bit_count p.range) xs)) c.as_slice.ensures)
    (c.net_bits-nets.ensures ∙ ap (λ xs. min most_bits (sum_by (λ n. bit_count n.range) xs)) c.as_slice-2.ensures)
    c.saturating_add.ensures
