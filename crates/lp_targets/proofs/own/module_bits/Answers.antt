use Rattle.std.proofs.Common.{min, ap, ◌∙◌}
use Rattle.std.specs.Prelude.{sum_by}
use Rattle.lp_spec_faults.specs.Modules.{bit_count}
use Rattle.lp_targets.proofs.Owns.{min_both}
use Rattle.lp_targets.proofs.own.module_bits.Goals as goal

pub returns : goal.returns
returns c =
    let m = c.args.source.now in
    let ports = sum_by (λ p. bit_count p.range) m.ports in
    let nets = sum_by (λ n. bit_count n.range) m.nets in
    min_both c.args.limit ports nets c.port_bits-ports.result c.net_bits-nets.result c.capped.result
    (c.port_bits-ports.ensures ∙ ap (λ xs. min c.args.limit (sum_by (λ p. bit_count p.range) xs)) c.as_slice.ensures)
    (c.net_bits-nets.ensures ∙ ap (λ xs. min c.args.limit (sum_by (λ n. bit_count n.range) xs)) c.as_slice-2.ensures)
    c.capped.ensures
