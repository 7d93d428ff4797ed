use Rattle.std.proofs.Common.{◌<◌, ◌≤◌, ◌≡◌, ◌+◌, None, min, length, get_or, sym, ap, subst, ◌∙◌, arith}
use Rattle.lp_model.specs.declared.netlist.Direction.TheVariants.{Input}
use Rattle.lp_model.specs.declared.netlist.Port.{Port}
use Rattle.lp_spec_faults.specs.Modules.{bit_count}
use Rattle.lp_drivers.specs.Seen.{lower_all}
use Rattle.lp_drivers.specs.Table.{input_run, input_runs, most_bits}
use Rattle.lp_drivers.proofs.Seeing.{lower-least}
use Rattle.lp_drivers.proofs.Joined.{port-step}
use Rattle.lp_drivers.proofs.marks.Marks.twice_on_top.Goals as goal

pub loop-port-preserved : goal.loop-port-preserved
loop-port-preserved c =
    let ports = c.args.ports.now in
    let none : Port = record { name = record { 0 = 0 }; range = None; direction = Input } in
    let p : Port = get_or ports c.loop-port.port-index none in
    let low : c.loop-port.port-index < length ports = omega (arith, c.loop-port-test.true) in
    let is : c.lower_port-least.result ≡ lower_all c.args.self.now.1 c.loop-port.least (input_run p.direction c.loop-port.start (bit_count p.range)) =
    c.lower_port-least.ensures ∙ ap (λ n. lower_all c.args.self.now.1 c.loop-port.least (input_run p.direction c.loop-port.start n)) c.bit_count-count.ensures in
    let ends : c.saturating_add-start.result ≡ min (c.loop-port.start + bit_count p.range) most_bits =
    c.saturating_add-start.ensures ∙ ap (λ n. min (c.loop-port.start + n) most_bits) c.bit_count-count.ensures in
    let less : c.lower_port-least.result ≤ c.loop-port.least = subst (λ n. n ≤ c.loop-port.least) (sym is) (lower-least c.args.self.now.1 c.loop-port.least (input_run p.direction c.loop-port.start (bit_count p.range))) in
    let fits = c.lower_port-least.type_inv in
    record {
      low = (let before = c.loop-port.invariant.low in omega (arith, less, before));
      is = port-step c.args.self.now.1 c.loop-port.least c.lower_port-least.result c.loop-port.start c.saturating_add-start.result most_bits (lower_all c.args.self.now.1 c.args.self.now.0 (input_runs 0 ports)) ports c.loop-port.port-index none low (omega (arith, fits)) is ends c.loop-port.invariant.is;
    }
