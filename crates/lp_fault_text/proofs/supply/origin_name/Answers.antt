use Rattle.std.proofs.Common.{◌+◌, arith, sym, ap, ◌∙◌, drop, filter, slice_get}
use Rattle.std.proofs.lemmas.List.{at_drop_all}
use Rattle.std.proofs.lemmas.Option.{slice_get-map}
use Rattle.lp_fault_text.specs.Supplies.{in_order}
use Rattle.lp_fault_text.proofs.Origins.{at-source, past-other, get-before, get-at, get-behind}
use Rattle.lp_fault_text.proofs.supply.origin_name.Goals.{then-port+else-left-before+else-left-before-2, else-port}
use Rattle.lp_fault_text.proofs.supply.origin_name.Goals as goal

pub returns-then-left-before : goal.returns-then-left-before
returns-then-left-before c =
    c.switch_name.ensures
    ∙ sym (get-before c.loop-port.rest.now c.made_before-before.result c.loop-port.left _ c.made_before-before.ensures.within c.if-left-before.true)
    ∙ sym (at-source c.intent.inside.ports.now c.loop-port.rest.now c.loop-port.port-index c.loop-port.left c.made_before-before.result c.port-item.result c.loop-port-test.true c.port-item.is c.if-port.true c.made_before-before.ensures.count)
    ∙ c.loop-port.invariant

pub returns-then-left-before-2 : goal.returns-then-left-before-2
returns-then-left-before-2 c =
    sym (get-at c.loop-port.rest.now c.made_before-before.result c.port-item.result.name _ c.made_before-before.ensures.within)
    ∙ sym (at-source c.intent.inside.ports.now c.loop-port.rest.now c.loop-port.port-index c.made_before-before.result c.made_before-before.result c.port-item.result c.loop-port-test.true c.port-item.is c.if-port.true c.made_before-before.ensures.count)
    ∙ sym (ap (λ left. slice_get (in_order (filter (λ q. q.is_source) (drop c.loop-port.port-index c.intent.inside.ports.now)) c.loop-port.rest.now) left) c.if-left-before-2.true)
    ∙ c.loop-port.invariant

pub loop-port-preserved : goal.loop-port-preserved
loop-port-preserved c = elim c.if-port.branch [
  | then-port+else-left-before+else-left-before-2 w ↦
      ap (λ rest. slice_get (in_order (filter (λ q. q.is_source) (drop (c.loop-port.port-index + 1) c.intent.inside.ports.now)) rest) c.if-port.left) (ap (λ r. r.now) w.rest-is ∙ w.split_at.ensures.back)
      ∙ ap (λ left. slice_get (in_order (filter (λ q. q.is_source) (drop (c.loop-port.port-index + 1) c.intent.inside.ports.now)) (drop w.made_before-before.result c.loop-port.rest.now)) left) w.left-is
      ∙ sym (get-behind c.loop-port.rest.now w.made_before-before.result c.loop-port.left c.port-item.result.name _ w.made_before-before.ensures.within (omega (arith, w.if-left-before.false, w.if-left-before-2.false)))
      ∙ sym (at-source c.intent.inside.ports.now c.loop-port.rest.now c.loop-port.port-index c.loop-port.left w.made_before-before.result c.port-item.result c.loop-port-test.true c.port-item.is w.if-port.true w.made_before-before.ensures.count)
      ∙ c.loop-port.invariant
  | else-port w ↦
      ap (λ rest. slice_get (in_order (filter (λ q. q.is_source) (drop (c.loop-port.port-index + 1) c.intent.inside.ports.now)) rest.now) c.if-port.left) w.rest-is
      ∙ ap (λ left. slice_get (in_order (filter (λ q. q.is_source) (drop (c.loop-port.port-index + 1) c.intent.inside.ports.now)) c.loop-port.rest.now) left) w.left-is
      ∙ sym (past-other c.intent.inside.ports.now c.loop-port.rest.now c.loop-port.port-index c.loop-port.left c.port-item.result c.loop-port-test.true c.port-item.is w.if-port.false)
      ∙ c.loop-port.invariant
]

pub returns : goal.returns
returns c =
    c.switch_name-2.ensures
    ∙ sym (slice_get-map (λ s. s.name) c.loop-port.rest.now c.loop-port.left)
    ∙ sym (at_drop_all (λ qs. slice_get (in_order (filter (λ q. q.is_source) qs) c.loop-port.rest.now) c.loop-port.left) c.intent.inside.ports.now c.loop-port.port-index c.loop-port-test.false)
    ∙ c.loop-port.invariant
