use Rattle.std.proofs.Common.{ℕ, List, Option, ◌++◌, [], ◌∷◌, None, get_or, map, sym, ap, ◌∙◌}
use Rattle.std.proofs.lemmas.List.{append-nil}
use Rattle.lp_text.specs.Texts.{text_at}
use Rattle.lp_model.specs.declared.netlist.BitRange.{BitRange}
use Rattle.lp_model.specs.NetlistView.{net_view}
use Rattle.lp_vwrite.specs.Layout.{range_in, vectors_among}
use Rattle.lp_vwrite.proofs.Ranges.{ranges-step}
use Rattle.lp_vwrite.proofs.module.add_nets.Goals as goal
use Rattle.lp_vwrite.proofs.module.add_nets.Goals.{in-Some+in_ok-add, in_default}

pub loop-net-preserved : goal.loop-net-preserved
loop-net-preserved c =
    let names = c.args.names.now in
    let old = c.loop-net.vectors in
    let x = get_or c.args.nets.now c.loop-net.net-index (record { name = record { 0 = 0 }; range = None }) in
    let all : List ℕ → Option BitRange = λ t. range_in (c.args.vectors.now ++ vectors_among (map (λ n. (n.name, n.range)) (map (net_view names) c.args.nets.now))) t in
    elim c.match-net.branch [
      | in-Some+in_ok-add w ↦
          ranges-step (net_view names) (λ n. (n.name, n.range)) c.args.nets.now c.loop-net.net-index (record { name = record { 0 = 0 }; range = None }) old c.match-net.vectors all c.loop-net-test.true
          (λ t. ap (λ vs. range_in vs t) w.vectors-is ∙ w.in_ok-add.ensures t ∙ ap (λ n. range_in (old ++ (n, w.in-Some.range) ∷ []) t) w.text_of.ensures ∙ ap (λ r. range_in (old ++ vectors_among ((text_at names x.name.0, r) ∷ [])) t) (sym w.in-Some.is))
          c.loop-net.invariant
      | in_default w ↦
          ranges-step (net_view names) (λ n. (n.name, n.range)) c.args.nets.now c.loop-net.net-index (record { name = record { 0 = 0 }; range = None }) old c.match-net.vectors all c.loop-net-test.true
          (λ t. ap (λ vs. range_in vs t) (w.vectors-is ∙ sym (append-nil old)) ∙ ap (λ r. range_in (old ++ vectors_among ((text_at names x.name.0, r) ∷ [])) t) (sym w.in_default.is))
          c.loop-net.invariant
    ]
