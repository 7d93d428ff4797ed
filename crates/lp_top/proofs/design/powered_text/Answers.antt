use Rattle.std.proofs.Common.{◌≡◌, ℕ, ◌≤◌, [], ◌∷◌, ◌++◌, length, ap, ◌∙◌, subst, arith}
use Rattle.std.proofs.lemmas.Result.{IfOk-weaker}
use Rattle.lp_model.specs.declared.netlist.Netlist.{Netlist}
use Rattle.lp_model.specs.NetlistView.{netlist_view}
use Rattle.lp_spec_plain_module.specs.Netlists.{powered}
use Rattle.lp_vwrite.specs.Layout.{layout}
use Rattle.lp_vwrite.specs.WellFormed.{HasTable}
use Rattle.lp_accept.specs.Judged.{flat_by}
use Rattle.lp_top.proofs.DesignLaws.{view-is, netlist-below}
use Rattle.lp_top.proofs.design.powered_text.Goals as goal

pub returns-clause-laid : goal.returns-clause-laid
returns-clause-laid c =
    let names = c.connect_all.new.names in
    let w = c.in_ok-written.written in
    let n : Netlist = record { modules = c.push.new.self } in
    let one = c.in_ok-push.ensures.ok ∙ ap (λ xs. xs ++ w ∷ []) c.new-modules.ensures in
    let view = view-is c.args.accepted names n w one c.in_ok-index.index c.text_of-power.result.now c.text_of-gnd.result.now (c.in_ok-index.ensures ∙ c.as_slice.ensures) (c.text_of-power.ensures ∙ c.all.ensures) (c.text_of-gnd.ensures ∙ c.all-2.ensures) c.in_ok-written.ensures.supplied in
    IfOk-weaker c.write_netlist.result (λ t. t ≡ layout (netlist_view names n)) (λ b. (margin : ℕ) → b ≡ layout (powered (flat_by c.args.accepted margin) ∷ []))
    (λ b e margin. e ∙ ap layout (view margin)) c.write_netlist.ensures.laid_out

pub returns-clause-table : goal.returns-clause-table
returns-clause-table c =
    let names = c.connect_all.new.names in
    let w = c.in_ok-written.written in
    let n : Netlist = record { modules = c.push.new.self } in
    let one = c.in_ok-push.ensures.ok ∙ ap (λ xs. xs ++ w ∷ []) c.new-modules.ensures in
    let view = view-is c.args.accepted names n w one c.in_ok-index.index c.text_of-power.result.now c.text_of-gnd.result.now (c.in_ok-index.ensures ∙ c.as_slice.ensures) (c.text_of-power.ensures ∙ c.all.ensures) (c.text_of-gnd.ensures ∙ c.all-2.ensures) c.in_ok-written.ensures.supplied in
    let few : length names ≤ 4294967295 = let count = c.count-2.ensures.count in let small = c.count-2.type_inv in omega (arith, count, small) in
    IfOk-weaker c.write_netlist.result (λ t. t ≡ layout (netlist_view names n)) (λ b. (margin : ℕ) → HasTable (powered (flat_by c.args.accepted margin) ∷ []))
    (λ b e margin. subst HasTable (view margin) (c.numbered_has_table.ensures names n c.count-2.ensures.distinct few (netlist-below c.args.accepted names n w one c.in_ok-written.ensures.numbers)))
    c.write_netlist.ensures.laid_out
