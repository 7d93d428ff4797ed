use Rattle.std.proofs.Common.{◌≡◌, ◌<◌, Some, subst, ap, sym, ◌∙◌, arith}
use Rattle.std.specs.Prelude.{OnOk}
use Rattle.lp_node_text.specs.declared.found.Found.{Found}
use Rattle.lp_node_text.proofs.Writing.{inside-text}
use Rattle.lp_node_text.proofs.text.+put_below.Goals as goal

pub returns-in_ok-extend_from_slice-in-Some-Inside : goal.returns-in_ok-extend_from_slice-in-Some-Inside
returns-in_ok-extend_from_slice-in-Some-Inside t c =
    let some : 0 < c.args.depth = omega (arith, c.if-depth-eq0.false) in
    let found = sym c.in-Some-Inside.ensures ∙ ap (λ (x : Found). Some x) c.in-Some-Inside.field-0-is in
    subst (λ r. OnOk c.put_below.result (c.put_below.new.out.items ≡ r))
    (inside-text c.args.names.now c.args.modules.now c.args.templates.now c.args.depth c.args.of c.args.place c.in-Some-Inside.inside c.args.out.now.items c.put_name.new.out.items c.extend_from_slice.new.self.items some found c.in_ok-put_name-in-Some-Inside.ensures c.in_ok-extend_from_slice-in-Some-Inside.ensures.items)
    c.put_below.ensures
