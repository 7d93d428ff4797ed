use Rattle.std.proofs.Common.{arith, sym, ◌∙◌}
use Rattle.std.proofs.lemmas.Grind.{common_steps}
use Rattle.lp_fault_text.proofs.Rising.{path_up}
use Rattle.lp_fault_text.proofs.path.+put_path_within.Goals as goal

pub returns-in_ok-extend_from_slice : goal.returns-in_ok-extend_from_slice
returns-in_ok-extend_from_slice t c =
    let up = path_up c.args.names.now c.args.instances.now c.args.depth c.args.inst c.in-Some.parent c.in-Some.name (omega (arith, c.if-depth-eq0.false)) (sym c.standing.ensures ∙ c.in-Some.is) in
    rw up (grind (arith, common_steps))
