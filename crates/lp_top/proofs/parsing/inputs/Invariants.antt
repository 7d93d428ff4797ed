use Rattle.std.proofs.Common.{◌≡◌, ◌∷◌, map, take}
use Rattle.lp_top.proofs.parsing.inputs.Given as goal

abbrev pub invariant-loop-library : goal.invariant-loop-library
invariant-loop-library l = map (λ n. n.now) l.names.items ≡ l.fn.command.netlist.now ∷ l.fn.command.upf.now ∷ take l.library-index l.fn.command.libraries.now
