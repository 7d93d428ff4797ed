use Rattle.std.proofs.Common.{◌-◌, length, take, drop, subst, sym, arith, length-take}
use Rattle.std.specs.Io.KnownBytes.{Appends}
use Rattle.lp_text.proofs.Putting.{appends-kept, appends-more}
use Rattle.lp_text.proofs.stream.put.Goals as goal
use Rattle.lp_text.proofs.stream.put.Goals.{in-Ok, in-Err}

pub loop-turn-preserved : goal.loop-turn-preserved
loop-turn-preserved g c =
    let inv = c.loop-turn.invariant in
    let old = g.W.Write.contents c.args.writer.now in
    let between = g.W.Write.contents c.loop-turn.writer in
    let new = g.W.Write.contents c.write.new.self in
    let bytes = c.args.bytes.now in
    elim c.match-write.branch [
      | in-Ok w ↦ record {
        within = omega (arith, w.in-Ok.ensures.bound, length-take (length bytes - c.loop-turn.done) (drop c.loop-turn.done bytes));
        handed = subst (λ n. Appends old new (take n bytes)) (sym w.done-is)
            (appends-more old between new bytes c.loop-turn.done w.in-Ok.taken inv.handed w.in-Ok.ensures.bytes);
      }
      | in-Err w ↦ record {
        within = omega arith;
        handed = subst (λ n. Appends old new (take n bytes)) (sym w.done-is)
            (appends-kept old between new (take c.loop-turn.done bytes) inv.handed w.in-Err.ensures.bytes);
      }
    ]
