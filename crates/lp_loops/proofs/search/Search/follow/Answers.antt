use Rattle.std.proofs.Common.{length, ap, arith}
use Rattle.lp_loops.proofs.Below.{read_below}
use Rattle.lp_loops.proofs.SearchLaws.{following-back, following-next, following-over}
use Rattle.lp_loops.proofs.search.Search.follow.Goals as goal

pub pass-requires : goal.pass-requires
pass-requires c =
    let below = read_below c.args.graph.now c.args.key c.loop-read.read-index c.row-read-items.result.now c.requires.below c.requires.key c.row-read-items.ensures (omega arith) in
    omega (arith, below, c.loop-read.invariant.search.counted, c.loop-read.self.met.ok.0)

pub returns-then-next-root : goal.returns-then-next-root
returns-then-next-root c =
    following-back c.args.graph.now c.args.root c.args.key c.args.self.now c.loop-read.self c.loop-read.read-index c.loop-read.invariant c.row-read-items.result.now c.row-read-items.ensures (omega arith) c.if-next-root.true

pub loop-read-preserved : goal.loop-read-preserved
loop-read-preserved c =
    let below = read_below c.args.graph.now c.args.key c.loop-read.read-index c.row-read-items.result.now c.requires.below c.requires.key c.row-read-items.ensures (omega arith) in
    following-next c.args.graph.now c.args.root c.args.key c.args.self.now c.loop-read.self c.loop-read.read-index c.loop-read.invariant c.row-read-items.result.now c.row-read-items.ensures (omega arith)
    (omega (arith, below, c.loop-read.invariant.search.counted)) c.if-next-root.false c.pass.new.self c.in_ok-pass.ensures.before c.in_ok-pass.ensures.again c.in_ok-pass.ensures.met c.in_ok-pass.ensures.waiting

pub returns : goal.returns
returns c =
    following-over c.args.graph.now c.args.root c.args.key c.args.self.now c.loop-read.self c.loop-read.read-index c.loop-read.invariant (omega (arith, ap length c.row-read-items.ensures))
