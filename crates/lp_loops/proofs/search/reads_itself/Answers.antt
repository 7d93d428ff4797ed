use Rattle.std.proofs.Common.{arith}
use Rattle.lp_loops.proofs.SearchLaws.{search-begun, search-popped, key-below, no_way_left}
use Rattle.lp_loops.proofs.search.reads_itself.Goals as goal

pub loop-key-init : goal.loop-key-init
loop-key-init c =
    let s = c.in_ok-search.search in
    search-begun c.args.graph.now c.args.root c.len.result s.met.items s.waiting.items c.len.ensures c.requires.root c.in_ok-search.ensures.met c.in_ok-search.ensures.waiting

pub follow-requires-clause-search : goal.follow-requires-clause-search
follow-requires-clause-search c =
    let s = c.loop-key.search in
    search-popped c.args.graph.now c.args.root s.met.items s.waiting.items c.pop.new.self.items c.in-Some.key c.loop-key.invariant c.in-Some.ensures.items

pub follow-requires-clause-key : goal.follow-requires-clause-key
follow-requires-clause-key c =
    let s = c.loop-key.search in
    key-below c.args.graph.now c.args.root s.met.items c.pop.new.self.items c.in-Some.key
    (search-popped c.args.graph.now c.args.root s.met.items s.waiting.items c.pop.new.self.items c.in-Some.key c.loop-key.invariant c.in-Some.ensures.items)

pub returns : goal.returns
returns c =
    let s = c.loop-key.search in
    no_way_left c.args.graph.now c.args.root s.met.items s.waiting.items c.loop-key.invariant (omega (arith, c.in_default.ensures.cases, s.waiting.ok.0)) c.requires.before
