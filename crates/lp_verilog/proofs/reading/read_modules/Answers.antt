use Rattle.std.proofs.Common.{ℕ, List, ◌+◌, false, length, drop, sym, ◌∙◌, arith}
use Rattle.lp_verilog_grammar.specs.declared.reader.Reader.{Reader}
use Rattle.lp_verilog.specs.Reading.{read_rest}
use Rattle.lp_verilog_tokens.specs.View.{piece_view}
use Rattle.lp_verilog.proofs.Found.{grown_trans}
use Rattle.lp_verilog.proofs.Unread.{piece_visible, ends_unread}
use Rattle.lp_verilog.proofs.Loop.{finished, turn_at, halted}
use Rattle.lp_verilog.proofs.reading.read_modules.Goals as goal

pub returns-in-None-clause-reads : goal.returns-in-None-clause-reads
returns-in-None-clause-reads c = finished c.finish.result (drop c.loop-byte.byte-index c.args.bytes.now) (length c.args.bytes.now) c.loop-byte.fresh c.loop-byte.rest.now c.loop-byte.names c.loop-byte.reader _ (sym c.in-None.ensures.piece) c.finish.ensures.modules c.loop-byte.invariant.reads

pub returns-in-Err-clause-reads : goal.returns-in-Err-clause-reads
returns-in-Err-clause-reads c =
    let more = λ (r : List ℕ) (ns : List (List ℕ)) (n : Reader). read_rest (drop (c.loop-byte.byte-index + 1) c.args.bytes.now) (length c.args.bytes.now) false r ns n in
    halted c.in-Err.halt c.turn.new.names _ _ (c.in-Err.ensures.reads more) (turn_at c.args.bytes.now c.loop-byte.byte-index (length c.args.bytes.now) c.loop-byte.fresh c.loop-byte.rest.now c.loop-byte.names c.loop-byte.reader (piece_view c.in-Some.piece) _ (omega arith) (sym c.in-Some.ensures.piece) c.loop-byte.invariant.reads)

pub loop-byte-preserved : goal.loop-byte-preserved
loop-byte-preserved c =
    let more = λ (r : List ℕ) (ns : List (List ℕ)) (n : Reader). read_rest (drop (c.loop-byte.byte-index + 1) c.args.bytes.now) (length c.args.bytes.now) false r ns n in
    record {
      reads = sym (c.in-Ok.ensures.reads more) ∙ turn_at c.args.bytes.now c.loop-byte.byte-index (length c.args.bytes.now) c.loop-byte.fresh c.loop-byte.rest.now c.loop-byte.names c.loop-byte.reader (piece_view c.in-Some.piece) _ (omega arith) (sym c.in-Some.ensures.piece) c.loop-byte.invariant.reads;
      grown = grown_trans c.args.names.now c.loop-byte.names c.turn.new.names c.loop-byte.invariant.grown c.in-Ok.ensures.grown;
      few = omega (arith, c.in-Ok.ensures.few);
      within = omega (arith, c.in-Ok.ensures.left);
    }

pub turn-requires-clause-seen : goal.turn-requires-clause-seen
turn-requires-clause-seen c = λ out. piece_visible c.loop-byte.fresh c.loop-byte.rest.now (piece_view c.in-Some.piece) (sym c.in-Some.ensures.piece) out

pub returns-in-Err-clause-unread : goal.returns-in-Err-clause-unread
returns-in-Err-clause-unread c = ends_unread c.in-Err.halt c.loop-byte.names c.turn.new.names _ c.in-Err.ensures.unread (omega arith)
