use Rattle.std.proofs.Common.{◌≡◌, true, take, drop, sym, ap, ◌∙◌, subst}
use Rattle.std.specs.List.{list_all}
use Rattle.lp_verilog_tokens.specs.Lexical.{is_visible}
use Rattle.lp_verilog_tokens.specs.View.{lexeme_view}
use Rattle.lp_verilog.proofs.Unread.{unread_kept}
use Rattle.lp_verilog.proofs.reading.turn.Goals as goal

pub returns-in-Err-clause-unread : goal.returns-in-Err-clause-unread
returns-in-Err-clause-unread c =
    let bytes : c.front.result.now ≡ take c.args.piece.size (drop c.args.piece.gap c.args.rest.now) = c.front.ensures ∙ ap (take c.args.piece.size) c.skip-here.ensures in
    unread_kept c.in-Err.halt c.args.names.now c.token_of.new.names (lexeme_view c.args.piece.lexeme) c.in_ok-token.token c.args.reader.now _ c.front.result.now c.in-Err.ensures c.in_ok-token.ensures.token c.in_ok-token.ensures.ok (λ out. subst (λ xs. list_all is_visible xs ≡ true) (sym bytes) (c.requires.seen out))
