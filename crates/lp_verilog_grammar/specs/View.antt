-- How contracts see the productions of the code.
use Rattle.lp_verilog_grammar.specs.Grammar as grammar
use Rattle.lp_verilog_grammar.specs.declared.grammar.Production.{Production}

abbrev pub production_view : Production → grammar.Production
production_view p = record { action = p.action; follow = p.follow.now }
