use Rattle.std.proofs.Common.{length, ap, ◌∙◌}
use Rattle.std.specs.List.{flat_map}
use Rattle.lp_model.specs.CommandsView.{line_numbers}
use Rattle.lp_model.specs.Agreement.{numbers_below}
use Rattle.lp_upf_words.specs.declared.answer.WordsRead.{WordsRead}
use Rattle.lp_upf_words.specs.Answer.{fault_numbers, gathered_in, read_numbers}
use Rattle.lp_upf_words.proofs.Shown.{shown_same, numbers, below_more, below_join, below_parts, grown_length}
use Rattle.lp_upf_words.proofs.read.words_read.Goals as goal

pub returns-in-Ok-clause-ok : goal.returns-in-Ok-clause-ok
returns-in-Ok-clause-ok c =
    let r = c.args.reader in
    ap (gathered_in c.fault_of.new.names) c.into_words.ensures
    ∙ shown_same c.args.names.now c.fault_of.new.names r.commands r.ends r.words c.in-Ok.ensures.grown c.requires.below

pub returns-in-Ok-clause-numbers : goal.returns-in-Ok-clause-numbers
returns-in-Ok-clause-numbers c =
    let r = c.args.reader in
    let old = c.args.names.now in
    let new = c.fault_of.new.names in
    let parts = below_parts (length new) (flat_map line_numbers r.commands) (line_numbers r.words) (below_more (length old) (length new) (numbers r.commands r.words) (grown_length old new c.in-Ok.ensures.grown) c.requires.below) in
    ap (λ (w : WordsRead). numbers_below (length new) (read_numbers w)) c.into_words.ensures
    ∙ below_join (length new) (flat_map line_numbers r.commands) _ parts.0 (below_join (length new) (line_numbers r.words) (fault_numbers c.in-Ok.fault) parts.1 c.in-Ok.ensures.numbers)
