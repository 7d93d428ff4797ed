use Rattle.std.proofs.Common.{List, length, ap, ◌∙◌}
use Rattle.std.specs.String.{string_bytes}
use Rattle.lp_model.specs.declared.upf.UpfWord.{UpfWord}
use Rattle.lp_model.specs.Agreement.{numbers_below}
use Rattle.lp_upf_words.specs.Words.{Gathered}
use Rattle.lp_upf_words.proofs.Again.{at_mode}
use Rattle.lp_upf_words.proofs.Shown.{shown, shown_word, numbers, word_below, grown_length}
use Rattle.lp_upf_words.proofs.reader.Reader.close.Goals as goal

pub returns-clause-ok : goal.returns-clause-ok
returns-clause-ok c =
    let s = c.args.self.now in
    let w : UpfWord = record { name = c.in_ok-name.name; place = s.begun; form = c.args.form } in
    ap (λ (g : Gathered). at_mode s.mode (string_bytes s.said) s.begun s.here g)
    (ap (λ (ws : List UpfWord). shown c.intern.new.names s.commands s.ends ws) c.in_ok-push.ensures.ok
    ∙ shown_word c.args.names.now c.intern.new.names s.commands s.ends s.words w (string_bytes s.said) c.in_ok-name.ensures.grown c.requires.below (c.in_ok-name.ensures.text ∙ c.as_str.ensures.value))

pub returns-clause-below : goal.returns-clause-below
returns-clause-below c =
    let s = c.args.self.now in
    let old = c.args.names.now in
    let new = c.intern.new.names in
    let w : UpfWord = record { name = c.in_ok-name.name; place = s.begun; form = c.args.form } in
    ap (λ (ws : List UpfWord). numbers_below (length new) (numbers s.commands ws)) c.in_ok-push.ensures.ok
    ∙ word_below (length old) (length new) s.commands s.words w (grown_length old new c.in_ok-name.ensures.grown) c.requires.below c.in_ok-name.ensures.below
