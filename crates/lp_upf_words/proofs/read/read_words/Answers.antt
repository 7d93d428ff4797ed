use Rattle.std.proofs.Common.{arith, ap, sym, ◌∙◌}
use Rattle.lp_upf_words.specs.Bytes.{kind_of}
use Rattle.lp_upf_words.specs.Reading.{State, read}
use Rattle.lp_upf_words.specs.Views.{gathered_of}
use Rattle.lp_upf_words.proofs.Answered.{answered}
use Rattle.lp_upf_words.proofs.Modest.{bytes_all, modest_read}
use Rattle.lp_upf_words.proofs.read.read_words.Goals as goal

pub returns-in-Ok-clause-ok : goal.returns-in-Ok-clause-ok
returns-in-Ok-clause-ok c =
    let text = c.args.text.now in
    let begun = ap (λ (s : State). read kind_of s text) (sym (c.new-reader.ensures.state c.args.names.now)) in
    answered text c.words_read.new.names c.words_read.result (gathered_of c.run.new.names c.run.new.reader) c.in-Ok.stop (begun ∙ c.in-Ok.ensures.ok) c.words_read.ensures.ok c.words_read.ensures.fault

pub returns-in-Ok-clause-modest : goal.returns-in-Ok-clause-modest
returns-in-Ok-clause-modest c =
    let text = c.args.text.now in
    let begun = ap (λ (s : State). read kind_of s text) (sym (c.new-reader.ensures.state c.args.names.now)) in
    let ok = answered text c.words_read.new.names c.words_read.result (gathered_of c.run.new.names c.run.new.reader) c.in-Ok.stop (begun ∙ c.in-Ok.ensures.ok) c.words_read.ensures.ok c.words_read.ensures.fault in
    modest_read text c.words_read.new.names c.words_read.result (bytes_all text (λ k. let fits = c.type_inv.text k in omega (arith, fits))) c.requires.small ok
