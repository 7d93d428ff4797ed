use Rattle.lp_expr.proofs.TableLemmas.{few_words, many_words}
use Rattle.lp_expr.proofs.table.words_for.Goals as goal

pub returns-then-count-lt6 : goal.returns-then-count-lt6
returns-then-count-lt6 c = few_words c.args.count c.if-count-lt6.true

pub returns-else-count-lt6 : goal.returns-else-count-lt6
returns-else-count-lt6 c = many_words c.args.count c.requires c.if-count-lt6.false
