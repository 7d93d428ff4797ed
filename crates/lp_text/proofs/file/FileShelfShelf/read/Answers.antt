use Rattle.std.proofs.Common.{◌≡◌, sym, ◌∙◌, subst}
use Rattle.lp_text.specs.Shelf.{Faults, ReadFaults}
use Rattle.lp_text.specs.Streams.{failures, too_longs}
use Rattle.lp_text.proofs.Counting.{read-counted}
use Rattle.lp_text.proofs.file.FileShelfShelf.read.Goals as goal

pub returns-clause-counts : goal.returns-clause-counts
returns-clause-counts g c =
    let counts = c.self.inside.counts in
    let old : Faults = record { read = counts.read; write = counts.write; say = counts.say; long = counts.long } in
    let new : Faults = record { read = c.count_failed-answer.new.count; write = counts.write; say = counts.say; long = c.count_long.new.count } in
    let same = c.count_long.ensures.same in
    subst (λ o. ReadFaults c.count_long.result o new) c.self.view_is
    (read-counted c.count_long.result old new.read new.long
    (subst (λ r. new.read ≡ failures r old.read) (sym (same ∙ c.count_failed-answer.ensures.same)) c.count_failed-answer.ensures.counted)
    c.count_failed-answer.ensures.up
    (subst (λ r. new.long ≡ too_longs r old.long) (sym same) c.count_long.ensures.counted)
    c.count_long.ensures.up)
