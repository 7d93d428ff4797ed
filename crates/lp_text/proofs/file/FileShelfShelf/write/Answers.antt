use Rattle.std.proofs.Common.{◌≡◌, sym, subst}
use Rattle.std.specs.Prelude.{IfErr}
use Rattle.lp_text.specs.Shelf.{Faults, WriteFaults}
use Rattle.lp_text.specs.Streams.{failures}
use Rattle.lp_text.specs.declared.shelf.ShelfFault.TheVariants.{Failed}
use Rattle.lp_text.proofs.Counting.{write-counted}
use Rattle.lp_text.proofs.file.FileShelfShelf.write.Goals as goal

pub returns-clause-counts : goal.returns-clause-counts
returns-clause-counts g c =
    let counts = c.self.inside.counts in
    let old : Faults = record { read = counts.read; write = counts.write; say = counts.say; long = counts.long } in
    let new : Faults = record { read = counts.read; write = c.count_failed.new.count; say = counts.say; long = counts.long } in
    let same = sym c.count_failed.ensures.same in
    subst (λ o. WriteFaults c.count_failed.result o new) c.self.view_is
    (write-counted c.count_failed.result old new.write
    (subst (λ r. IfErr r (λ e. e ≡ Failed)) same c.put_opened-answer.ensures.cause)
    (subst (λ r. new.write ≡ failures r old.write) same c.count_failed.ensures.counted)
    c.count_failed.ensures.up)
