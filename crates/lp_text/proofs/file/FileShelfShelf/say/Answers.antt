use Rattle.std.proofs.Common.{◌≡◌, sym, subst}
use Rattle.std.specs.Prelude.{IfErr}
use Rattle.lp_text.specs.Shelf.{Faults, SayFaults}
use Rattle.lp_text.specs.Streams.{failures}
use Rattle.lp_text.specs.declared.shelf.ShelfFault.TheVariants.{Failed}
use Rattle.lp_text.proofs.Counting.{say-counted}
use Rattle.lp_text.proofs.file.FileShelfShelf.say.Goals as goal

pub returns-clause-counts : goal.returns-clause-counts
returns-clause-counts g c =
    let counts = c.self.inside.counts in
    let old : Faults = record { read = counts.read; write = counts.write; say = counts.say; long = counts.long } in
    let new : Faults = record { read = counts.read; write = counts.write; say = c.count_failed.new.count; long = counts.long } in
    let same = sym c.count_failed.ensures.same in
    subst (λ o. SayFaults c.count_failed.result o new) c.self.view_is
    (say-counted c.count_failed.result old new.say
    (subst (λ r. IfErr r (λ e. e ≡ Failed)) same c.put-answer.ensures.cause)
    (subst (λ r. new.say ≡ failures r old.say) same c.count_failed.ensures.counted)
    c.count_failed.ensures.up)
