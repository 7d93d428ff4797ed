use Rattle.std.proofs.Common.{◌≡◌, sym, ap, ◌∙◌}
use Rattle.std.specs.Prelude.{slice_index_or}
use Rattle.lp_places.specs.Places.{place_of_number}
use Rattle.lp_places.proofs.Firsts.{first-none, first-some}
use Rattle.lp_places.proofs.places.Places.find.Goals as goal

pub returns-then-place : goal.returns-then-place
returns-then-place c =
    let number = c.args.number in
    let firsts = c.self.inside.firsts.items in
    let noted : slice_index_or firsts number 4294967295 ≡ c.first-place.result = sym (c.first-place.ensures ∙ ap (λ xs. slice_index_or xs number 4294967295) c.as_slice.ensures.value) in
    sym (first-none firsts c.self.inside.numbers.items c.self.invariant number (noted ∙ c.if-place.true)) ∙ ap (place_of_number number) c.self.view_is

pub returns-else-place : goal.returns-else-place
returns-else-place c =
    let number = c.args.number in
    let firsts = c.self.inside.firsts.items in
    let noted : slice_index_or firsts number 4294967295 ≡ c.first-place.result = sym (c.first-place.ensures ∙ ap (λ xs. slice_index_or xs number 4294967295) c.as_slice.ensures.value) in
    sym (first-some firsts c.self.inside.numbers.items c.self.invariant number c.first-place.result noted c.if-place.false) ∙ ap (place_of_number number) c.self.view_is
