use Rattle.std.proofs.Common.{◌≡◌, ◌+◌, ◌<◌, ◌++◌, ◌∷◌, [], length, sym, ap, ◌∙◌, arith}
use Rattle.lp_places.specs.Places.{marked}
use Rattle.lp_places.proofs.Firsts.{pushed}
use Rattle.lp_places.proofs.places.Places.push.Goals as goal

pub invariant_of-self-2 : goal.invariant_of-self-2
invariant_of-self-2 c =
    let numbers = c.self.inside.numbers.items in
    let firsts = c.cover.new.firsts.items in
    let number = c.args.number in
    let count : length numbers ≡ length c.args.self.now = ap length c.self.view_is in
    let last : c.len-place.result ≡ length numbers = c.len-place.ensures ∙ sym count in
    let within : number < length firsts = omega (arith, c.in_ok-cover.ensures.room) in
    let room : length numbers + 1 < 4294967295 = omega (arith, count, c.requires) in
    let added : c.push.new.self.items ≡ numbers ++ number ∷ [] = c.in_ok-push.ensures.items in
    let noted : c.mark.new.firsts.items ≡ marked firsts number (length numbers) = c.mark.ensures ∙ ap (marked firsts number) last in
    rw (added, noted) (pushed c.self.inside.firsts.items firsts numbers number c.self.invariant c.cover.ensures.same within room)
