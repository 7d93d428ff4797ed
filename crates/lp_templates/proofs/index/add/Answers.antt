use Rattle.std.proofs.Common.{◌≡◌, ◌<◌, true, false, length, arith}
use Rattle.std.specs.Prelude.{is_some}
use Rattle.lp_places.specs.Places.{place_of_number}
use Rattle.lp_templates.proofs.Indexed.{index_same, known_added, new_added, none_of, some_of_is}
use Rattle.lp_templates.proofs.index.add.Goals as goal

pub returns-then-not-known-clause-index : goal.returns-then-not-known-clause-index
returns-then-not-known-clause-index c =
    let numbers = c.args.numbers.now.items in
    let firsts = c.cover.new.firsts.items in
    let index = index_same c.args.firsts.now.items firsts numbers c.requires c.cover.ensures.same in
    let room : c.args.number < length firsts = omega (arith, c.in_ok-cover.ensures.room) in
    let new : is_some (place_of_number c.args.number numbers) ≡ false = grind (arith, c.found.ensures, c.is_some-known.ensures, c.if-not-known.true, c.if-not-known.ensures, c.as_slice.ensures.value) in
    rw (c.in_ok-push.ensures.items, c.as_slice-place.ensures.value) (new_added firsts numbers c.args.number index room (none_of (place_of_number c.args.number numbers) new))

pub returns-else-not-known-clause-index : goal.returns-else-not-known-clause-index
returns-else-not-known-clause-index c =
    let numbers = c.args.numbers.now.items in
    let firsts = c.cover.new.firsts.items in
    let index = index_same c.args.firsts.now.items firsts numbers c.requires c.cover.ensures.same in
    let known : is_some (place_of_number c.args.number numbers) ≡ true = grind (arith, c.found.ensures, c.is_some-known.ensures, c.if-not-known.false, c.if-not-known.ensures, c.as_slice.ensures.value) in
    let some = some_of_is (place_of_number c.args.number numbers) known in
    rw c.in_ok-push.ensures.items (known_added firsts numbers c.args.number index some.0 some.1)
