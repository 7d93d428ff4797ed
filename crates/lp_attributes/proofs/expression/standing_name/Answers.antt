use Rattle.std.proofs.Common.{◌≡◌}
use Rattle.lp_text.specs.Texts.{place_of}
use Rattle.lp_attributes.proofs.Finding.{no_place, has_place, stands}
use Rattle.lp_attributes.proofs.expression.standing_name.Goals as goal

pub returns-in-None : goal.returns-in-None
returns-in-None c =
    let is : c.find.result ≡ place_of c.args.name.now c.args.stand.now = cc in
    no_place c.args.stand.now c.args.name.now c.find.result is c.in-None.is

pub returns-in-Some : goal.returns-in-Some
returns-in-Some c =
    let is : c.find.result ≡ place_of c.args.name.now c.args.stand.now = cc in
    stands c.args.names.now c.args.stand.now c.args.name.now c.find-in-Some.result c.requires.known (has_place c.args.stand.now c.args.name.now c.find.result c.in-Some.field-0 is c.in-Some.is) c.find-in-Some.ensures
