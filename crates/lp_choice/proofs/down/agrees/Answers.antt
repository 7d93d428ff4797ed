use Rattle.std.proofs.Common.{◌≡◌, ◌∙◌, ◌++◌, ap, map, length}
use Rattle.lp_spec_fit.specs.Equality.{once}
use Rattle.lp_text.specs.declared.names.NameId.{NameId}
use Rattle.lp_choice.specs.Keys.{same_key}
use Rattle.lp_choice.specs.Wires.{agree, number_wire}
use Rattle.lp_choice.specs.Rails.{origins_of, rail_of, rail_wire}
use Rattle.lp_choice.proofs.down.agrees.Goals as goal

pub returns : goal.returns
returns c =
    let texts = c.args.names.now in
    let pgs = c.args.pgs.now in
    let origins = c.args.origins.now in
    let e = c.args.e.now in
    let off = c.args.off.now in
    let keys : c.in_ok-kept.kept.items ≡ once same_key (origins_of texts pgs origins e.variables ++ off) =
    c.in_ok-kept.ensures
    ∙ ap (once same_key) (c.as_slice.ensures.value ∙ (c.in_ok-add_all.ensures ∙ ap (λ ks. ks ++ off) (c.in_ok-keys.ensures ∙ ap (origins_of texts pgs origins) c.variables.ensures.is))) in
    let slots : c.as_slice-slots.result.now ≡ once same_key (origins_of texts pgs origins e.variables ++ off) = c.as_slice-slots.ensures.value ∙ keys in
    c.agree.ensures
    ∙ (λ i. agree e
    ((c.as_slice-2.ensures.value ∙ (c.in_ok-own.ensures ∙ (λ j. map (λ (n : NameId). rail_wire (slots j) (rail_of texts pgs origins n)) (c.variables-2.ensures.is j)))) i)
    c.args.wanted.now
    ((c.as_slice-3.ensures.value ∙ (c.in_ok-other.ensures ∙ (λ j. map (number_wire (slots j)) off))) i)
    (length (slots i)))
