use Rattle.std.proofs.Common.{◌≡◌, ◌∙◌, ◌++◌, ap, map, length}
use Rattle.lp_spec_fit.specs.Equality.{once}
use Rattle.lp_choice.specs.Keys.{keys_of, same_key}
use Rattle.lp_choice.specs.Wires.{agree, named_wire}
use Rattle.lp_choice.proofs.Joining.{agree-named}
use Rattle.lp_choice.proofs.functions.is_function.Goals as goal

pub returns : goal.returns
returns c =
    let texts = c.args.names.now in
    let e = c.args.e.now in
    let given = c.args.given.now in
    let kept = c.in_ok-kept.kept.items in
    let keys : kept ≡ once same_key (keys_of texts e.variables ++ keys_of texts given) =
    c.in_ok-kept.ensures
    ∙ ap (once same_key) (c.as_slice.ensures.value
    ∙ (c.in_ok-add_keys-2.ensures
    ∙ ap (λ ks. ks ++ keys_of texts given) (c.in_ok-add_keys.ensures ∙ (λ i. c.new-keys.ensures.items i ++ keys_of texts (c.variables.ensures.is i))))) in
    let slots : c.as_slice-slots.result.now ≡ kept = c.as_slice-slots.ensures.value in
    let own : c.as_slice-2.result.now ≡ map (named_wire texts kept) e.variables =
    c.as_slice-2.ensures.value ∙ (c.in_ok-own.ensures ∙ (λ i. map (named_wire texts (slots i)) (c.variables-2.ensures.is i))) in
    let other : c.as_slice-3.result.now ≡ map (named_wire texts kept) given =
    c.as_slice-3.ensures.value ∙ (c.in_ok-other.ensures ∙ (λ i. map (named_wire texts (slots i)) given)) in
    c.agree.ensures
    ∙ ((λ i. agree e (own i) c.args.wanted.now (other i) (length (slots i)))
    ∙ agree-named texts e c.args.wanted.now e.variables given kept keys)
