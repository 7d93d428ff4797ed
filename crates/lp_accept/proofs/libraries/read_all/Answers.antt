use Rattle.std.proofs.Common.{◌+◌, ◌++◌, ◌∷◌, [], length, take, sym, ap, ◌∙◌, subst, arith, length-append}
use Rattle.std.specs.Prelude.{Err}
use Rattle.lp_spec_insertion.specs.Faults.{IsOff}
use Rattle.lp_accept.specs.Stages.{OrStop}
use Rattle.lp_accept.specs.Read.{IsGroups, AreGroups}
use Rattle.lp_accept.proofs.Readings.{no-groups, groups-more, exit-off, texts-more, take-all}
use Rattle.lp_accept.proofs.libraries.read_all.Goals as goal

pub loop-library-init : goal.loop-library-init
loop-library-init c = record {
  read = subst (AreGroups c.args.names.now []) (sym c.new-files.ensures) (no-groups c.args.names.now);
  count = ap length c.new-files.ensures;
  few = let none = ap length c.requires.none in omega (arith, none);
}

pub overflow_cast-file : goal.overflow_cast-file
overflow_cast-file c =
    let e = c.len.ensures ∙ c.loop-library.invariant.count in
    omega (arith, e, c.loop-library-test.true, c.requires.few)

pub overflow_add-file : goal.overflow_add-file
overflow_add-file c =
    let e = c.len.ensures ∙ c.loop-library.invariant.count in
    omega (arith, e, c.loop-library-test.true, c.requires.few)

pub read_one-requires : goal.read_one-requires
read_one-requires c =
    let few = c.loop-library.invariant.few in
    omega (arith, few, c.loop-library-test.true, c.requires.few)

pub returns-in-Err-clause-gives : goal.returns-in-Err-clause-gives
returns-in-Err-clause-gives c =
    let inv = c.loop-library.invariant in
    let names = c.read_one.new.names in
    let off = subst (λ t. OrStop (IsGroups names t) (IsOff (10 + c.len.result) t) (Err c.in-Err.stop)) c.all.ensures c.in-Err.ensures.gives in
    exit-off c.loop-library.names c.args.libs.now c.loop-library.library-index c.loop-library.files c.library-item.result c.in-Err.stop
    (IsGroups names c.library-item.result) (AreGroups names c.args.libs.now) inv.read c.loop-library-test.true c.library-item.is
    (subst (λ n. OrStop (IsGroups names c.library-item.result) (IsOff (10 + n) c.library-item.result) (Err c.in-Err.stop)) c.len.ensures off)

pub loop-library-preserved : goal.loop-library-preserved
loop-library-preserved c =
    let inv = c.loop-library.invariant in
    let new = c.read_one.new.names in
    let text = c.library-item.result in
    let is = subst (λ t. IsGroups new t c.in-Ok.groups) c.all.ensures c.in-Ok.ensures.gives in
    let more = groups-more c.loop-library.names new c.in-Ok.ensures.grown (take c.loop-library.library-index c.args.libs.now) c.loop-library.files text c.in-Ok.groups inv.read is in
    let texts = texts-more c.args.libs.now c.loop-library.library-index text c.loop-library-test.true c.library-item.is in
    record {
      read = subst (λ f. AreGroups new (take (c.loop-library.library-index + 1) c.args.libs.now) f) (sym c.in_ok-push-in-Ok.ensures.ok) (subst (λ t. AreGroups new t (c.loop-library.files ++ c.in-Ok.groups ∷ [])) (sym texts) more);
      count = ap length c.in_ok-push-in-Ok.ensures.ok ∙ (length-append c.loop-library.files (c.in-Ok.groups ∷ []) ∙ ap (λ n. n + 1) inv.count);
      few = let short = c.in-Ok.ensures.short in let few = inv.few in omega (arith, short, few);
    }

pub returns-clause-gives : goal.returns-clause-gives
returns-clause-gives c =
    subst (λ t. AreGroups c.loop-library.names t c.loop-library.files) (take-all c.args.libs.now c.loop-library.library-index (let out = c.loop-library-test.false in omega (arith, out))) c.loop-library.invariant.read

pub returns-clause-short : goal.returns-clause-short
returns-clause-short c =
    let few = c.loop-library.invariant.few in
    let last = c.loop-library.auto.library-index-end in
    omega (arith, few, last, c.requires.few)
