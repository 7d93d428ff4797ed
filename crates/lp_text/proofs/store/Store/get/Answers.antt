use Rattle.std.proofs.Common.{◌≡◌, true, false, ap, sym, ◌∙◌}
use Rattle.std.specs.Ordering.{nat_cmp}
use Rattle.std.specs.Cmp.Lexicographic.{slice_cmp, nat_list_cmp_total}
use Rattle.std.specs.FinMap.{get, find, get-from_entries}
use Rattle.std.specs.Prelude.{Some}
use Rattle.std.specs.Str.{bytes_eq}
use Rattle.lp_text.proofs.Found.{found, skipped}
use Rattle.lp_text.proofs.store.Store.get.Goals as goal

pub loop-held-init : goal.loop-held-init
loop-held-init c =
    ap (λ m. get m c.args.name.now) (sym c.self.view_is)
    ∙ get-from_entries nat_list_cmp_total _ _
    ∙ ap (find (slice_cmp nat_cmp) c.args.name.now) (sym c.into_iter-held-iterator.ensures.into_iter_gives.0)

pub returns-then-eq : goal.returns-then-eq
returns-then-eq c =
    let same : bytes_eq c.args.name.now c.in-Some.field-0.now.0 ≡ true = cc c.text.ensures in
    let hit = found c.args.name.now c.in-Some.field-0.now _ _ c.in-Some.ensures.steps same in
    ap Some c.all.ensures ∙ sym (c.loop-held.invariant ∙ hit)

pub loop-held-preserved : goal.loop-held-preserved
loop-held-preserved c =
    let other : bytes_eq c.args.name.now c.in-Some.field-0.now.0 ≡ false = cc c.text.ensures in
    c.loop-held.invariant ∙ skipped c.args.name.now c.in-Some.field-0.now _ _ c.in-Some.ensures.steps other
