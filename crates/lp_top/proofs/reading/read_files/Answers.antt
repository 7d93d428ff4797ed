use Rattle.std.proofs.Common.{rules, ◌≡◌, ℕ, ◌≤◌, ◌+◌, ◌∷◌, [], ◌++◌, List, length, sym, ◌∙◌, ap, subst, arith, length-append, Bor, get_or, take, map}
use Rattle.lp_text.specs.Shelf.{content, count_up}
use Rattle.std.specs.Option.{option_map, IfSome}
use Rattle.lp_top.specs.Reading.{HoldsAll}
use Rattle.lp_top.proofs.ReadingLaws.{holds-none, holds-more, names-more, on_ok, count_more-none, count_more-step}
use Rattle.lp_top.proofs.reading.read_files.Goals as goal

pub loop-name-init : goal.loop-name-init
loop-name-init g c = record {
  held = search rules;
  said = search rules;
  faults = search rules;
  missed = search rules;
  calls = count_more-none (g.S.Shelf.calls c.args.shelf.now);
  texts = subst (HoldsAll (g.S.Shelf.held c.args.shelf.now) []) (sym c.new-texts.ensures) (holds-none (g.S.Shelf.held c.args.shelf.now));
  count = ap length c.new-texts.ensures;
}

pub loop-name-preserved : goal.loop-name-preserved
loop-name-preserved g c =
    let item : Bor (List ℕ) = record { ref_ptr = (0, 0); now = [] } in
    let inv = c.loop-name.invariant in
    let pushed : c.push.new.self ≡ c.loop-name.texts ++ c.in-Ok.text.items ∷ [] =
    on_ok c.push.result _ c.push.ensures.ok (sym c.is_err.ensures.value ∙ c.if-is_err.false) ∙ ap (λ t. c.loop-name.texts ++ t ∷ []) c.new.ensures in
    let short : length c.in-Ok.text.items ≤ 67108864 = subst (λ n. n ≤ 67108864) c.in-Ok.text.ok.0 c.in-Ok.ensures.limit in
    let gives = subst (λ h. IfSome h (λ f. c.in-Ok.text.items ≡ content f (get_or c.args.names.now c.loop-name.name-index item).now)) inv.held c.in-Ok.ensures.contents in
    record {
      held = c.in-Ok.ensures.keeps_held ∙ inv.held;
      said = c.in-Ok.ensures.keeps_said ∙ inv.said;
      faults = c.in-Ok.ensures.counts ∙ inv.faults;
      missed = c.in-Ok.ensures.misses ∙ inv.missed;
      calls = c.in-Ok.ensures.counted ∙ (ap (option_map count_up) inv.calls ∙ count_more-step c.loop-name.name-index (g.S.Shelf.calls c.args.shelf.now));
      texts = rw (names-more c.args.names.now c.loop-name.name-index item (omega arith))
          (subst (HoldsAll (g.S.Shelf.held c.args.shelf.now) (take c.loop-name.name-index (map (λ n. n.now) c.args.names.now) ++ (get_or c.args.names.now c.loop-name.name-index item).now ∷ [])) (sym pushed)
          (holds-more (g.S.Shelf.held c.args.shelf.now) (take c.loop-name.name-index (map (λ n. n.now) c.args.names.now)) c.loop-name.texts (get_or c.args.names.now c.loop-name.name-index item).now c.in-Ok.text.items inv.texts gives short));
      count = ap length pushed ∙ (length-append c.loop-name.texts (c.in-Ok.text.items ∷ []) ∙ ap (λ n. n + 1) inv.count);
    }
