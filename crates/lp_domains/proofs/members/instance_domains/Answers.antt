use Rattle.std.proofs.Common.{◌≡◌, ℕ, List, length, Option, subst, sym, ap, ◌∙◌, arith}
use Rattle.std.specs.Prelude.{slice_get}
use Rattle.lp_text.specs.declared.names.NameId.{NameId}
use Rattle.lp_model.specs.declared.graph.Inst.{Inst}
use Rattle.lp_model.specs.declared.intent.Domain.{Domain}
use Rattle.lp_spec_bridge.specs.Keyed.{keys_of}
use Rattle.lp_spec_views.specs.Views.{intent_view}
use Rattle.lp_domains.specs.Listed.{listings, domains_by}
use Rattle.lp_domains.specs.Domains.{unlisted_top, without_primary, IsDomainFault}
use Rattle.lp_domains.proofs.Noted.{length-listings}
use Rattle.lp_domains.proofs.Faults.{without-low, no-domain-key, no-primary-key, domains-are}
use Rattle.lp_domains.proofs.members.instance_domains.Goals as goal

-- what is found by equal lists
unlisted-is : (found : Option NameId) (xs same : List Inst) (table items : List (Option ℕ)) (ds known : List Domain) → found ≡ unlisted_top (slice_get xs 0) (slice_get table 0) → xs ≡ same → table ≡ items → items ≡ listings (length xs) ds → ds ≡ known
    → unlisted_top (slice_get same 0) (slice_get (listings (length same) known) 0) ≡ found
unlisted-is found xs same table items ds known is a b c d =
    sym
    (is
    ∙ ap (λ t. unlisted_top (slice_get xs 0) (slice_get t 0)) (b ∙ c)
    ∙ (λ r. unlisted_top (slice_get (a r) 0) (slice_get (listings (length (a r)) (d r)) 0)))

pub overflow_cast-domain : goal.overflow_cast-domain
overflow_cast-domain c =
    let low = without-low c.as_slice-3.result.now c.in-Some-without_primary.domain (sym c.without_primary.ensures ∙ c.in-Some-without_primary.is) in
    let size = ap length c.as_slice-3.ensures in
    omega (arith, low, size, c.requires)

pub inherit-requires : goal.inherit-requires
inherit-requires c =
    ap length (c.as_slice-4.ensures.value ∙ c.in_ok-table.ensures)
    ∙ length-listings (length c.as_slice-instances.result.now) c.as_slice.result.now

pub returns-in-Some-clause-err : goal.returns-in-Some-clause-err
returns-in-Some-clause-err c = λ texts s e r.
    let g = c.args.graph.now in
    let i = c.args.intent.now in
    let unlisted = unlisted-is c.unlisted_top.result c.as_slice-instances.result.now g.instances c.as_slice-2.result.now c.in_ok-table.table.items c.as_slice.result.now i.domains c.unlisted_top.ensures c.as_slice-instances.ensures c.as_slice-2.ensures.value c.in_ok-table.ensures c.as_slice.ensures in
    subst (IsDomainFault c.args.graph.now s (intent_view s (keys_of s) c.args.intent.now)) (sym c.from.ensures) (no-domain-key g i texts s e r c.in-Some.top (unlisted ∙ c.in-Some.is))

pub returns-in-Some-without_primary-clause-err : goal.returns-in-Some-without_primary-clause-err
returns-in-Some-without_primary-clause-err c = λ texts s e r.
    let g = c.args.graph.now in
    let i = c.args.intent.now in
    let unlisted = unlisted-is c.unlisted_top.result c.as_slice-instances.result.now g.instances c.as_slice-2.result.now c.in_ok-table.table.items c.as_slice.result.now i.domains c.unlisted_top.ensures c.as_slice-instances.ensures c.as_slice-2.ensures.value c.in_ok-table.ensures c.as_slice.ensures in
    let found = ap without_primary (sym c.as_slice-3.ensures) ∙ sym c.without_primary.ensures ∙ c.in-Some-without_primary.is in
    subst (IsDomainFault c.args.graph.now s (intent_view s (keys_of s) c.args.intent.now)) (sym c.from-in-Some-without_primary.ensures) (no-primary-key g i texts s e r c.in-Some-without_primary.domain (unlisted ∙ c.in_default.is) found)

pub returns-clause-ok : goal.returns-clause-ok
returns-clause-ok c = λ texts s e r.
    let g = c.args.graph.now in
    let i = c.args.intent.now in
    let unlisted = unlisted-is c.unlisted_top.result c.as_slice-instances.result.now g.instances c.as_slice-2.result.now c.in_ok-table.table.items c.as_slice.result.now i.domains c.unlisted_top.ensures c.as_slice-instances.ensures c.as_slice-2.ensures.value c.in_ok-table.ensures c.as_slice.ensures in
    let none = ap without_primary (sym c.as_slice-3.ensures) ∙ sym c.without_primary.ensures ∙ c.in_default-without_primary.is in
    let table : c.as_slice-4.result.now ≡ listings (length g.instances) i.domains =
    c.as_slice-4.ensures.value ∙ c.in_ok-table.ensures ∙ (λ v. listings (length (c.as_slice-instances.ensures v)) (c.as_slice.ensures v)) in
    domains-are g i texts s e r c.in_ok-inherit.field-0 (unlisted ∙ c.in_default.is) none (c.in_ok-inherit.ensures ∙ (λ v. domains_by (table v) (c.as_slice-instances.ensures v)))
