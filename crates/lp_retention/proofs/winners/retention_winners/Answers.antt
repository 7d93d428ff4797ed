use Rattle.std.proofs.Common.{◌∙◌, sym, map, length, ap, subst, arith}
use Rattle.lp_retention.specs.Best.{won, tie_from}
use Rattle.lp_retention.specs.Ranks.{bests_from}
use Rattle.lp_retention.specs.Claims.{IsRetentionFault}
use Rattle.lp_retention.proofs.Joined.{length-bests, winners-right}
use Rattle.lp_retention.proofs.Ties.{none-tied, some-tied}
use Rattle.lp_retention.proofs.winners.retention_winners.Goals as goal

pub first_tie-requires : goal.first_tie-requires
first_tie-requires c =
    let many = ap length (c.as_slice-2.ensures ∙ c.in_ok-bests.ensures) ∙ length-bests c.args.graph.now c.as_slice.result.now 0 c.as_slice-strategies.result.now in
    omega (arith, many, c.requires.leaves)

pub returns-in-Some-clause-err : goal.returns-in-Some-clause-err
returns-in-Some-clause-err c = λ p given.
    subst (IsRetentionFault p) (sym c.from.ensures)
    (some-tied p c.args.intent.now c.args.graph.now c.args.domains.now.domain_of given c.requires.strategies c.in-Some.fault
    (sym (ap (tie_from 0) (c.as_slice-2.ensures ∙ c.in_ok-bests.ensures ∙ (λ v. bests_from c.args.graph.now (c.as_slice.ensures v) 0 (c.as_slice-strategies.ensures v)))) ∙ sym c.first_tie.ensures ∙ c.in-Some.is))

pub returns-clause-ok : goal.returns-clause-ok
returns-clause-ok c = λ p given. record {
  untied = none-tied p c.args.intent.now c.args.graph.now c.args.domains.now.domain_of given c.requires.strategies
      (sym (ap (tie_from 0) (c.as_slice-2.ensures ∙ c.in_ok-bests.ensures ∙ (λ v. bests_from c.args.graph.now (c.as_slice.ensures v) 0 (c.as_slice-strategies.ensures v)))) ∙ sym c.first_tie.ensures ∙ c.in_default.is);
  winners = winners-right p c.args.intent.now c.args.graph.now c.args.domains.now.domain_of given c.requires.strategies c.in_ok-slots.slots
      (c.in_ok-slots.ensures
      ∙ ap (map won) (c.as_slice-3.ensures ∙ c.in_ok-bests.ensures ∙ (λ v. bests_from c.args.graph.now (c.as_slice.ensures v) 0 (c.as_slice-strategies.ensures v))));
}
