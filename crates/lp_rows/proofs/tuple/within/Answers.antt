use Rattle.std.proofs.Common.{suc, List, [], refl, sym, ap, ◌∙◌, inl, inr}
use Rattle.std.proofs.lemmas.Bool.{both_ways, cases_Bool}
use Rattle.lp_model.specs.declared.intent.RowState.{RowState}
use Rattle.lp_rows.specs.Rows.{row_among, within_in}
use Rattle.lp_rows.proofs.RowLemmas.{rows_none, rows_some, row_of-at, all_missed, alone_missed}
use Rattle.lp_rows.proofs.tuple.within.Goals as goal

pub returns-then-is_empty : goal.returns-then-is_empty
returns-then-is_empty c =
    let s = c.args.s.now in
    let test = λ (row : List RowState). within_in s row c.args.tuple.now in
    let none = rows_none s.rows c.as_slice-rows.result.now c.is_empty.result c.as_slice-rows.ensures c.is_empty.ensures c.if-is_empty.true in (
      λ passed. (0, [], ap (λ rows. row_among rows 0) none, sym c.is_within_row.ensures ∙ passed),
      λ within. elim (cases_Bool c.is_within_row.result) [
        | inl passed ↦ passed
        | inr missed ↦ absurd (both_ways (test within.1) (alone_missed s test none (sym c.is_within_row.ensures ∙ missed) within.0 within.1 within.2) within.3)
      ],
    )

pub returns-then-is_within_row : goal.returns-then-is_within_row
returns-then-is_within_row c =
    let s = c.args.s.now in
    let test = λ (row : List RowState). within_in s row c.args.tuple.now in
    let passed = ap test (sym c.as_slice.ensures) ∙ sym c.is_within_row-in-loop-row.ensures ∙ c.if-is_within_row.true in
    let numbered = row_of-at s c.as_slice-rows.result.now c.loop-row.row-index c.row-item.result c.as_slice-rows.ensures c.loop-row-test.true c.row-item.is in
    (λ _. (suc c.loop-row.row-index, c.row-item.result.states, numbered, passed), λ _. refl)

pub returns : goal.returns
returns c =
    let s = c.args.s.now in
    let test = λ (row : List RowState). within_in s row c.args.tuple.now in
    let some = rows_some s.rows c.as_slice-rows.result.now c.is_empty.result c.as_slice-rows.ensures c.is_empty.ensures c.if-is_empty.false in
    let missed = all_missed s test c.as_slice-rows.result.now c.loop-row.row-index c.as_slice-rows.ensures some c.loop-row-test.false c.loop-row.invariant in
    (λ e. cc, λ within. absurd (both_ways (test within.1) (missed within.0 within.1 within.2) within.3))
