use Rattle.std.proofs.Common.{◌≡◌, ◌+◌, ◌≤◌, length, drop}
use Rattle.std.specs.Prelude.{IsTrue, fold}
use Rattle.lp_text.specs.Texts.{Grown, with_text}
use Rattle.lp_expr.specs.Denotes.{texts_of, are_below, firsts, parts_names}
use Rattle.lp_expr.proofs.number.collect.Given as goal

abbrev pub invariant-loop-part : goal.invariant-loop-part
invariant-loop-part l = record {
  texts : fold with_text (texts_of l.names l.ids.items) (parts_names l.text (drop l.part-index l.parts)) ≡ firsts (parts_names l.text l.parts);
  below : IsTrue (are_below (length l.names) l.ids.items);
  few : length l.ids.items ≤ 12;
  counted : length l.ids.items ≤ l.part-index;
  paid : length l.names ≤ length l.fn.names + length l.ids.items;
  grown : Grown l.fn.names l.names;
}
