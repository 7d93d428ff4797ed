use Rattle.std.proofs.Common.{◌≡◌, ◌≤◌, length, map, subst, sym, ◌∙◌, ap, arith}
use Rattle.std.specs.Option.{option_map}
use Rattle.lp_top.specs.Words.{files_of, input_files}
use Rattle.lp_top.specs.Reading.{HoldsAll, count_more}
use Rattle.lp_top.specs.Inserting.{StoresBoth}
use Rattle.lp_top.proofs.InsertingLaws.{few-inputs, length-names, read-held, written-held, headline-held, fault-held, stores-files, stores-no_usage, stores-missed, stores-counts}
use Rattle.lp_top.proofs.inserting.attempt.Goals as goal

pub insert_texts-requires-clause-all : goal.insert_texts-requires-clause-all
insert_texts-requires-clause-all g c =
    let names : map (λ n. n.now) c.deref.result.now ≡ input_files (files_of c.args.command.now) = ap (map (λ n. n.now)) c.deref.ensures.value ∙ c.in-Ok.ensures in
    let e : length c.as_slice.result.now ≡ length (input_files (files_of c.args.command.now)) =
    ap length c.as_slice.ensures ∙ (c.in-Ok-read_files.ensures.count ∙ length-names c.deref.result.now (files_of c.args.command.now) names) in
    omega (arith, e)

pub insert_texts-requires-clause-few : goal.insert_texts-requires-clause-few
insert_texts-requires-clause-few g c =
    let names : map (λ n. n.now) c.deref.result.now ≡ input_files (files_of c.args.command.now) = ap (map (λ n. n.now)) c.deref.ensures.value ∙ c.in-Ok.ensures in
    let e : length c.as_slice.result.now ≡ length (input_files (files_of c.args.command.now)) =
    ap length c.as_slice.ensures ∙ (c.in-Ok-read_files.ensures.count ∙ length-names c.deref.result.now (files_of c.args.command.now) names) in
    subst (λ n. n ≤ 18) (sym e) (few-inputs (files_of c.args.command.now) c.requires)

pub returns-in-Ok-insert_texts-clause-files : goal.returns-in-Ok-insert_texts-clause-files
returns-in-Ok-insert_texts-clause-files g c =
    let f = files_of c.args.command.now in
    let old = g.S.Shelf.held c.args.shelf.now in
    let names : map (λ n. n.now) c.deref.result.now ≡ input_files f = ap (map (λ n. n.now)) c.deref.ensures.value ∙ c.in-Ok.ensures in
    let holds : HoldsAll old (input_files f) c.in-Ok-read_files.texts = subst (λ ns. HoldsAll old ns c.in-Ok-read_files.texts) names c.in-Ok-read_files.ensures.gives in
    let holds : HoldsAll old (input_files f) c.as_slice.result.now = subst (HoldsAll old (input_files f)) (sym c.as_slice.ensures) holds in
    stores-files f old (g.S.Shelf.held c.store.new.shelf) c.in-Ok-insert_texts.written.netlist c.in-Ok-insert_texts.written.report c.store.result
    (read-held old f c.as_slice.result.now holds)
    (written-held old f c.as_slice.result.now c.in-Ok-insert_texts.written.netlist c.in-Ok-insert_texts.written.report holds c.in-Ok-insert_texts.ensures.written)
    (headline-held old f c.as_slice.result.now c.in-Ok-insert_texts.written.netlist holds c.in-Ok-insert_texts.ensures.headline)
    (subst (λ h. StoresBoth f c.in-Ok-insert_texts.written.netlist c.in-Ok-insert_texts.written.report h (g.S.Shelf.held c.store.new.shelf) c.store.result) c.in-Ok-read_files.ensures.keeps_held c.store.ensures.files)

pub returns-in-Ok-insert_texts-clause-counts : goal.returns-in-Ok-insert_texts-clause-counts
returns-in-Ok-insert_texts-clause-counts g c =
    stores-counts (g.S.Shelf.faults c.args.shelf.now) (g.S.Shelf.faults c.read_files.new.shelf) (g.S.Shelf.faults c.store.new.shelf) c.store.result c.in-Ok-read_files.ensures.counts c.store.ensures.counts

pub returns-in-Ok-insert_texts-clause-keeps_said : goal.returns-in-Ok-insert_texts-clause-keeps_said
returns-in-Ok-insert_texts-clause-keeps_said g c = c.store.ensures.keeps_said ∙ c.in-Ok-read_files.ensures.keeps_said

pub returns-in-Ok-insert_texts-clause-misses : goal.returns-in-Ok-insert_texts-clause-misses
returns-in-Ok-insert_texts-clause-misses g c =
    let f = files_of c.args.command.now in
    let names : map (λ n. n.now) c.deref.result.now ≡ input_files f = ap (map (λ n. n.now)) c.deref.ensures.value ∙ c.in-Ok.ensures in
    stores-missed f (g.S.Shelf.held c.read_files.new.shelf) (g.S.Shelf.held c.store.new.shelf) c.in-Ok-insert_texts.written.netlist c.in-Ok-insert_texts.written.report c.store.result
    (g.S.Shelf.missed c.args.shelf.now) (g.S.Shelf.missed c.read_files.new.shelf) (g.S.Shelf.missed c.store.new.shelf)
    (g.S.Shelf.calls c.args.shelf.now) (g.S.Shelf.calls c.read_files.new.shelf) (g.S.Shelf.calls c.store.new.shelf)
    c.in-Ok-read_files.ensures.misses
    (c.in-Ok-read_files.ensures.counted ∙ ap (λ n. option_map (count_more n) (g.S.Shelf.calls c.args.shelf.now)) (length-names c.deref.result.now f names))
    c.store.ensures.files c.store.ensures.misses

pub returns-in-Ok-insert_texts-clause-no_usage : goal.returns-in-Ok-insert_texts-clause-no_usage
returns-in-Ok-insert_texts-clause-no_usage g c =
    stores-no_usage (files_of c.args.command.now) (g.S.Shelf.held c.read_files.new.shelf) (g.S.Shelf.held c.store.new.shelf) c.in-Ok-insert_texts.written.netlist c.in-Ok-insert_texts.written.report c.store.result c.store.ensures.files

pub returns-in-Err-Fault-clause-files : goal.returns-in-Err-Fault-clause-files
returns-in-Err-Fault-clause-files g c =
    let f = files_of c.args.command.now in
    let old = g.S.Shelf.held c.args.shelf.now in
    let names : map (λ n. n.now) c.deref.result.now ≡ input_files f = ap (map (λ n. n.now)) c.deref.ensures.value ∙ c.in-Ok.ensures in
    let holds : HoldsAll old (input_files f) c.in-Ok-read_files.texts = subst (λ ns. HoldsAll old ns c.in-Ok-read_files.texts) names c.in-Ok-read_files.ensures.gives in
    let slice : HoldsAll old (input_files f) c.as_slice.result.now = subst (HoldsAll old (input_files f)) (sym c.as_slice.ensures) holds in
    record {
      kept = c.in-Ok-read_files.ensures.keeps_held;
      read = read-held old f c.as_slice.result.now slice;
      first = fault-held old f c.as_slice.result.now c.in-Err-Fault.fault slice (rw c.in-Err-Fault.field-0-is at c.in-Err-Fault.ensures.refused);
    }
