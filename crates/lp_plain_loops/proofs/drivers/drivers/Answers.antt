use Rattle.std.proofs.Common.{◌∙◌, ap, None}
use Rattle.std.specs.Prelude.{flat_map, replicate}
use Rattle.lp_plain_loops.specs.Numbered.{port_entries, instance_entries, note_all, all_shown}
use Rattle.lp_plain_loops.proofs.Numbering.{shown_length, all_none, taken}
use Rattle.lp_plain_loops.proofs.drivers.drivers.Goals as goal

pub returns : goal.returns
returns c =
    let nets = c.args.nets.now in
    let size = c.in_ok-found.found.len in
    let first = c.note_inputs.new.found in
    let last = c.note_instances.new.found in
    let inputs = flat_map port_entries c.as_slice.result.now in
    let outputs = flat_map (instance_entries c.args.index.now nets) c.as_slice-2.result.now in
    let kept = taken first c.in_ok-found.found.items size (shown_length nets c.deref_mut.result.now first inputs c.note_inputs.ensures ∙ c.deref_mut.ensures.len) in
    ap (all_shown nets) (taken last _ size (shown_length nets c.deref_mut-2.result.now last outputs c.note_instances.ensures ∙ c.deref_mut-2.ensures.len))
    ∙ c.note_instances.ensures
    ∙ ap (λ f. note_all nets (all_shown nets f) outputs) (c.deref_mut-2.ensures.value ∙ kept)
    ∙ ap (λ f. note_all nets f outputs) (c.note_inputs.ensures ∙ ap (λ f. note_all nets f inputs) (ap (all_shown nets) (c.deref_mut.ensures.value ∙ c.in_ok-found.ensures) ∙ all_none nets c.len.result))
    ∙ (λ i. note_all nets (note_all nets (replicate (c.len.ensures i) None) (flat_map port_entries (c.as_slice.ensures i))) (flat_map (instance_entries c.args.index.now nets) (c.as_slice-2.ensures i)))
