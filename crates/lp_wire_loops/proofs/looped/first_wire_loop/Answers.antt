use Rattle.std.proofs.Common.{subst, sym, ◌∙◌}
use Rattle.lp_wire_loops.specs.Reads.{wire_reads, IsFirstLoop, IsWithin}
use Rattle.lp_wire_loops.proofs.Places.{closed_reads, told_none, told, node_within}
use Rattle.lp_wire_loops.proofs.looped.first_wire_loop.Goals as goal

pub is_ordered-requires : goal.is_ordered-requires
is_ordered-requires c = closed_reads c.args.graph.now c.in_ok-reads.reads c.requires (c.in_ok-reads.ensures ∙ (λ i. wire_reads (c.as_slice.ensures i) (c.as_slice-2.ensures i)))

pub returns-then-branch-clause-first : goal.returns-then-branch-clause-first
returns-then-branch-clause-first c = λ texts s e. told_none c.args.graph.now c.in_ok-reads.reads (c.in_ok-reads.ensures ∙ (λ i. wire_reads (c.as_slice.ensures i) (c.as_slice-2.ensures i))) texts s e (rw c.if-branch.true at c.in_ok-is_ordered.ensures.loop_free)

pub first_looped-requires : goal.first_looped-requires
first_looped-requires c = closed_reads c.args.graph.now c.in_ok-reads.reads c.requires (c.in_ok-reads.ensures ∙ (λ i. wire_reads (c.as_slice.ensures i) (c.as_slice-2.ensures i)))

pub returns-clause-first : goal.returns-clause-first
returns-clause-first c =
    λ texts s e. subst (IsFirstLoop s) (sym c.inner_node.ensures) (told c.args.graph.now c.in_ok-reads.reads (c.in_ok-reads.ensures ∙ (λ i. wire_reads (c.as_slice.ensures i) (c.as_slice-2.ensures i))) texts s e c.in_ok-first.first c.in_ok-first.ensures)

pub returns-clause-within : goal.returns-clause-within
returns-clause-within c = subst (IsWithin c.args.graph.now.inner) (sym c.inner_node.ensures) (node_within c.in_ok-first.first c.args.graph.now.inner)
