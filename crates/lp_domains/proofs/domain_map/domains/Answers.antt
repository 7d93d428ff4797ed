use Rattle.std.proofs.Common.{◌≡◌, map, ap, ◌∙◌}
use Rattle.std.specs.Prelude.{is_some}
use Rattle.lp_model.specs.declared.ids.EdgeId.{EdgeId}
use Rattle.lp_spec_design.specs.Instances.{module_instances}
use Rattle.lp_spec_design.specs.Domains.{is_boundary}
use Rattle.lp_spec_design.specs.Chains.{bit_of_way}
use Rattle.lp_spec_bridge.specs.Tables.{tables_of}
use Rattle.lp_spec_bridge.specs.Keyed.{keys_of, way_at}
use Rattle.lp_spec_views.specs.Views.{intent_view}
use Rattle.lp_domains.specs.Domains.{is_boundary_way}
use Rattle.lp_domains.specs.Boundary.{meetings, meeting_edges}
use Rattle.lp_domains.specs.Bits.{joints, bits_by}
use Rattle.lp_domains.proofs.Meetings.{meetings-key}
use Rattle.lp_domains.proofs.Joints.{map-in, flags-key, bits-key}
use Rattle.lp_domains.proofs.Flagged.{is-bit}
use Rattle.lp_domains.proofs.domain_map.domains.Goals as goal

pub returns-clause-ok : goal.returns-clause-ok
returns-clause-ok c = λ texts s e r n.
    let g = c.args.graph.now in
    let i = intent_view s (keys_of s) c.args.intent.now in
    let members = c.in_ok-domain_of.ensures.ok texts s e r in
    let told : c.as_slice-3.result.now ≡ map (is_boundary (intent_view s (keys_of s) c.args.intent.now)) (module_instances s) =
    c.as_slice-3.ensures.value
    ∙ c.in_ok-told.ensures
    ∙ (λ v. meetings (c.as_slice.ensures v) (c.as_slice-2.ensures v))
    ∙ meetings-key texts s (tables_of g) e i c.in_ok-domain_of.domain_of members.domains in
    let edges =
    c.in_ok-boundary.ensures
    ∙ (λ v. meeting_edges c.as_slice-3.result.now (c.as_slice-4.ensures v) (c.as_slice-edges.ensures v))
    ∙ flags-key texts s (tables_of g) e n i c.as_slice-3.result.now told in
    let bits = c.in_ok-bits.ensures ∙ (λ v. bits_by ((c.as_slice-5.ensures ∙ edges) v) (joints c.args.graph.now.inner (c.as_slice-edges.ensures v))) in
    record {
      members = members;
      edges = edges ∙ map-in (is_boundary_way i) (λ w. is_some (bit_of_way s i w)) (keys_of s).ways (is-bit texts s (tables_of g) e n i);
      bits = ap (map (λ (x : EdgeId). way_at (keys_of s) x.0)) bits ∙ bits-key texts s (tables_of g) e n i;
    }
