-- Names that are apart stay apart where modules of equal content are written once.
use Rattle.std.proofs.Common.{◌≡◌, Bool, true, false, List, [], ◌∷◌, ◌++◌, map, refl, sym, ap, ◌∙◌, subst}
use Rattle.std.specs.Prelude.{filter, cond, IsTrue}
use Rattle.std.specs.List.{list_all}
use Rattle.lp_model.specs.NetlistView.{PortView, NetView, InstanceView, ModuleView}
use Rattle.lp_spec_design.specs.Keys.{Name}
use Rattle.lp_spec_design.specs.Winners.{IsIn}
use Rattle.lp_spec_design.specs.Reads.{one, other, both}
use Rattle.lp_spec_design.proofs.Members.{IsApart, in-map, of-map, of-filter}
use Rattle.lp_spec_realises.specs.ProjectNetlists.{are_apart, names_in, has_names_apart}
use Rattle.lp_spec_written.specs.Shared.{is_first, shared_name, shared_module, shared}
use Rattle.lp_spec_written_at.proofs.Lists.{of-all, all-of}
use Rattle.lp_spec_written_at.proofs.InstanceNames.{apart-names, map-twice}
use Rattle.lp_spec_written_at.proofs.Weave.{names-apart}

abbrev name_of : ModuleView → Name
name_of m = m.name

map-kept : (f : ModuleView → ModuleView) (t : ModuleView → Bool) → ((m : ModuleView) → (f m).name ≡ m.name) → (ms : List ModuleView) → IsApart (map name_of ms) → IsApart (map name_of (map f (filter t ms)))
map-kept f t same [] apart = tt
map-kept f t same (m ∷ ms) apart = by (t m) (map-kept f t same ms apart.1)
  where
    absent : IsIn (f m).name (map name_of (map f (filter t ms))) → ⊥
    absent h =
        let one = of-map name_of (f m).name (map f (filter t ms)) h in
        let two = of-map f one.0 (filter t ms) one.1 in
        let name : m.name ≡ two.0.name = sym (same m) ∙ (one.2 ∙ (ap name_of two.2 ∙ same two.0)) in
        apart.0 (subst (λ n. IsIn n (map name_of ms)) (sym name) (in-map name_of two.0 ms (of-filter t two.0 ms two.1).0))

    by : (b : Bool) → IsApart (map name_of (map f (filter t ms))) → IsApart (map name_of (map f (cond b (m ∷ filter t ms) (filter t ms))))
    by true more = (absent, more)
    by false more = more

pub shared-names : (modules : List ModuleView) → IsTrue (has_names_apart modules) → IsTrue (has_names_apart (shared modules))
shared-names modules e =
    both (are_apart (map name_of (shared modules))) (list_all (λ m. are_apart (names_in m)) (shared modules))
    (apart-names (map name_of (shared modules))
    (map-kept (shared_module modules) (is_first modules) (λ m. refl) modules (names-apart (map name_of modules) (one (are_apart (map name_of modules)) (list_all (λ m. are_apart (names_in m)) modules) e))))
    (all-of (λ m. are_apart (names_in m)) (shared modules) each)
  where
    names-same : (m : ModuleView) → names_in (shared_module modules m) ≡ names_in m
    names-same m =
        ap (λ names. map (λ (q : PortView). q.name) m.ports ++ (map (λ (n : NetView). n.name) m.nets ++ names))
        (map-twice (λ (y : InstanceView). y.name) (λ (x : InstanceView). record x { target = shared_name modules x.target }) (λ (y : InstanceView). y.name) (λ x. refl) m.instances)

    each : (k : ModuleView) → IsIn k (shared modules) → are_apart (names_in k) ≡ true
    each k h =
        let from = of-map (shared_module modules) k (filter (is_first modules) modules) h in
        let listed = (of-filter (is_first modules) from.0 modules from.1).0 in
        ap (λ z. are_apart (names_in z)) from.2
        ∙ (ap are_apart (names-same from.0)
        ∙ of-all (λ m. are_apart (names_in m)) from.0 modules (other (are_apart (map name_of modules)) (list_all (λ m. are_apart (names_in m)) modules) e) listed)
