-- Tests of names and of the bits of pins.
use Rattle.std.proofs.Common.{◌≡◌, Bool, true, false, not, ◌&&◌, List, [], ◌∷◌, length, Some, inl, inr, sym, ap, ◌∙◌}
use Rattle.std.specs.Prelude.{bytes_eq, nat_le}
use Rattle.std.specs.List.{list_all, list_any}
use Rattle.std.proofs.lemmas.Bool.{false≢true, leb-true}
use Rattle.lp_model.specs.NetlistView.{InstanceView, ModuleView}
use Rattle.lp_model.specs.LibraryView.{PgPinView, CellView, PinView}
use Rattle.lp_spec_design.specs.Keys.{Name, Path}
use Rattle.lp_spec_design.specs.Netlists.{Structure, module_at, cell_named, connected}
use Rattle.lp_spec_design.specs.Winners.{IsIn}
use Rattle.lp_spec_design.specs.Reads.{one, other, name-self}
use Rattle.lp_spec_design.proofs.Members.{any-in}
use Rattle.lp_spec_bridge.specs.Keyed.{IsApart}
use Rattle.lp_spec_bridge.specs.Names.{net_names, instance_names, HasNamesApart, are_apart, has_names_apart}
use Rattle.lp_spec_bridge.specs.Driven.{JoinsSingleBits, has_single_bits, joins_single_bits}
use Rattle.lp_spec_bridge.proofs.Distinct.{module-in}

pub list-in : {A : Type 0} (p : A → Bool) (xs : List A) (x : A) → list_all p xs ≡ true → IsIn x xs → p x ≡ true
list-in p [] x h m = absurd m
list-in p (y ∷ ys) x h (inl is) = ap p is ∙ one (p y) (list_all p ys) h
list-in p (y ∷ ys) x h (inr m) = list-in p ys x (other (p y) (list_all p ys) h) m

pub apart-tested : (names : List Name) → are_apart names ≡ true → IsApart names
apart-tested [] h = tt
apart-tested (n ∷ names) h = (
  (λ m. no (list_any (bytes_eq n) names) (one (not (list_any (bytes_eq n) names)) (are_apart names) h) (any-in (bytes_eq n) n names m (name-self n))),
  apart-tested names (other (not (list_any (bytes_eq n) names)) (are_apart names) h),
)
  where
    no : (b : Bool) → not b ≡ true → b ≡ true → ⊥
    no true e f = false≢true e
    no false e f = false≢true f

pub names_tested : (s : Structure) → has_names_apart s ≡ true → HasNamesApart s
names_tested s h = record {
  nets = λ m at. apart-tested (net_names m) (one (are_apart (net_names m)) (are_apart (instance_names m)) (list-in (λ (x : ModuleView). are_apart (net_names x) && are_apart (instance_names x)) s.modules m h at));
  instances = λ m at. apart-tested (instance_names m) (other (are_apart (net_names m)) (are_apart (instance_names m)) (list-in (λ (x : ModuleView). are_apart (net_names x) && are_apart (instance_names x)) s.modules m h at));
}

module _ (s : Structure) (h : joins_single_bits s ≡ true) where
  one-instance : (p : Path) (m : ModuleView) (x : InstanceView) (c : CellView) → module_at s p ≡ Some m → IsIn x m.instances → cell_named s x.target ≡ Some c → has_single_bits x (Some c) ≡ true
  one-instance p m x c at mx cx =
      let in_module = list-in (λ (m : ModuleView). list_all (λ (x : InstanceView). has_single_bits x (cell_named s x.target)) m.instances) s.modules m h (module-in s p m at) in
      ap (has_single_bits x) (sym cx) ∙ list-in (λ (x : InstanceView). has_single_bits x (cell_named s x.target)) m.instances x in_module mx

  pub single_tested : JoinsSingleBits s
  single_tested = record {
    pins = λ p m x c q at mx cx hq.
        let pins = list_all (λ (q : PinView). nat_le (length (connected [] q.name x.connections)) 1) c.pins in
        let pgs = list_all (λ (g : PgPinView). nat_le (length (connected [] g.name x.connections)) 1) c.pgs in
        leb-true (length (connected [] q.name x.connections)) 1 (list-in (λ (q : PinView). nat_le (length (connected [] q.name x.connections)) 1) c.pins q (one pins pgs (one-instance p m x c at mx cx)) hq);
    pgs = λ p m x c g at mx cx hg.
        let pins = list_all (λ (q : PinView). nat_le (length (connected [] q.name x.connections)) 1) c.pins in
        let pgs = list_all (λ (g : PgPinView). nat_le (length (connected [] g.name x.connections)) 1) c.pgs in
        leb-true (length (connected [] g.name x.connections)) 1 (list-in (λ (g : PgPinView). nat_le (length (connected [] g.name x.connections)) 1) c.pgs g (other pins pgs (one-instance p m x c at mx cx)) hg);
  }
