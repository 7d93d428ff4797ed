-- Names of a source and names that are added.
use Rattle.std.proofs.Common.{◌≡◌, Bool, true, false, not, ◌&&◌, List, [], ◌∷◌, map, inl, inr, refl, sym, ◌∙◌, ap, subst}
use Rattle.std.specs.Prelude.{bytes_eq, is_some}
use Rattle.std.specs.List.{list_all}
use Rattle.std.specs.Map.{lookup}
use Rattle.std.proofs.lemmas.Bool.{false≢true, not-true, and_parts, or_cases, or_from}
use Rattle.std.proofs.lemmas.List.Folds.{list_all-map}
use Rattle.std.proofs.lemmas.Map.Made.{is_some-lookup}
use Rattle.lp_text.specs.Texts.{same_text, same_text_comm, same_text-true, has_text, distinct}
use Rattle.lp_model.specs.LibraryView.{PgPinView}
use Rattle.lp_spec_design.specs.Keys.{Name}
use Rattle.lp_spec_plain_module.specs.Designs.{Flat}
use Rattle.lp_spec_plain_module.specs.Netlists.{supply_port, power_port, ground_port, is_supply}
use Rattle.lp_spec_plain_module.specs.Tests.{is_pg_name, are_distinct}
use Rattle.lp_spec_plain_module.proofs.Lists.{told_apart, turned}
use Rattle.lp_spec_plain_netlist.specs.Single.{is_reserved}

abbrev pub is_free : Name → Bool
is_free n = not (is_reserved n)

pub port-reserved : (p : Name) → is_reserved (supply_port p) ≡ true
port-reserved p = refl

-- ports of two names have two names
pub ports-apart : (p g : Name) → bytes_eq p g ≡ false → bytes_eq (supply_port p) (supply_port g) ≡ false
ports-apart p g e = e

pub free-port : (p n : Name) → is_free n ≡ true → bytes_eq (supply_port p) n ≡ false
free-port p n e = turned n (supply_port p) (told_apart is_reserved n (supply_port p) (not-true (is_reserved n) e) (port-reserved p))

-- a name of the source is that of no supply port
pub free-supply : (f : Flat) (n : Name) → is_free n ≡ true → not (is_supply f n) ≡ true
free-supply f n e = ap not (or_from (bytes_eq (power_port f) n) (bytes_eq (ground_port f) n) (free-port f.power n e) (free-port f.gnd n e))

-- ---- names of power and ground pins

pub has-pg : (n : Name) (gs : List PgPinView) → has_text n (map (λ (g : PgPinView). g.name) gs) ≡ is_pg_name gs n
has-pg n [] = refl
has-pg n (g ∷ gs) = rw (same_text_comm n g.name, has-pg n gs) refl

pub pgs_apart : (gs : List PgPinView) → distinct (map (λ (g : PgPinView). g.name) gs) ≡ are_distinct gs
pgs_apart [] = refl
pgs_apart (g ∷ gs) = λ i. not (has-pg g.name gs i) && pgs_apart gs i

module _ (p : Name → Bool) where
  -- what holds of all names holds of one of them
  pub has-passes : (n : Name) (xs : List Name) → list_all p xs ≡ true → has_text n xs ≡ true → p n ≡ true
  has-passes n [] all h = absurd (false≢true h)
  has-passes n (x ∷ xs) all h =
      let parts = and_parts (p x) (list_all p xs) all in
      elim (or_cases (same_text n x) (has_text n xs) h) [
        | inl is ↦ subst (λ t. p t ≡ true) (sym (same_text-true n x is)) parts.0
        | inr later ↦ has-passes n xs parts.1 later
      ]

  -- and of one that stands for something
  pub lookup-passes : {V : Type 0} (n : Name) (d : List (Name × V)) → list_all (λ e. p e.0) d ≡ true → is_some (lookup (same_text n) d) ≡ true → p n ≡ true
  lookup-passes n d all h =
      has-passes n (map (λ e. e.0) d) (list_all-map p (λ e. e.0) d ∙ all) (sym (is_some-lookup (same_text n) d) ∙ h)
