-- The rank of a retention strategy by what it lists.
use Rattle.std.proofs.Common.{◌≡◌, ◌<◌, ℕ, Bool, true, false, ◌&&◌, List, Option, Some, None, refl, sym, subst, arith}
use Rattle.std.specs.Prelude.{if◌then◌else◌}
use Rattle.std.specs.List.{list_any}
use Rattle.lp_spec_design.specs.Keys.{Name, Path}
use Rattle.lp_spec_design.specs.Intents.{Element, Strategy}
use Rattle.lp_spec_design.specs.Registers.{names_register, is_cell, retention_rank}

module _ (p : Path) (x : Name) where
  abbrev pub rank_list : Option (List Element) → ℕ
  rank_list None = 1
  rank_list (Some es) = if list_any (λ e. is_cell e && names_register p x e) es then 3 else 2

  -- a strategy with other elements
  abbrev with_elements : Strategy → Option (List Element) → Strategy
  with_elements v o = record {
    kind = v.kind;
    domain = v.domain;
    command = v.command;
    inserts = v.inserts;
    elements = o;
    excluded = v.excluded;
    applies = v.applies;
    source = v.source;
    sink = v.sink;
    diff = v.diff;
    location = v.location;
    clamp = v.clamp;
    high = v.high;
    rule = v.rule;
    threshold = v.threshold;
    supply = v.supply;
    input = v.input;
    output = v.output;
    control = v.control;
    save = v.save;
    restore = v.restore;
  }

  with-rank : (v : Strategy) (o : Option (List Element)) → retention_rank p x (with_elements v o) ≡ rank_list o
  with-rank v None = refl
  with-rank v (Some es) = refl

  pub rank-is : (v : Strategy) → retention_rank p x v ≡ rank_list v.elements
  rank-is v = with-rank v v.elements

  list-some : (o : Option (List Element)) → 0 < rank_list o
  list-some None = omega arith
  list-some (Some es) = by (list_any (λ e. is_cell e && names_register p x e) es)
    where
      by : (b : Bool) → 0 < (if b then 3 else 2)
      by true = omega arith
      by false = omega arith

  -- it is at least 1
  pub rank-some : (v : Strategy) → 0 < retention_rank p x v
  rank-some v = subst (λ n. 0 < n) (sym (rank-is v)) (list-some v.elements)
