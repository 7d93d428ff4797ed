-- What the index of the code has, and its calls by number (own rule).
use Rattle.std.specs.Prelude.{◌≡◌, ℕ, Bool, false, ◌||◌, List, map, codes, Option, Some, is_some, if◌then◌else◌, bytes_eq}
use Rattle.lp_model.specs.declared.graph.Inst.{Inst}
use Rattle.lp_model.specs.declared.graph.Leaf.{Leaf}
use Rattle.lp_spec_design.specs.Keys.{Name}
use Rattle.lp_scopes.specs.Numbered.{inst_key, leaf_key, all_noted, standing, stepped, step_by, onward, walk_by, beginning_by, longest_of}
use Rattle.lp_scopes.specs.Numbered as numbered
use Rattle.lp_scopes.specs.declared.scopes.Scopes.{Scopes}
use Rattle.lp_scopes.specs.declared.steps.Spot.{Spot}
use Rattle.lp_scopes.specs.declared.walk.Ends.{Ends}
use Rattle.lp_scopes.specs.declared.walk.Ends.TheVariants as kinds

abbrev pub spot_view : Spot → numbered.Spot
spot_view x = (x.inst.0, x.name.now)

-- the index of an elaborated netlist
pub record IsIndex (texts : List (List ℕ)) (xs : List Inst) (ls : List Leaf) (x : Scopes) : Type 0 where
  pub instances : x.instances ≡ all_noted (map inst_key xs)
  pub leaves : x.leaves ≡ all_noted (map leaf_key ls)
  pub longest : x.longest ≡ longest_of texts xs

module _ (texts : List (List ℕ)) (x : Scopes) (xs : List Inst) where
  abbrev pub find : ℕ → Name → Option ℕ
  find k name = stepped texts x.instances xs k name

  abbrev pub step : numbered.Spot → Option numbered.Spot
  step a = step_by find x.longest a

  -- what is left is as a whole a name of the kind that is meant
  abbrev pub is_end : Ends → numbered.Spot → Bool
  is_end kinds.Nothing a = false
  is_end kinds.Instance a = is_some (find a.0 a.1)
  is_end kinds.Part a = is_some (find a.0 a.1) || is_some (standing texts x.leaves a.0 a.1)

  abbrev pub next : Ends → numbered.Spot → Option numbered.Spot
  next ends a = onward step (is_end ends) a

  abbrev pub last_part : Ends → ℕ → Name → numbered.Spot
  last_part ends k text = walk_by (next ends) text (beginning_by k text)

  abbrev pub instance : ℕ → Name → Option ℕ
  instance k text = if bytes_eq text (codes "/") then Some 0 else by (last_part kinds.Instance k text)
    where
      by : numbered.Spot → Option ℕ
      by a = find a.0 a.1
