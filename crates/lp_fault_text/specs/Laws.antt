-- The statements of the laws of this crate (own rule).
use Rattle.std.specs.Prelude.{◌≡◌, ◌<◌, ℕ, List}
use Rattle.lp_model.specs.declared.graph.Inst.{Inst}
use Rattle.lp_model.specs.declared.ids.InstId.{InstId}
use Rattle.lp_fault_text.specs.Paths.{path, Leads}

-- the path of an instance that stands in fewer than 64 others has the names that lead from the top down to it
abbrev pub PathsLeadFromTheTop : Type 0
PathsLeadFromTheTop =
    (names : List (List ℕ)) (instances : List Inst) (depth : ℕ) (inst : InstId) (texts : List (List ℕ))
    → depth < 64
    → Leads names instances depth inst texts
    → path names instances inst ≡ texts
