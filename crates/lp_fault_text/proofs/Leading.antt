-- The names by depth are those that lead down from the top.
use Rattle.std.proofs.Common.{◌≡◌, ◌<◌, ◌∙◌, ℕ, zero, suc, List, [], ◌∷◌, ◌++◌, ap, arith}
use Rattle.lp_text.specs.Texts.{text_at}
use Rattle.lp_model.specs.declared.graph.Inst.{Inst}
use Rattle.lp_model.specs.declared.ids.InstId.{InstId}
use Rattle.lp_fault_text.specs.Paths.{path, path_within, with_own, Leads, top_itself, one_below}

within : (names : List (List ℕ)) (instances : List Inst) (fuel depth : ℕ) (inst : InstId) (texts : List (List ℕ)) → depth < fuel → Leads names instances depth inst texts → path_within names instances fuel inst ≡ texts
within names instances zero depth inst texts h leads = absurd (omega arith)
within names instances (suc fuel) depth inst texts h (top_itself is) = ap (with_own names (λ parent. path_within names instances fuel parent)) is
within names instances (suc fuel) depth inst texts h (one_below {depth = d} {parent = parent} {name = name} {above = above} is leads) =
    ap (with_own names (λ p. path_within names instances fuel p)) is
    ∙ ap (λ path. path ++ text_at names name.0 ∷ []) (within names instances fuel d parent above (omega arith) leads)

pub path_leads : (names : List (List ℕ)) (instances : List Inst) (depth : ℕ) (inst : InstId) (texts : List (List ℕ)) → depth < 64 → Leads names instances depth inst texts → path names instances inst ≡ texts
unfolding path
path_leads names instances depth inst texts h leads = within names instances 64 depth inst texts h leads
