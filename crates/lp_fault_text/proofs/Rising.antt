-- One instance up, the path is shorter by a name.
use Rattle.std.proofs.Common.{◌≡◌, ◌<◌, ◌-◌, ◌∙◌, ℕ, zero, suc, List, [], ◌∷◌, ◌++◌, Some, ap, arith, codes}
use Rattle.std.proofs.lemmas.Grind.{flat_map-append}
use Rattle.std.proofs.lemmas.List.{append-nil}
use Rattle.lp_text.specs.Texts.{text_at}
use Rattle.lp_text.specs.declared.names.NameId.{NameId}
use Rattle.lp_model.specs.declared.graph.Inst.{Inst}
use Rattle.lp_model.specs.declared.ids.InstId.{InstId}
use Rattle.lp_fault_text.specs.Paths.{path_within, slashed, standing}

pub path_up : (names : List (List ℕ)) (instances : List Inst) (depth : ℕ) (inst parent : InstId) (name : NameId) → 0 < depth → standing instances inst ≡ Some (parent, name)
    → slashed (path_within names instances depth inst) ≡ slashed (path_within names instances (depth - 1) parent) ++ (text_at names name.0 ++ codes "/")
path_up names instances zero inst parent name h e = absurd (omega arith)
path_up names instances (suc d) inst parent name h e =
    let before : suc d - 1 ≡ d = omega arith in
    rw (e, before) (flat_map-append (λ n. n ++ codes "/") (path_within names instances d parent) (text_at names name.0 ∷ [])
    ∙ ap (λ t. slashed (path_within names instances d parent) ++ t) (append-nil (text_at names name.0 ++ codes "/")))
