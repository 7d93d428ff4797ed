-- One step of a loop over entries or symbols.
use Rattle.std.proofs.Common.{◌≡◌, ℕ, suc, ◌+◌, List, [], ◌∷◌, ◌++◌, drop, Option, Some, None, sym, ap, ◌∙◌, arith, append_assoc}
use Rattle.std.specs.Prelude.{slice_get, if◌then◌else◌}
use Rattle.std.proofs.Math.Seq.{drop-cons}
use Rattle.std.proofs.lemmas.Option.{slice_get_within, get_or_from_slice_get}
use Rattle.std.proofs.lemmas.List.{append-nil}
use Rattle.lp_model.specs.declared.netlist.Port.{Port}
use Rattle.lp_model.specs.declared.netlist.NetDecl.{NetDecl}
use Rattle.lp_verilog_draft.specs.declared.scope.Entry.{Entry}
use Rattle.lp_verilog_draft.specs.Scopes.{lacking_of, ports_of, nets_of, port_of, net_of, with_some, lacks_direction}

drop_at : {A : Type 0} (xs : List A) (i : ℕ) (x : A) → slice_get xs i ≡ Some x → drop i xs ≡ x ∷ drop (i + 1) xs
drop_at xs i x e =
    let next : i + 1 ≡ suc i = omega arith in
    let here = drop-cons xs i x (slice_get_within xs i x e) in
    rw next (here ∙ ap (λ y. y ∷ drop (suc i) xs) (get_or_from_slice_get xs i x x e))

pub lacking_step : (es : List (ℕ × Entry)) (i : ℕ) (e : ℕ × Entry) → slice_get es i ≡ Some e → lacking_of (drop i es) ≡ (if lacks_direction e.1 then Some e.1.at else lacking_of (drop (i + 1) es))
lacking_step es i e h = ap lacking_of (drop_at es i e h)

before : {A : Type 0} (o : Option A) (xs ys : List A) → (xs ++ with_some o []) ++ ys ≡ xs ++ with_some o ys
before None xs ys = ap (λ zs. zs ++ ys) (append-nil xs)
before (Some x) xs ys = append_assoc xs (x ∷ []) ys

ports_step : (ports : List Port) (es : List (ℕ × Entry)) (i : ℕ) (e : ℕ × Entry) → slice_get es i ≡ Some e → (ports ++ with_some (port_of e.0 e.1) []) ++ ports_of (drop (i + 1) es) ≡ ports ++ ports_of (drop i es)
ports_step ports es i e h = before (port_of e.0 e.1) ports (ports_of (drop (i + 1) es)) ∙ ap (λ xs. ports ++ ports_of xs) (sym (drop_at es i e h))

nets_step : (nets : List NetDecl) (es : List (ℕ × Entry)) (i : ℕ) (e : ℕ × Entry) → slice_get es i ≡ Some e → (nets ++ with_some (net_of e.0 e.1) []) ++ nets_of (drop (i + 1) es) ≡ nets ++ nets_of (drop i es)
nets_step nets es i e h = before (net_of e.0 e.1) nets (nets_of (drop (i + 1) es)) ∙ ap (λ xs. nets ++ nets_of xs) (sym (drop_at es i e h))

pub ports_kept : (es : List (ℕ × Entry)) (i : ℕ) (e : ℕ × Entry) (old new all : List Port) (o : Option Port) → slice_get es i ≡ Some e → o ≡ port_of e.0 e.1 → new ≡ old ++ with_some o [] → old ++ ports_of (drop i es) ≡ all → new ++ ports_of (drop (i + 1) es) ≡ all
ports_kept es i e old new all o at made is kept =
    let step = ports_step old es i e at in
    rw (is, made) (step ∙ kept)

pub nets_kept : (es : List (ℕ × Entry)) (i : ℕ) (e : ℕ × Entry) (old new all : List NetDecl) (o : Option NetDecl) → slice_get es i ≡ Some e → o ≡ net_of e.0 e.1 → new ≡ old ++ with_some o [] → old ++ nets_of (drop i es) ≡ all → new ++ nets_of (drop (i + 1) es) ≡ all
nets_kept es i e old new all o at made is kept =
    let step = nets_step old es i e at in
    rw (is, made) (step ∙ kept)
