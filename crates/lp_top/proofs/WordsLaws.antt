-- The words are read exactly where they are a command.
use Rattle.std.proofs.Common.{◌≡◌, true, false, cond, List, [], ◌∷◌, Option, Some, None, refl, ◌∙◌, ap, subst}
use Rattle.std.specs.Prelude.{codes, bytes_eq}
use Rattle.std.proofs.lemmas.Slice.Eq.{bytes_eq-Decides}
use Rattle.lp_token.specs.Tokens.{is_filled}
use Rattle.lp_plain_upf.specs.Names.{Name}
use Rattle.lp_top.specs.Words.{CommandFiles, IsCommand, command_words, word_is, option_at, command_of, ◌>>=◌}

bind_some : {A B : Type 0} (o : Option A) (f : A → Option B) (y : B) → (o >>= f) ≡ Some y → (x : A) × ((o ≡ Some x) × (f x ≡ Some y))
bind_some None f y e = absurd (let no_value : ⊥ = cc in no_value)
bind_some (Some x) f y e = (x, (refl, e))

word-found : (name : Name) (words rest : List Name) → word_is name words ≡ Some rest → words ≡ name ∷ rest
word-found name [] rest e = absurd (let no_value : ⊥ = cc in no_value)
word-found name (w ∷ ws) rest e =
    elim (bytes_eq w name) as (λ b. bytes_eq w name ≡ b → cond b (Some ws) None ≡ Some rest → w ∷ ws ≡ name ∷ rest) [
      | true ↦ λ s h. let same : ws ≡ rest = cc in λ i. (bytes_eq-Decides w name).0 s i ∷ same i
      | false ↦ λ s h. absurd (let no_value : ⊥ = cc in no_value)
    ] refl e

option-found : (name : Name) (words : List Name) (x : Name × List Name) → option_at name words ≡ Some x → words ≡ name ∷ x.0 ∷ x.1
option-found name [] x e = absurd (let no_value : ⊥ = cc in no_value)
option-found name (w ∷ []) x e = absurd (let no_value : ⊥ = cc in no_value)
option-found name (w ∷ v ∷ ws) x e =
    elim (bytes_eq w name) as (λ b. bytes_eq w name ≡ b → cond b (Some (v, ws)) None ≡ Some x → w ∷ v ∷ ws ≡ name ∷ x.0 ∷ x.1) [
      | true ↦ λ s h. let same : (v, ws) ≡ x = cc in λ i. (bytes_eq-Decides w name).0 s i ∷ (same i).0 ∷ (same i).1
      | false ↦ λ s h. absurd (let no_value : ⊥ = cc in no_value)
    ] refl e

-- what is read is a command
pub command-found : (words : List Name) (c : CommandFiles) → command_of words ≡ Some c → IsCommand words c
unfolding command_of
command-found words c e =
    let a = bind_some (word_is (codes "insert") words) _ c e in
    let b = bind_some (option_at (codes "--netlist") a.0) _ c a.1.1 in
    let d = bind_some (option_at (codes "--upf") b.0.1) _ c b.1.1 in
    let f = bind_some (option_at (codes "--out") d.0.1) _ c d.1.1 in
    let g = bind_some (option_at (codes "--report") f.0.1) _ c f.1.1 in
    let made : CommandFiles = record { netlist = b.0.0; upf = d.0.0; out = f.0.0; report = g.0.0; libraries = g.0.1 } in
    let spelled : words ≡ command_words made =
    word-found (codes "insert") words a.0 a.1.0
    ∙ ap (λ ws. codes "insert" ∷ ws) (option-found (codes "--netlist") a.0 b.0 b.1.0
    ∙ ap (λ ws. codes "--netlist" ∷ b.0.0 ∷ ws) (option-found (codes "--upf") b.0.1 d.0 d.1.0
    ∙ ap (λ ws. codes "--upf" ∷ d.0.0 ∷ ws) (option-found (codes "--out") d.0.1 f.0 f.1.0
    ∙ ap (λ ws. codes "--out" ∷ f.0.0 ∷ ws) (option-found (codes "--report") f.0.1 g.0 g.1.0)))) in
    elim (is_filled g.0.1) as (λ t. is_filled g.0.1 ≡ t → cond t (Some made) None ≡ Some c → IsCommand words c) [
      | true ↦ λ s h. let same : made ≡ c = cc in subst (IsCommand words) same (record { spelled = spelled; library = s })
      | false ↦ λ s h. absurd (let no_value : ⊥ = cc in no_value)
    ] refl g.1.1

-- a command is read
pub command-again : (words : List Name) (c : CommandFiles) → IsCommand words c → command_of words ≡ Some c
unfolding command_of
command-again words c is = ap command_of is.spelled ∙ ap (λ b. cond b (Some c) None) is.library
