-- Names by numbers that are equal exactly where the texts are (own rule).
use Rattle.std.specs.Prelude.{ℕ, ◌==◌, Bool, List, length, unwrap_or, map}
use Rattle.lp_text.specs.Texts.{text_at, place_of}
use Rattle.lp_text.specs.declared.names.NameId.{NameId}

-- the place of the name's text in its table, and behind all of them where the table lacks it
abbrev pub key_of : List (List ℕ) → ℕ → ℕ
key_of texts n = unwrap_or (place_of (text_at texts n) texts) (length texts)

abbrev pub keys_of : List (List ℕ) → List NameId → List ℕ
keys_of texts names = map (λ (n : NameId). key_of texts n.0) names

abbrev pub same_key : ℕ → ℕ → Bool
same_key a b = a == b
