-- Each text and each list is read in one way.
use Rattle.std.proofs.Common.{◌≡◌, ℕ, true, false, List, [], sym, ◌∙◌}
use Rattle.lp_text.specs.Places as places
use Rattle.lp_text.specs.declared.place.Place.{Place}
use Rattle.lp_upf_words.specs.Bytes.{kind_of, list_kind_of}
use Rattle.lp_upf_words.specs.Words.{Fresh, Between, none_yet, Outcome, Denotes, DenotesList}
use Rattle.lp_upf_words.specs.Reading.{start, start_at, read}
use Rattle.lp_upf_words.proofs.Again.{again}
use Rattle.lp_upf_words.proofs.Found.{has_words}

-- what a text denotes is what is read of it
pub as_read : (text : List ℕ) (o : Outcome) → Denotes text o → read kind_of start text ≡ o
as_read text o d = again kind_of Fresh places.start text d.tokens d.stop d.spelled [] places.start none_yet ∙ sym d.is

pub read_denotes : (text : List ℕ) → Denotes text (read kind_of start text)
read_denotes text =
    let w = has_words kind_of true text places.start in
    record { tokens = w.0; stop = w.1; spelled = w.2; is = again kind_of Fresh places.start text w.0 w.1 w.2 [] places.start none_yet }

pub each : (text : List ℕ) → (o : Outcome) × Denotes text o
each text = (read kind_of start text, read_denotes text)

pub once : (text : List ℕ) (a b : Outcome) → Denotes text a → Denotes text b → a ≡ b
once text a b x y = sym (as_read text a x) ∙ as_read text b y

list_as_read : (p : Place) (content : List ℕ) (o : Outcome) → DenotesList p content o → read list_kind_of (start_at false p) content ≡ o
list_as_read p content o d = again list_kind_of Between p content d.tokens d.stop d.spelled [] p none_yet ∙ sym d.is

pub read_denotes_list : (p : Place) (content : List ℕ) → DenotesList p content (read list_kind_of (start_at false p) content)
read_denotes_list p content =
    let w = has_words list_kind_of false content p in
    record { tokens = w.0; stop = w.1; spelled = w.2; is = again list_kind_of Between p content w.0 w.1 w.2 [] p none_yet }

pub each_list : (p : Place) (content : List ℕ) → (o : Outcome) × DenotesList p content o
each_list p content = (read list_kind_of (start_at false p) content, read_denotes_list p content)

pub once_list : (p : Place) (content : List ℕ) (a b : Outcome) → DenotesList p content a → DenotesList p content b → a ≡ b
once_list p content a b x y = sym (list_as_read p content a x) ∙ list_as_read p content b y
