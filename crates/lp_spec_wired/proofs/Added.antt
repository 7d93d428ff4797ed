-- Names of additions: none is a name of the source, and they differ by kind.
use Rattle.std.proofs.Common.{◌≡◌, ◌<◌, ℕ, ◌^◌, Bool, true, false, ◌∷◌, refl, sym, ◌∙◌, ap}
use Rattle.std.specs.Prelude.{bytes_eq, codes, decimal}
use Rattle.std.proofs.lemmas.Bool.{both_ways}
use Rattle.std.proofs.lemmas.Fmt.{decimal_injective}
use Rattle.lp_spec_design.specs.Keys.{Name}
use Rattle.lp_spec_design.specs.Reads.{name-true}
use Rattle.lp_spec_faults.specs.Modules.{is_own}
use Rattle.lp_spec_realises.specs.Projects.{Project, port_of_origin}
use Rattle.lp_spec_written.specs.Places.{with_number}
use Rattle.lp_spec_written.specs.Nets.{chain_net}
use Rattle.lp_spec_written.specs.Routes.{control_net}

-- a name of the source is not that of an addition
pub own-apart : (m n : Name) → is_own m ≡ false → is_own n ≡ true → bytes_eq m n ≡ false
own-apart m n e f = by (bytes_eq m n) refl
  where
    by : (b : Bool) → bytes_eq m n ≡ b → b ≡ false
    by true is = absurd (both_ways (is_own n) (ap is_own (sym (name-true m n is)) ∙ e) f)
    by false is = refl

pub origin-own : (p : Project) (o : ℕ) → is_own (port_of_origin p o) ≡ true
origin-own p o = refl

pub switch-own : (k : ℕ) → is_own (with_number (codes "lp_w_") k) ≡ true
switch-own k = refl

pub chain-own : (k : ℕ) → is_own (chain_net k) ≡ true
chain-own k = refl

pub control-own : (k : ℕ) → is_own (control_net k) ≡ true
control-own k = refl

-- additions of two kinds
pub origin-switch : (p : Project) (o k : ℕ) → bytes_eq (port_of_origin p o) (with_number (codes "lp_w_") k) ≡ false
origin-switch p o k = refl

pub switch-origin : (p : Project) (o k : ℕ) → bytes_eq (with_number (codes "lp_w_") k) (port_of_origin p o) ≡ false
switch-origin p o k = refl

pub origin-control : (p : Project) (o k : ℕ) → bytes_eq (port_of_origin p o) (control_net k) ≡ false
origin-control p o k = refl

pub control-origin : (p : Project) (o k : ℕ) → bytes_eq (control_net k) (port_of_origin p o) ≡ false
control-origin p o k = refl

pub switch-control : (j k : ℕ) → bytes_eq (with_number (codes "lp_w_") j) (control_net k) ≡ false
switch-control j k = refl

pub control-switch : (j k : ℕ) → bytes_eq (control_net k) (with_number (codes "lp_w_") j) ≡ false
control-switch j k = refl

-- additions of one kind
tail_of : (j k : ℕ) (a b c d e : ℕ) → (a ∷ b ∷ c ∷ d ∷ e ∷ decimal j) ≡ (a ∷ b ∷ c ∷ d ∷ e ∷ decimal k) → decimal j ≡ decimal k
tail_of j k a b c d e same = cc

pub control-number : (j k : ℕ) → j < 2 ^ 64 → k < 2 ^ 64 → control_net j ≡ control_net k → j ≡ k
control-number j k small less same = decimal_injective j k small less (tail_of j k _ _ _ _ _ same)

pub chain-number : (j k : ℕ) → j < 2 ^ 64 → k < 2 ^ 64 → chain_net j ≡ chain_net k → j ≡ k
chain-number j k small less same = decimal_injective j k small less (tail_of j k _ _ _ _ _ same)
