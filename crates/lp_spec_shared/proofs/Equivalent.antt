-- Down to a depth, equal content is an equivalence.
use Rattle.std.proofs.Common.{◌≡◌, ℕ, zero, suc, Bool, true, List, [], ◌∷◌, Option, Some, None, refl, sym, ap, ◌∙◌}
use Rattle.std.proofs.lemmas.Bool.{false≢true}
use Rattle.std.specs.List.{list_all}
use Rattle.std.specs.Prelude.{bytes_eq}
use Rattle.lp_model.specs.NetlistView.{InstanceView, ModuleView}
use Rattle.lp_spec_design.specs.Keys.{Name}
use Rattle.lp_spec_design.specs.Reads.{one, other, both, name-true, name-self}
use Rattle.lp_spec_written.specs.Shared.{same_list, named, same_found, same_instance, same_content}
use Rattle.lp_spec_hub.specs.Contents.{some_is_within, is_within, IsEquivalence}
use Rattle.lp_spec_shared.proofs.Parts.{alike, of-alike, content-parts, of-parts}

abbrev Test : Type 0
Test = ModuleView → ModuleView → Bool

found-turned : (t : Test) → ((a b : ModuleView) → t a b ≡ true → t b a ≡ true) → (m n : Name) (a b : Option ModuleView) → same_found t m n a b ≡ true → same_found t n m b a ≡ true
found-turned t turned m n (Some a) (Some b) e = turned a b e
found-turned t turned m n None None e = ap (bytes_eq n) (name-true m n e) ∙ name-self n
found-turned t turned m n (Some a) None e = absurd (false≢true e)
found-turned t turned m n None (Some b) e = absurd (false≢true e)

found-joined : (t : Test) → ((a b c : ModuleView) → t a b ≡ true → t b c ≡ true → t a c ≡ true) → (m n k : Name) (a b c : Option ModuleView) → same_found t m n a b ≡ true → same_found t n k b c ≡ true → same_found t m k a c ≡ true
found-joined t joined m n k (Some a) (Some b) (Some c) e g = joined a b c e g
found-joined t joined m n k None None None e g = ap (λ z. bytes_eq z k) (name-true m n e) ∙ g
found-joined t joined m n k (Some a) None c e g = absurd (false≢true e)
found-joined t joined m n k None (Some b) c e g = absurd (false≢true e)
found-joined t joined m n k (Some a) (Some b) None e g = absurd (false≢true g)
found-joined t joined m n k None None (Some c) e g = absurd (false≢true g)

module _ (modules : List ModuleView) where
  abbrev same : Test → InstanceView → InstanceView → Bool
  same t = same_instance t modules

  instances-turned : (t : Test) → ((a b : ModuleView) → t a b ≡ true → t b a ≡ true) → (xs ys : List InstanceView) → same_list (same t) xs ys ≡ true → same_list (same t) ys xs ≡ true
  instances-turned t turned [] [] e = refl
  instances-turned t turned [] (y ∷ ys) e = absurd (false≢true e)
  instances-turned t turned (x ∷ xs) [] e = absurd (false≢true e)
  instances-turned t turned (x ∷ xs) (y ∷ ys) e =
      let h = alike t modules x y (one (same t x y) (same_list (same t) xs ys) e) in
      both (same t y x) (same_list (same t) ys xs)
      (of-alike t modules y x (record { name = sym h.name; target = found-turned t turned x.target y.target (named modules x.target) (named modules y.target) h.target; connections = sym h.connections }))
      (instances-turned t turned xs ys (other (same t x y) (same_list (same t) xs ys) e))

  instances-joined : (t : Test) → ((a b c : ModuleView) → t a b ≡ true → t b c ≡ true → t a c ≡ true) → (xs ys zs : List InstanceView) → same_list (same t) xs ys ≡ true → same_list (same t) ys zs ≡ true → same_list (same t) xs zs ≡ true
  instances-joined t joined [] [] [] e g = refl
  instances-joined t joined [] [] (z ∷ zs) e g = absurd (false≢true g)
  instances-joined t joined [] (y ∷ ys) zs e g = absurd (false≢true e)
  instances-joined t joined (x ∷ xs) [] zs e g = absurd (false≢true e)
  instances-joined t joined (x ∷ xs) (y ∷ ys) [] e g = absurd (false≢true g)
  instances-joined t joined (x ∷ xs) (y ∷ ys) (z ∷ zs) e g =
      let h = alike t modules x y (one (same t x y) (same_list (same t) xs ys) e) in
      let k = alike t modules y z (one (same t y z) (same_list (same t) ys zs) g) in
      both (same t x z) (same_list (same t) xs zs)
      (of-alike t modules x z (record { name = h.name ∙ k.name; target = found-joined t joined x.target y.target z.target (named modules x.target) (named modules y.target) (named modules z.target) h.target k.target; connections = h.connections ∙ k.connections }))
      (instances-joined t joined xs ys zs (other (same t x y) (same_list (same t) xs ys) e) (other (same t y z) (same_list (same t) ys zs) g))

  instances-self : (t : Test) (u : ModuleView → Bool) → ((a : ModuleView) → u a ≡ true → t a a ≡ true) → (xs : List InstanceView) → list_all (λ (x : InstanceView). some_is_within u (named modules x.target)) xs ≡ true → same_list (same t) xs xs ≡ true
  instances-self t u self [] e = refl
  instances-self t u self (x ∷ xs) e =
      let rest = list_all (λ (y : InstanceView). some_is_within u (named modules y.target)) xs in
      both (same t x x) (same_list (same t) xs xs)
      (of-alike t modules x x (record { name = refl; target = by (named modules x.target) (one (some_is_within u (named modules x.target)) rest e); connections = refl }))
      (instances-self t u self xs (other (some_is_within u (named modules x.target)) rest e))
    where
      by : (a : Option ModuleView) → some_is_within u a ≡ true → same_found t x.target x.target a a ≡ true
      by None h = name-self x.target
      by (Some a) h = self a h

  content-turned : (depth : ℕ) (a b : ModuleView) → same_content modules depth a b ≡ true → same_content modules depth b a ≡ true
  content-turned zero a b e = absurd (false≢true e)
  content-turned (suc depth) a b e =
      let h = content-parts modules depth a b e in
      of-parts modules depth b a (record { ports = sym h.ports; nets = sym h.nets; instances = instances-turned (same_content modules depth) (content-turned depth) a.instances b.instances h.instances; assigns = sym h.assigns })

  content-joined : (depth : ℕ) (a b c : ModuleView) → same_content modules depth a b ≡ true → same_content modules depth b c ≡ true → same_content modules depth a c ≡ true
  content-joined zero a b c e g = absurd (false≢true e)
  content-joined (suc depth) a b c e g =
      let h = content-parts modules depth a b e in
      let k = content-parts modules depth b c g in
      of-parts modules depth a c (record { ports = h.ports ∙ k.ports; nets = h.nets ∙ k.nets; instances = instances-joined (same_content modules depth) (content-joined depth) a.instances b.instances c.instances h.instances k.instances; assigns = h.assigns ∙ k.assigns })

  content-self : (depth : ℕ) (a : ModuleView) → is_within modules depth a ≡ true → same_content modules depth a a ≡ true
  content-self zero a e = absurd (false≢true e)
  content-self (suc depth) a e = of-parts modules depth a a (record { ports = refl; nets = refl; instances = instances-self (same_content modules depth) (is_within modules depth) (content-self depth) a.instances e; assigns = refl })

  pub content-equivalence : (depth : ℕ) → IsEquivalence modules depth
  content-equivalence depth = record { same = content-self depth; turned = content-turned depth; joined = content-joined depth }
