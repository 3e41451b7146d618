-- Choices and lists that agree where it matters: nothing here is about figures.
use Rattle.std.specs.Prelude.{ℕ, ◌<◌, ◌≡◌, refl, Bool, true, false, cond, length, get_or, set}
use Rattle.std.proofs.Common.{arith, sym, ap, ◌∙◌, length-set, get_or-set_same, get_or-set_other}
use Rattle.std.proofs.Math.Decide.{ℕ_discrete, dec_lt}
use mathlib.Core.List.{List, [], ◌∷◌, map, Memᴰ}
use Rattle.std.proofs.Math.Seq.{set_out}
use Rattle.noninterference.specs.Laws.Lists.{SameAt}

-- related case by case
pub cond_both {ℓ} : {A : Type ℓ} (R : A → A → Type 0) (b : Bool) {x y z w : A} → (b ≡ true → R x z) → (b ≡ false → R y w) → R (cond b x y) (cond b z w)
cond_both R true f g = f refl
cond_both R false f g = g refl

pub cond_same {ℓ} : {A : Type ℓ} (b : Bool) {x y z w : A} → (b ≡ true → x ≡ z) → (b ≡ false → y ≡ w) → cond b x y ≡ cond b z w
cond_same true f g = f refl
cond_same false f g = g refl

-- a choice has what both have
pub cond_has {ℓ} : {A : Type ℓ} (P : A → Type 0) (b : Bool) {x y : A} → P x → P y → P (cond b x y)
cond_has P true p q = p
cond_has P false p q = q

pub same_refl : {A : Type 0} (d : A) (R : ℕ → Type 0) (l : List A) → SameAt d R l l
same_refl d R l = record { lengths = refl; at = λ k r. refl }

module _ {A : Type 0} {d : A} {R : ℕ → Type 0} {l m : List A} (h : SameAt d R l m) (i : ℕ) (v w : A) (same : R i → v ≡ w) where
  set_here : Dec (i < length l) → R i → get_or (set l i v) i d ≡ get_or (set m i w) i d
  set_here (yes p) r = get_or-set_same l i v d p ∙ same r ∙ sym (get_or-set_same m i w d (rw h.lengths at p))
  set_here (no p) r = ap (λ (x : List A). get_or x i d) (set_out l i v (omega arith)) ∙ h.at i r ∙ ap (λ (x : List A). get_or x i d) (sym (set_out m i w (omega (arith, h.lengths))))

  set_at : (k : ℕ) → Dec (k ≡ i) → R k → get_or (set l i v) k d ≡ get_or (set m i w) k d
  set_at k (yes p) r = rw p (set_here (dec_lt i (length l)) (rw p at r))
  set_at k (no p) r = get_or-set_other l i k v d p ∙ h.at k r ∙ sym (get_or-set_other m i k w d p)

  pub same_set : SameAt d R (set l i v) (set m i w)
  same_set = record { lengths = length-set l i v ∙ h.lengths ∙ sym (length-set m i w); at = λ k r. set_at k (ℕ_discrete k i) r }

-- a map over members
pub map_same : {A B : Type 0} (f g : A → B) (l : List A) → ((a : A) → Memᴰ a l → f a ≡ g a) → map f l ≡ map g l
map_same f g [] h = refl
map_same f g (a ∷ l) h = rw (h a (Memᴰ.head refl), map_same f g l (λ b q. h b (Memᴰ.tail q)))
