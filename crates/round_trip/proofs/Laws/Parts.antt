-- Parts of a list by place: neighbouring parts join, and a list that stands at a place is the part there.
use Prim.Native.Nat.{ℕ, zero, suc, ◌+◌, ◌<◌}
use Rattle.std.proofs.Common.{arith, add-zero, add-suc, add_assoc, sym, ap, ◌∙◌, length-append, take_at, drop_at, ext_get_or}
use Rattle.std.proofs.Math.Decide.{ℕ_discrete}
use Rattle.std.specs.Prelude.{◌≡◌, length, take, drop}
use Rattle.std.proofs.Math.Path.{refl}
use mathlib.Core.List.{List, [], ◌∷◌, ◌++◌, append_assoc, append-nil}
use Rattle.std.proofs.Math.ListN.{get_or, get_or-append}
use Rattle.std.proofs.lemmas.List.{get_or_at}
use Rattle.model.specs.Program.{part}

module _ (xs : List ℕ) where
  pub length_part : (a n : ℕ) → length (part xs a n) ≡ n
  unfolding part
  length_part a zero = refl
  length_part a (suc n) = rw (length-append, length_part a n) (omega arith)

  pub part_add : (a m n : ℕ) → part xs a (m + n) ≡ part xs a m ++ part xs (a + m) n
  unfolding part
  part_add a m zero = rw (add-zero, append-nil)
  part_add a m (suc n) = rw (add-suc, part_add a m n, append_assoc, add_assoc)

  get_d_part : (a n i : ℕ) → i < n → get_or (part xs a n) i 0 ≡ get_or xs (a + i) 0
  unfolding part
  get_d_part a zero i h = absurd (omega arith)
  get_d_part a (suc n) i h = go (ℕ_discrete i n) (get_d_part a n i)
    where
      go : Dec (i ≡ n) → (i < n → get_or (part xs a n) i 0 ≡ get_or xs (a + i) 0) → get_or (part xs a n ++ get_or xs (a + n) 0 ∷ []) i 0 ≡ get_or xs (a + i) 0
      go (yes p) later = rw p (get_or_at (part xs a n) (get_or xs (a + n) 0) [] 0 n (length_part a n))
      go (no p) later = get_or-append (part xs a n) _ 0 i (omega (arith, length_part a n)) ∙ later (omega arith)

  -- ys stands in xs, from place a on
  abbrev pub Holds : ℕ → List ℕ → Type 0
  Holds a ys = part xs a (length ys) ≡ ys

  pub holds_part : (a n : ℕ) → Holds a (part xs a n)
  holds_part a n = ap (part xs a) (length_part a n)

  pub holds_all : Holds 0 xs
  holds_all =
      let n = length xs in
      ext_get_or 0 (part xs 0 n) xs (length_part 0 n) (λ i h. get_d_part 0 n i (omega (arith, length_part 0 n)) ∙ ap (λ (k : ℕ). get_or xs k 0) (omega arith))

  pub holds_whole : (ys : List ℕ) → Holds 0 ys → length ys ≡ length xs → ys ≡ xs
  holds_whole ys h e = sym h ∙ ap (part xs 0) e ∙ holds_all

  pub holds_get_or : (a : ℕ) (ys : List ℕ) → Holds a ys → (i : ℕ) → i < length ys → get_or ys i 0 ≡ get_or xs (a + i) 0
  holds_get_or a ys h i less = ap (λ (zs : List ℕ). get_or zs i 0) (sym h) ∙ get_d_part a (length ys) i less

  module _ (a : ℕ) (ys zs : List ℕ) where
    joined_parts : part xs a (length (ys ++ zs)) ≡ part xs a (length ys) ++ part xs (a + length ys) (length zs)
    joined_parts = ap (part xs a) (length-append ys zs) ∙ part_add a (length ys) (length zs)

    pub holds_append : Holds a ys → Holds (a + length ys) zs → Holds a (ys ++ zs)
    holds_append h k = joined_parts ∙ rw (h, k)

    pub holds_left : Holds a (ys ++ zs) → Holds a ys
    holds_left h =
        sym (take_at (part xs a (length ys)) (part xs (a + length ys) (length zs)) (length ys) (length_part a (length ys)))
        ∙ ap (take (length ys)) (sym joined_parts ∙ h)
        ∙ take_at ys zs (length ys) refl

    pub holds_right : Holds a (ys ++ zs) → Holds (a + length ys) zs
    holds_right h =
        sym (drop_at (part xs a (length ys)) (part xs (a + length ys) (length zs)) (length ys) (length_part a (length ys)))
        ∙ ap (drop (length ys)) (sym joined_parts ∙ h)
        ∙ drop_at ys zs (length ys) refl

-- ys stands in xs, from place a to place b
pub record Spans (xs : List ℕ) (a b : ℕ) (ys : List ℕ) : Type 0 where
  pub same : Holds xs a ys
  pub end : a + length ys ≡ b

pub spans_append : (xs : List ℕ) {a b c : ℕ} {ys zs : List ℕ} → Spans xs a b ys → Spans xs b c zs → Spans xs a c (ys ++ zs)
spans_append xs {a} {b} {c} {ys} {zs} h k = record {
  same = holds_append xs a ys zs h.same (rw h.end k.same);
  end = omega (arith, length-append ys zs, h.end, k.end);
}

pub spans_part : (xs : List ℕ) (a n b : ℕ) → a + n ≡ b → Spans xs a b (part xs a n)
spans_part xs a n b e = record { same = holds_part xs a n; end = rw (length_part xs a n) e }

pub spans_none : (xs : List ℕ) (a : ℕ) → Spans xs a a []
unfolding part
spans_none xs a = record { same = refl; end = omega arith }

pub part_one : (xs : List ℕ) (a : ℕ) → part xs a 1 ≡ get_or xs a 0 ∷ []
unfolding part
part_one xs a = rw add-zero

pub part_two : (xs : List ℕ) (a : ℕ) → part xs a 2 ≡ get_or xs a 0 ∷ get_or xs (a + 1) 0 ∷ []
unfolding part
part_two xs a = rw add-zero

pub spans_one : (xs : List ℕ) (a : ℕ) → Spans xs a (a + 1) (get_or xs a 0 ∷ [])
spans_one xs a = record { same = part_one xs a; end = refl }

-- the same places, otherwise written
pub moved : (P : ℕ → ℕ → ℕ → ℕ → Type 0) {a a' b b' c c' d d' : ℕ} → P a b c d → a ≡ a' → b ≡ b' → c ≡ c' → d ≡ d' → P a' b' c' d'
moved P p e f g h = rw (← e, ← f, ← g, ← h) p
