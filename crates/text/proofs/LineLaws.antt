-- One line: its values by their forms, what is known of them, and the step that it makes. Assumes nothing.
use Prim.Native.Nat.{ℕ, zero, suc, ◌+◌, ◌-◌, ◌*◌, ◌≤◌, ◌<◌, ◌^◌}
use native.Mathlib.Numerals.{add-one}
use native.Mathlib.Omega.{arith}
use mathlib.Core.Path.{◌≡◌, refl, sym, ap, ◌∙◌}
use mathlib.Core.Bool.{Bool, true, false}
use mathlib.Core.List.{List, [], ◌∷◌, ◌++◌}
use lib.Ieee.{Float}
use lib.ListN.{length, get_or, take, drop, length-drop, length-take, length-append}
use lib.Seq.{sets, length-take-le, take-suc, take-length, take-append_seam, get_or-take}
use lib.Dec.{T}
use Rattle.std.proofs.lemmas.List.{get_or_default}
use Rattle.model.specs.declared.LineKind.{LineKind}
use Rattle.model.specs.declared.FieldForm.{FieldForm}
use Rattle.model.specs.declared.FieldForm.TheVariants.{Decimal, Bits}
use Rattle.model.specs.Text.{front, max_word, forms, field_count, Line, malformed, line, line_in, words_in, bits_in, got, from_line, read_line, floats_of}
use Rattle.model.specs.Laws.Text.{Bounded}
use Rattle.model.proofs.Laws.Text.{LineLaw, line_law}
use Rattle.std.specs.Prelude.{Option, Some, None, Ok, Err}
use Rattle.text.specs.declared.put.Progress.{Progress}
use Rattle.text.specs.declared.put.Malformed.{Malformed}
use Rattle.text.specs.LineFound.{no_values, found_end, found_values, LineFound}
use Rattle.text.proofs.FieldLaws.{fields_few, line_rest}
use Rattle.text.specs.Readers.{RoomFor}
use Rattle.text.specs.Steps.{InText, behind_line, with_word, with_number, LineValues, LineAt, Put, Stays, ValuesPut, ReadAs}
use Rattle.text.proofs.Laws.{at_front, put_more, put_nothing, put_word, put_behind}

-- ---- what `line_at` found

module _ (kind : LineKind) {text old values : List ℕ} (r : Progress) {found : Option ℕ} (told : LineFound text (line_in kind (drop r.at text)) found old values) where
  pub line_at : {at : ℕ} → InText text r → found ≡ Some at → LineAt kind text values r at
  unfolding found_end found_values
  line_at {at} here e = of (line_in kind (drop r.at text)) refl (sym e ∙ told.answer) told.values
    where
      of : (l : Line) → line_in kind (drop r.at text) ≡ l → Some at ≡ found_end text l → values ≡ found_values l old → LineAt kind text values r at
      of malformed is a v = cc
      of (line vs rest) is a v =
          let place : at ≡ length text - length rest = cc in
          let few : length vs ≤ length no_values = omega (arith, (line_law kind (drop r.at text) vs rest is).count, fields_few kind) in
          let front : take (field_count kind) values ≡ vs =
          rw (v, at_front no_values vs few, ← (line_law kind (drop r.at text) vs rest is).count) (take-append_seam vs _) in
          record { here = here; reading = rw (front, place, ← line_rest kind text r.at is) is; inside = omega (arith, place) }

  pub line_bad : found ≡ None → line_in kind (drop r.at text) ≡ malformed
  unfolding found_end
  line_bad t = of (line_in kind (drop r.at text)) told.answer
    where
      of : (l : Line) → found ≡ found_end text l → l ≡ malformed
      of malformed a = refl
      of (line vs rest) a = cc

pub line_stops : (kind : LineKind) (text : List ℕ) (r : Progress) (p₀ p₁ : List ℕ) (n₀ n₁ : List Float) (m : Malformed)
    → m.line ≡ r.line + 1 → line_in kind (drop r.at text) ≡ malformed → ReadAs text r p₀ p₁ n₀ n₁ (Err m) (read_line kind (drop r.at text))
unfolding ReadAs read_line from_line
line_stops kind text r p₀ p₁ n₀ n₁ m e t = rw t e

-- ---- values by their forms

-- behind the first
pub next_of : (vs : List ℕ) (k : ℕ) → get_or (drop 1 vs) k 0 ≡ get_or vs (suc k) 0
next_of [] k = refl
next_of (v ∷ vs) k = refl

values_count : (fs : List FieldForm) (vs : List ℕ) → length (words_in fs vs) + length (bits_in fs vs) ≡ length fs
unfolding words_in bits_in
values_count [] vs = refl
values_count (Decimal limit ∷ fs) vs = omega (arith, values_count fs (drop 1 vs))
values_count (Bits ∷ fs) vs = omega (arith, values_count fs (drop 1 vs))

-- of one more field
words_more : (fs : List FieldForm) (vs : List ℕ) (form : FieldForm) → words_in (fs ++ (form ∷ [])) vs ≡ words_in fs vs ++ words_in (form ∷ []) (get_or vs (length fs) 0 ∷ [])
unfolding words_in
words_more [] vs (Decimal limit) = refl
words_more [] vs Bits = refl
words_more (Decimal limit ∷ fs) vs form = ap (◌∷◌ (front vs)) (rw next_of at (words_more fs (drop 1 vs) form))
words_more (Bits ∷ fs) vs form = rw next_of at (words_more fs (drop 1 vs) form)

bits_more : (fs : List FieldForm) (vs : List ℕ) (form : FieldForm) → bits_in (fs ++ (form ∷ [])) vs ≡ bits_in fs vs ++ bits_in (form ∷ []) (get_or vs (length fs) 0 ∷ [])
unfolding bits_in
bits_more [] vs (Decimal limit) = refl
bits_more [] vs Bits = refl
bits_more (Decimal limit ∷ fs) vs form = rw next_of at (bits_more fs (drop 1 vs) form)
bits_more (Bits ∷ fs) vs form = ap (◌∷◌ (front vs)) (rw next_of at (bits_more fs (drop 1 vs) form))

-- what stands behind the last field is not read
words_take : (fs : List FieldForm) (vs : List ℕ) → words_in fs (take (length fs) vs) ≡ words_in fs vs
unfolding words_in
words_take [] vs = refl
words_take (form ∷ fs) [] = refl
words_take (Decimal limit ∷ fs) (v ∷ vs) = ap (◌∷◌ v) (words_take fs vs)
words_take (Bits ∷ fs) (v ∷ vs) = words_take fs vs

bits_take : (fs : List FieldForm) (vs : List ℕ) → bits_in fs (take (length fs) vs) ≡ bits_in fs vs
unfolding bits_in
bits_take [] vs = refl
bits_take (form ∷ fs) [] = refl
bits_take (Decimal limit ∷ fs) (v ∷ vs) = bits_take fs vs
bits_take (Bits ∷ fs) (v ∷ vs) = ap (◌∷◌ v) (bits_take fs vs)

-- the first n fields have no more
words_first : (fs : List FieldForm) (vs : List ℕ) (n : ℕ) → length (words_in (take n fs) vs) ≤ length (words_in fs vs)
unfolding words_in
words_first [] vs zero = omega arith
words_first [] vs (suc n) = omega arith
words_first (form ∷ fs) vs zero = omega arith
words_first (Decimal limit ∷ fs) vs (suc n) = omega (arith, words_first fs (drop 1 vs) n)
words_first (Bits ∷ fs) vs (suc n) = words_first fs (drop 1 vs) n

bits_first : (fs : List FieldForm) (vs : List ℕ) (n : ℕ) → length (bits_in (take n fs) vs) ≤ length (bits_in fs vs)
unfolding bits_in
bits_first [] vs zero = omega arith
bits_first [] vs (suc n) = omega arith
bits_first (form ∷ fs) vs zero = omega arith
bits_first (Decimal limit ∷ fs) vs (suc n) = bits_first fs (drop 1 vs) n
bits_first (Bits ∷ fs) vs (suc n) = omega (arith, bits_first fs (drop 1 vs) n)

-- where all fields are decimals the words are the values
abbrev decimals : List FieldForm → Bool
decimals [] = true
decimals (Decimal limit ∷ fs) = decimals fs
decimals (Bits ∷ fs) = false

pub word_at : (fs : List FieldForm) (vs : List ℕ) → T (decimals fs) → (k : ℕ) → k < length fs → get_or (words_in fs vs) k 0 ≡ get_or vs k 0
unfolding words_in
word_at [] vs t k h = absurd (omega arith)
word_at (Decimal limit ∷ fs) vs t zero h = refl
word_at (Decimal limit ∷ fs) vs t (suc k) h = word_at fs (drop 1 vs) t k (omega arith) ∙ next_of vs k
word_at (Bits ∷ fs) vs t k h = absurd t

-- ---- one value, put

module _ {form : FieldForm} {limit : ℕ} (value : ℕ) (e : form ≡ Decimal limit) where
  pub decimal_bounded : Bounded form value → value ≤ max_word
  decimal_bounded b = let w : Bounded (Decimal limit) value = rw e at b in omega (arith, w.1)

  pub word_room : (r : Progress) → RoomFor (length (words_in (form ∷ []) (value ∷ []))) (length (bits_in (form ∷ []) (value ∷ []))) r → RoomFor 1 0 r
  unfolding words_in bits_in
  word_room r room = rw e at room

  pub word_put : {r q : Progress} {p₀ p₁ : List ℕ} {n₀ n₁ : List Float} → q ≡ with_word r → p₁ ≡ sets p₀ r.words (value ∷ []) → n₁ ≡ n₀
      → ValuesPut (form ∷ []) (value ∷ []) r q p₀ p₁ n₀ n₁
  unfolding words_in bits_in
  word_put {r} {q} {p₀} {p₁} {n₀} f p n = rw (e, f, n) (put_word value r p₀ p₁ n₀ p, (refl, refl))

module _ {form : FieldForm} (value : ℕ) (e : form ≡ Bits) where
  pub bits_bounded : Bounded form value → value < 2 ^ 32
  bits_bounded b = rw e at b

  pub number_room : (r : Progress) → RoomFor (length (words_in (form ∷ []) (value ∷ []))) (length (bits_in (form ∷ []) (value ∷ []))) r → RoomFor 0 1 r
  unfolding words_in bits_in
  number_room r room = rw e at room

  pub number_put : {r q : Progress} {p₀ p₁ : List ℕ} {n₀ n₁ : List Float} → q ≡ with_number r → p₁ ≡ p₀ → n₁ ≡ sets n₀ r.numbers (floats_of (value ∷ []))
      → ValuesPut (form ∷ []) (value ∷ []) r q p₀ p₁ n₀ n₁
  unfolding words_in bits_in
  number_put f same p = rw (e, f, same) (record { words = omega arith; numbers = refl; plan = refl; floats = p }, (refl, refl))

-- whatever stands past the last form
pub bounded_at : {kind : LineKind} {values : List ℕ} → LineValues kind values → (k : ℕ) (d : FieldForm) → k < field_count kind → Bounded (get_or (forms kind) k d) (get_or values k 0)
bounded_at {kind} v k d h = rw (get_or_default (forms kind) k d Bits h) (v.bounded k h)

-- ---- a line's first k values, put

pub record FirstPut (kind : LineKind) (values : List ℕ) (r : Progress) (p₀ : List ℕ) (n₀ : List Float) (q : Progress) (p₁ : List ℕ) (n₁ : List Float) (k : ℕ) : Type 0 where
  pub most : k ≤ field_count kind
  pub put : Put (words_in (take k (forms kind)) values) (bits_in (take k (forms kind)) values) r q p₀ p₁ n₀ n₁
  pub stays : Stays r q

module _ {kind : LineKind} {values : List ℕ} {r : Progress} {p₀ : List ℕ} {n₀ : List Float} where
  pub none_put : FirstPut kind values r p₀ n₀ r p₀ n₀ 0
  unfolding words_in bits_in
  none_put = record { most = omega arith; put = put_nothing r p₀ n₀; stays = (refl, refl) }

  module _ {q : Progress} {p₁ : List ℕ} {n₁ : List Float} {k : ℕ} (f : FirstPut kind values r p₀ n₀ q p₁ n₁ k) where
    pub room_left : k < field_count kind → (d : FieldForm) → RoomFor (length (words_in (forms kind) values)) (length (bits_in (forms kind) values)) r
        → RoomFor (length (words_in (get_or (forms kind) k d ∷ []) (get_or values k 0 ∷ []))) (length (bits_in (get_or (forms kind) k d ∷ []) (get_or values k 0 ∷ []))) q
    room_left h d room =
        let form = get_or (forms kind) k d in
        let l = length-take-le k (forms kind) (omega arith) in
        let more : take (suc k) (forms kind) ≡ take k (forms kind) ++ (form ∷ []) = take-suc (forms kind) k d h in
        let w = rw (more, words_more, l, length-append) at (words_first (forms kind) values (suc k)) in
        let b = rw (more, bits_more, l, length-append) at (bits_first (forms kind) values (suc k)) in
        omega (arith, room, w, b, f.put.words, f.put.numbers, f.stays)

    pub next_put : k < field_count kind → (d : FieldForm) (z : Progress) (p₂ : List ℕ) (n₂ : List Float)
        → ValuesPut (get_or (forms kind) k d ∷ []) (get_or values k 0 ∷ []) q z p₁ p₂ n₁ n₂
        → FirstPut kind values r p₀ n₀ z p₂ n₂ (k + 1)
    next_put h d z p₂ n₂ (put, still) =
        let l = length-take-le k (forms kind) (omega arith) in
        let more : take (suc k) (forms kind) ≡ take k (forms kind) ++ (get_or (forms kind) k d ∷ []) = take-suc (forms kind) k d h in
        record {
          most = omega arith;
          put = rw (add-one, more, words_more, bits_more, l) (put_more r q z p₀ p₁ p₂ n₀ n₁ n₂ _ _ _ _ f.put put);
          stays = (still.0 ∙ f.stays.0, still.1 ∙ f.stays.1);
        }

    pub all_put : field_count kind ≤ k → ValuesPut (forms kind) values r q p₀ p₁ n₀ n₁
    all_put h =
        let e : k ≡ field_count kind = omega arith in
        (rw (e, take-length (forms kind)) at f.put, f.stays)

-- ---- a line's values

module _ {kind : LineKind} {text values : List ℕ} {r : Progress} {at : ℕ} (l : LineAt kind text values r at) where
  law : LineLaw kind (drop r.at text) (take (field_count kind) values) (drop at text)
  law = line_law kind (drop r.at text) (take (field_count kind) values) (drop at text) l.reading

  pub line_values : LineValues kind values
  line_values =
      record {
        count = omega (arith, law.count, length-take (field_count kind) values);
        bounded = λ k h. rw (get_or-take (field_count kind) values k 0 h) at (law.value k h);
      }

  pub line_bytes : r.at + 3 + 2 * length (words_in (forms kind) values) + 9 * length (bits_in (forms kind) values) ≤ at
  line_bytes = omega (arith, rw (words_take, bits_take) at law.spent, length-drop r.at text, length-drop at text, l.here.inside, l.inside)

  pub line_here : InText text (behind_line r at)
  line_here = record { spent = omega (arith, line_bytes, l.here.spent); inside = l.inside }

  pub line_room : RoomFor (length (words_in (forms kind) values)) (length (bits_in (forms kind) values)) (behind_line r at)
  line_room = omega (arith, line_bytes, l.here.spent)

  -- ---- its reading, and its step

  pub line_read : read_line kind (drop r.at text) ≡ got (words_in (forms kind) values) (bits_in (forms kind) values) (drop at text) 1
  unfolding read_line from_line
  line_read = rw (l.reading, words_take, bits_take)

  module _ {q : Progress} {p₀ p₁ : List ℕ} {n₀ n₁ : List Float} (put : ValuesPut (forms kind) values (behind_line r at) q p₀ p₁ n₀ n₁) where
    pub line_steps : ReadAs text r p₀ p₁ n₀ n₁ (Ok q) (read_line kind (drop r.at text))
    unfolding ReadAs
    line_steps =
        let bytes = line_bytes in
        rw line_read record {
          left = rw put.1.0;
          inside = omega (arith, put.1.0, l.inside);
          spent = omega (arith, put.1.0);
          line = put.1.1;
          put = put_behind r q at put.0;
        }
