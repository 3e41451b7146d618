-- How steps of a reading follow one another, over plain values. Assumes nothing.
use Prim.Native.Nat.{ℕ, ◌+◌, ◌≤◌}
use native.Mathlib.Nat.{zero-add}
use native.Mathlib.Omega.{arith}
use mathlib.Core.Path.{◌≡◌, refl, ◌∙◌}
use mathlib.Core.List.{List, [], ◌∷◌, ◌++◌, map-append}
use Rattle.std.specs.Prelude.{Ok, Err}
use lib.Ieee.{Float, binary32, of_bits}
use lib.ListN.{length, drop, length-append, length-map}
use lib.Seq.{sets, sets-eq}
use Rattle.model.specs.Text.{Reading, bad, got, prefixed, and_then, floats_of, read_words}
use Rattle.text.specs.declared.put.Progress.{Progress}
use Rattle.text.specs.declared.put.Malformed.{Malformed}
use Rattle.model.proofs.Laws.Stores.{sets-append}
use Rattle.text.specs.Steps.{InText, behind_line, with_word, Put, Moved, Step, ReadAs}

-- ---- what is put

pub at_front : {A : Type 0} (xs us : List A) → length us ≤ length xs → sets xs 0 us ≡ us ++ drop (length us) xs
at_front xs us h = sets-eq us xs 0 (omega arith) ∙ rw zero-add

module _ {ℓ} {A : Type ℓ} where
  -- stores behind those that were made before
  pub sets_more : (xs ys zs : List A) (n m : ℕ) (us vs : List A) → ys ≡ sets xs n us → m ≡ n + length us → zs ≡ sets ys m vs → zs ≡ sets xs n (us ++ vs)
  sets_more xs ys zs n m us vs p e q = q ∙ rw (p, e) (sets-append xs n us vs)

-- what is put behind what was put before
module _ (r q z : Progress) (p₀ p₁ p₂ : List ℕ) (n₀ n₁ n₂ : List Float) (ws bs ws' bs' : List ℕ) where
  pub put_more : Put ws bs r q p₀ p₁ n₀ n₁ → Put ws' bs' q z p₁ p₂ n₁ n₂ → Put (ws ++ ws') (bs ++ bs') r z p₀ p₂ n₀ n₂
  put_more a b =
      let lw = length-append ws ws' in
      let lb = length-append bs bs' in
      let lf : length (floats_of bs) ≡ length bs = length-map bs (of_bits binary32) in
      record {
        words = omega arith;
        numbers = omega arith;
        plan = sets_more p₀ p₁ p₂ r.words q.words ws ws' a.plan a.words b.plan;
        floats = rw map-append (sets_more n₀ n₁ n₂ r.numbers q.numbers (floats_of bs) (floats_of bs') a.floats (omega arith) b.floats);
      }

pub put_nothing : (r : Progress) (p : List ℕ) (n : List Float) → Put [] [] r r p p n n
put_nothing r p n = record { words = omega arith; numbers = omega arith; plan = refl; floats = refl }

pub put_word : (v : ℕ) (r : Progress) (p₀ p₁ : List ℕ) (n : List Float) → p₁ ≡ sets p₀ r.words (v ∷ []) → Put (v ∷ []) [] r (with_word r) p₀ p₁ n n
put_word v r p₀ p₁ n e = record { words = refl; numbers = omega arith; plan = e; floats = refl }

-- behind the line nothing is put yet
pub put_behind : {ws bs p₀ p₁ : List ℕ} {n₀ n₁ : List Float} (r q : Progress) (at : ℕ) → Put ws bs (behind_line r at) q p₀ p₁ n₀ n₁ → Put ws bs r q p₀ p₁ n₀ n₁
put_behind r q at put = record { words = put.words; numbers = put.numbers; plan = put.plan; floats = put.floats }

-- ---- one reading after another

-- after a bad line nothing is read
pub stops : (text : List ℕ) (r : Progress) (p₀ p₁ : List ℕ) (n₀ n₁ : List Float) (m : Malformed) (x : Reading) (next : List ℕ → List ℕ → Reading)
    → ReadAs text r p₀ p₁ n₀ n₁ (Err m) x → ReadAs text r p₀ p₁ n₀ n₁ (Err m) (and_then x next)
unfolding ReadAs and_then
stops text r p₀ p₁ n₀ n₁ m (got ws bs rest n) next a = absurd a
stops text r p₀ p₁ n₀ n₁ m (bad n) next a = a

pub arrives : (text : List ℕ) (r q : Progress) (p₀ p₁ : List ℕ) (n₀ n₁ : List Float) (x : Reading)
    → ReadAs text r p₀ p₁ n₀ n₁ (Ok q) x → InText text r → InText text q
unfolding ReadAs
arrives text r q p₀ p₁ n₀ n₁ (got ws bs rest n) a i = record { spent = omega arith; inside = a.inside }
arrives text r q p₀ p₁ n₀ n₁ (bad n) a i = absurd a

-- to stay is a step too
pub moved_nothing : (text : List ℕ) (r : Progress) (rest p : List ℕ) (n : List Float) → InText text r → rest ≡ drop r.at text → Moved text [] [] rest 0 r r p p n n
moved_nothing text r rest p n h e = record { left = e; inside = h.inside; spent = omega arith; line = omega arith; put = put_nothing r p n }

module _ (text : List ℕ) (r q : Progress) (p₀ p₁ p₂ : List ℕ) (n₀ n₁ n₂ : List Float) where
  moved_more : (ws bs rest ws' bs' rest' : List ℕ) (n m : ℕ) (z : Progress)
      → Moved text ws bs rest n r q p₀ p₁ n₀ n₁ → Moved text ws' bs' rest' m q z p₁ p₂ n₁ n₂ → Moved text (ws ++ ws') (bs ++ bs') rest' (n + m) r z p₀ p₂ n₀ n₂
  moved_more ws bs rest ws' bs' rest' n m z a b =
      let lw = length-append ws ws' in
      let lb = length-append bs bs' in
      record { left = b.left; inside = b.inside; spent = omega arith; line = omega arith; put = put_more r q z p₀ p₁ p₂ n₀ n₁ n₂ ws bs ws' bs' a.put b.put }

  -- what is read behind what was read before
  pub follows : (ws bs : List ℕ) (n : ℕ) (step : Step) (x : Reading) → Moved text ws bs (drop q.at text) n r q p₀ p₁ n₀ n₁
      → ReadAs text q p₁ p₂ n₁ n₂ step x → ReadAs text r p₀ p₂ n₀ n₂ step (prefixed ws bs n x)
  unfolding ReadAs prefixed
  follows ws bs n (Ok z) (got ws' bs' rest m) a b = moved_more ws bs (drop q.at text) ws' bs' rest n m z a b
  follows ws bs n (Ok z) (bad m) a b = b
  follows ws bs n (Err l) (got ws' bs' rest m) a b = b
  follows ws bs n (Err l) (bad m) a b = omega arith

  pub goes : (x : Reading) (next : List ℕ → List ℕ → Reading) (last : Step) → ReadAs text r p₀ p₁ n₀ n₁ (Ok q) x
      → ReadAs text q p₁ p₂ n₁ n₂ last (next (read_words x) (drop q.at text)) → ReadAs text r p₀ p₂ n₀ n₂ last (and_then x next)
  unfolding ReadAs and_then read_words
  goes (got ws bs rest n) next last a b = follows ws bs n last (next ws rest) (rw a.left at a) (rw a.left b)
  goes (bad n) next last a b = absurd a
