-- Lines in a row: the places of their words and bits, and their text.
use Rattle.std.specs.Prelude.{ℕ, suc, ◌+◌, ◌≡◌, List}
use Rattle.model.specs.declared.LineKind.{LineKind}
use Rattle.model.specs.Text.{forms}
use Rattle.model.proofs.Laws.Text.{word_count, bits_count}
use Rattle.model.specs.Program.{joined, part, line_text}
use Rattle.round_trip.proofs.Laws.Lines.{Within}

-- a line whose words stand at a and whose bits stand at c
module _ (plan bits : List ℕ) (kind : LineKind) (a c : ℕ) where
  abbrev pub line_words : List ℕ
  line_words = part plan a (word_count (forms kind))

  abbrev pub line_bits : List ℕ
  line_bits = part bits c (bits_count (forms kind))

  abbrev pub line_at : List ℕ
  line_at = line_text kind line_words line_bits

  abbrev pub WithinAt : Type 0
  WithinAt = Within (forms kind) line_words line_bits

-- n lines, whose words stand from a to b and whose bits stand from c to d
pub record Row (kind : LineKind) (n : ℕ) (at bt : ℕ → ℕ) (a b c d : ℕ) : Type 0 where
  pub words_next : (i : ℕ) → at i + word_count (forms kind) ≡ at (suc i)
  pub bits_next : (i : ℕ) → bt i + bits_count (forms kind) ≡ bt (suc i)
  pub words_first : at 0 ≡ a
  pub words_last : at n ≡ b
  pub bits_first : bt 0 ≡ c
  pub bits_last : bt n ≡ d

abbrev pub row_text : List ℕ → List ℕ → LineKind → ℕ → (ℕ → ℕ) → (ℕ → ℕ) → List ℕ
row_text plan bits kind n at bt = joined n (λ i. line_at plan bits kind (at i) (bt i))
