-- Where the words for an error end. Assumes nothing.
use Rattle.std.proofs.Common.{ℕ, suc, ◌≡◌, ◌≤◌, ◌<◌, refl, sym, ap, ◌∙◌, Bool, true, false, List, length, drop, get_or, nat_eq, arith, drop_of_length-le}
use Rattle.std.specs.Prelude.{◌||◌, cond, slice_range}
use Rattle.std.specs.List.{starts_with}
use Rattle.std.proofs.lemmas.Slice.{between_to_end}
use lib.Seq.{drop-cons}
use borrow.Author.Tests.{ne_eqb}
use Rattle.input_file.specs.Words.{number_mark, words_size}

-- what the library tests is what the text has from there on
pub marked : (text : List ℕ) (i : ℕ) {b : Bool} → b ≡ starts_with nat_eq (slice_range text i (length text)) number_mark → starts_with nat_eq (drop i text) number_mark ≡ b
marked text i e = sym (e ∙ ap (λ s. starts_with nat_eq s number_mark) (between_to_end text i (length text) (omega arith)))

ends : (p q : Bool) (n : ℕ) → q ≡ true → cond (p || q) 0 n ≡ 0
ends true q n e = refl
ends false q n e = rw e

module _ (text : List ℕ) (i : ℕ) (h : i < length text) where
  pub ends_at_zero : get_or text i 0 ≡ 0 → words_size (drop i text) ≡ 0
  unfolding words_size
  ends_at_zero e = rw (drop-cons text i 0 h, e)

  pub ends_at_mark : starts_with nat_eq (drop i text) number_mark ≡ true → words_size (drop i text) ≡ 0
  unfolding words_size
  ends_at_mark e = let m = rw (drop-cons text i 0 h) at e in rw (drop-cons text i 0 h) (ends _ _ _ m)

  pub goes_on : (get_or text i 0 ≡ 0 → ⊥) → starts_with nat_eq (drop i text) number_mark ≡ false → words_size (drop i text) ≡ suc (words_size (drop (suc i) text))
  unfolding words_size
  goes_on n e = let m = rw (drop-cons text i 0 h) at e in rw (drop-cons text i 0 h, ne_eqb _ 0 n, m)

pub ends_behind : (text : List ℕ) (i : ℕ) → length text ≤ i → words_size (drop i text) ≡ 0
unfolding words_size
ends_behind text i h = rw (drop_of_length-le text h)
