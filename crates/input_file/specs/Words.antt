-- The words for an error, in what the library writes of it. Definitions only.
use Rattle.std.specs.Prelude.{ℕ, suc, List, [], ◌∷◌, ◌||◌, cond, eqb, nat_eq}
use Rattle.std.specs.List.{starts_with}

-- ' (os error ', before an error's number
abbrev pub number_mark : List ℕ
number_mark = 32 ∷ 40 ∷ 111 ∷ 115 ∷ 32 ∷ 101 ∷ 114 ∷ 114 ∷ 111 ∷ 114 ∷ 32 ∷ []

-- how many bytes come before the number, and before the zeros that fill the text up
unfoldable pub words_size : List ℕ → ℕ
words_size [] = 0
words_size (b ∷ s) = cond (eqb b 0 || starts_with nat_eq (b ∷ s) number_mark) 0 (suc (words_size s))
