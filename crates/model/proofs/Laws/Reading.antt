-- Every reading uses up text: two bytes a word, nine a number. So a text says how long slices for its figure need to be.
use Rattle.std.specs.Prelude.{ℕ, zero, suc, ◌+◌, ◌*◌, ◌≤◌, ◌≡◌, refl, Bool, true, false, cond, List, [], ◌∷◌, ◌++◌, length, drop, eqb}
use Rattle.std.proofs.Common.{arith, subst, length-append}
use Rattle.model.specs.declared.LineKind.{LineKind}
use Rattle.model.specs.declared.LineKind.TheVariants.{Figure, Joint, Clip, State, Node, Go, Pose}
use Rattle.model.specs.Plan.{joint_count, clip_count, state_count}
use Rattle.model.specs.Text.{front, forms, words_in, bits_in, Line, malformed, line, line_in, Reading, bad, got, prefixed, and_then, times, from_line, read_line, from_state, read_state, read_end, pose_count, read_figure}
use Rattle.model.proofs.Laws.Text.{line_law}

unfoldable pub Uses : List ℕ → Reading → Type 0
Uses s (bad m) = Unit {0}
Uses s (got ws bs rest n) = 2 * length ws + 9 * length bs + length rest ≤ length s

uses_prefixed : (s ws bs rest : List ℕ) (n : ℕ) (r : Reading) → 2 * length ws + 9 * length bs + length rest ≤ length s → Uses rest r → Uses s (prefixed ws bs n r)
unfolding Uses prefixed
uses_prefixed s ws bs rest n (bad m) h u = tt
uses_prefixed s ws bs rest n (got ws' bs' rest' m) h u = omega (arith, h, u, length-append ws ws', length-append bs bs')

uses_then : (s : List ℕ) (r : Reading) (next : List ℕ → List ℕ → Reading) → Uses s r → ((ws t : List ℕ) → Uses t (next ws t)) → Uses s (and_then r next)
unfolding and_then Uses
uses_then s (bad m) next u later = tt
uses_then s (got ws bs rest n) next u later = uses_prefixed s ws bs rest n (next ws rest) u (later ws rest)

uses_times : (n : ℕ) (read : List ℕ → Reading) (s : List ℕ) → ((t : List ℕ) → Uses t (read t)) → Uses s (times n read s)
unfolding times Uses
uses_times zero read s each = omega arith
uses_times (suc n) read s each = uses_then s (times n read s) (λ _. read) (uses_times n read s each) (λ ws t. each t)

uses_line : (kind : LineKind) (s : List ℕ) → Uses s (read_line kind s)
unfolding read_line from_line Uses
uses_line kind s = go (line_in kind s) refl
  where
    go : (l : Line) → line_in kind s ≡ l → Uses s (from_line kind l)
    go malformed e = tt
    go (line vs rest) e =
        omega (arith, (line_law kind s vs rest e).spent)

-- K's line holds T as well, so two words' worth of text is left for when T is put
owed : (s rest bs : List ℕ) (k t : ℕ) → 4 + 9 * length bs + length rest ≤ length s → (r : Reading) → Uses rest r
    → Uses s (prefixed (k ∷ []) bs 1 (and_then r (λ _ u. prefixed (t ∷ []) [] 0 (times t (read_line Go) u))))
unfolding Uses and_then prefixed
owed s rest bs k t h (bad m) u = tt
owed s rest bs k t h (got ws bs' rest' n) u = gos (times t (read_line Go) rest') (uses_times t (read_line Go) rest' (uses_line Go))
  where
    gos : (r : Reading) → Uses rest' r → Uses s (prefixed (k ∷ []) bs 1 (prefixed ws bs' n (prefixed (t ∷ []) [] 0 r)))
    gos (bad m) v = tt
    gos (got ws'' bs'' rest'' m) v =
        omega (arith, h, u, v, length-append (k ∷ []) (ws ++ ((t ∷ []) ++ ws'')), length-append ws ((t ∷ []) ++ ws''), length-append bs (bs' ++ ([] ++ bs'')), length-append bs' ([] ++ bs''))

uses_state : (s : List ℕ) → Uses s (read_state s)
unfolding read_state from_state read_line from_line forms words_in bits_in Uses
uses_state s = go (line_in State s) refl
  where
    go : (l : Line) → line_in State s ≡ l → Uses s (from_state (from_line State l))
    go malformed e = tt
    go (line vs rest) e =
        let law = line_law State s vs rest e in
        let k = front vs in
        let t = front (drop 1 vs) in
        owed s rest [] k t (omega (arith, law.spent)) (times k (read_line Node) rest) (uses_times k (read_line Node) rest (uses_line Node))

uses_end : (s : List ℕ) → Uses s (read_end s)
unfolding read_end Uses
uses_end s = go (eqb (length s) 0)
  where
    go : (t : Bool) → Uses s (cond t (got [] [] [] 0) (bad 1))
    go true = omega arith
    go false = tt

pub uses_figure : (s : List ℕ) → Uses s (read_figure s)
unfolding read_figure
uses_figure s =
    uses_then s (read_line Figure s) _ (uses_line Figure s) (λ header s₁.
    uses_then s₁ (times (joint_count header) (read_line Joint) s₁) _ (uses_times (joint_count header) (read_line Joint) s₁ (uses_line Joint)) (λ _ s₂.
    uses_then s₂ (times (clip_count header) (read_line Clip) s₂) _ (uses_times (clip_count header) (read_line Clip) s₂ (uses_line Clip)) (λ clips s₃.
    uses_then s₃ (times (state_count header) read_state s₃) _ (uses_times (state_count header) read_state s₃ uses_state) (λ _ s₄.
    uses_then s₄ (times (pose_count header clips) (read_line Pose) s₄) _ (uses_times (pose_count header clips) (read_line Pose) s₄ (uses_line Pose)) (λ _ s₅.
    uses_end s₅)))))

pub figure_fits : (text ws bs rest : List ℕ) (n : ℕ) → read_figure text ≡ got ws bs rest n → 2 * length ws + 9 * length bs ≤ length text
unfolding Uses
figure_fits text ws bs rest n e = let u : 2 * length ws + 9 * length bs + length rest ≤ length text = subst (Uses text) e (uses_figure text) in omega arith
