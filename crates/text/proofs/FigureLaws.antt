-- The parts of a figure: how their steps follow one another, over plain values. Assumes nothing.
use Prim.Native.Nat.{ℕ, suc, ◌+◌, ◌*◌, ◌≤◌, ◌<◌, ◌^◌}
use native.Mathlib.Nat.{mul-le-mul}
use native.Mathlib.Numerals.{add-one}
use native.Mathlib.Omega.{arith}
use mathlib.Core.Path.{◌≡◌, refl, sym}
use mathlib.Core.List.{List, [], ◌∷◌, ◌++◌}
use lib.Ieee.{Float}
use lib.ListN.{length, get_or, drop, length-drop, length-append, drop_of_length-le, get_or-append}
use lib.Seq.{sets, get_or-append_seam}
use borrow.Author.Tests.{eq-eqb, ne_eqb}
use Rattle.model.specs.declared.LineKind.TheVariants.{Clip, State, Node, Go}
use Rattle.model.specs.Text.{max_word, front, forms, malformed, line_in, words_in, bits_in, Reading, bad, got, prefixed, and_then, times, from_line, read_line, from_state, read_state, read_end, read_words, samples_in}
use Rattle.model.specs.Plan.{max_joints, max_clips, max_samples, clip_words, total}
use Rattle.model.proofs.Laws.Totals.{total_same}
use Rattle.std.specs.Prelude.{Result, Ok, Err}
use Rattle.text.specs.declared.put.Progress.{Progress}
use Rattle.text.specs.declared.put.Malformed.{Malformed}
use Rattle.text.specs.Figures.{sampled, read_poses, read_motion}
use Rattle.text.specs.declared.put.Reader.{Reader}
use Rattle.text.specs.Readers.{RoomFor, ReadTo}
use Rattle.text.proofs.ReaderLaws.{same_on, stops_at}
use Rattle.text.specs.Steps.{InText, behind_line, with_word, LineAt, Put, Step, ReadAs}
use Rattle.text.proofs.Laws.{put_more, put_word, put_behind, follows, goes, stops, moved_nothing}
use Rattle.text.proofs.LineLaws.{next_of, line_read, line_bytes, line_values}

-- ---- the end

module _ (text : List ℕ) (r : Progress) (p : List ℕ) (n : List Float) where
  pub end_stops : r.at < length text → ReadAs text r p p n n (Err (record { line = r.line + 1 })) (read_end (drop r.at text))
  unfolding ReadAs read_end
  end_stops h = rw (ne_eqb (length (drop r.at text)) 0 (λ e. omega (arith, length-drop r.at text)))

  pub end_steps : InText text r → length text ≤ r.at → ReadAs text r p p n n (Ok r) (read_end (drop r.at text))
  unfolding ReadAs read_end
  end_steps i h = rw (eq-eqb (length (drop r.at text)) 0 (omega (arith, length-drop r.at text))) (moved_nothing text r [] p n i (sym (drop_of_length-le text h)))

-- ---- a state: its counts stand in one line of the text, and apart in the plan

pub state_stops : (text : List ℕ) (r : Progress) (p₀ p₁ : List ℕ) (n₀ n₁ : List Float) (m : Malformed) → m.line ≡ r.line + 1 → line_in State (drop r.at text) ≡ malformed
    → ReadAs text r p₀ p₁ n₀ n₁ (Err m) (read_state (drop r.at text))
unfolding ReadAs read_state from_state read_line from_line
state_stops text r p₀ p₁ n₀ n₁ m e t = rw t e

module _ {text values : List ℕ} {r : Progress} {at : ℕ} (l : LineAt State text values r at) where
  abbrev nodes : ℕ
  nodes = get_or values 0 0

  abbrev transitions : ℕ
  transitions = get_or values 1 0

  -- behind the line, with the count of nodes put into the plan
  abbrev pub first : Progress
  first = with_word (behind_line r at)

  bytes : r.at + 7 ≤ at
  unfolding forms words_in bits_in
  bytes = omega (arith, line_bytes l)

  pub first_room : RoomFor 1 0 (behind_line r at)
  first_room = let b = bytes in omega (arith, l.here.spent)

  after_nodes : List ℕ → Reading
  after_nodes s = prefixed (transitions ∷ []) [] 0 (times transitions (read_line Go) s)

  state_read : read_state (drop r.at text) ≡ prefixed (nodes ∷ []) [] 1 (and_then (times nodes (read_line Node) (drop at text)) (λ _. after_nodes))
  unfolding read_state from_state forms words_in bits_in after_nodes
  state_read = rw (line_read l, next_of values 0)

  pub counts_small : (nodes ≤ max_word) × (transitions ≤ max_word)
  unfolding forms
  counts_small = (omega (arith, ((line_values l).bounded 0 (omega arith)).1), omega (arith, ((line_values l).bounded 1 (omega arith)).1))

  -- behind the nodes, which begin at f
  module _ (h f : Progress) (line : h ≡ behind_line r at) (begun : f ≡ with_word h) (p₁ p₂ : List ℕ) (n₀ n₁ : List Float) where
    nodes_read : (step : Step) → ReadAs text f p₁ p₂ n₀ n₁ step (times nodes (read_line Node) (drop f.at text))
        → ReadAs text first p₁ p₂ n₀ n₁ step (times nodes (read_line Node) (drop at text))
    nodes_read step a = rw (begun, line) at a

    -- the line had room for the count of transitions too
    pub room_behind : (q : Progress) → ReadAs text f p₁ p₂ n₀ n₁ (Ok q) (times nodes (read_line Node) (drop f.at text)) → RoomFor 1 0 q
    unfolding ReadAs
    room_behind q a = to (times nodes (read_line Node) (drop at text)) (nodes_read (Ok q) a)
      where
        to : (x : Reading) → ReadAs text first p₁ p₂ n₀ n₁ (Ok q) x → RoomFor 1 0 q
        to (got ws bs rest n) m = let b = bytes in omega (arith, l.here.spent, m.spent, m.line, m.put.words, m.put.numbers)
        to (bad n) m = absurd m

    module _ (p₀ : List ℕ) (put : p₁ ≡ sets p₀ h.words (nodes ∷ [])) where
      counted : Put (nodes ∷ []) [] r first p₀ p₁ n₀ n₀
      counted = put_behind r first at (put_word nodes (behind_line r at) p₀ p₁ n₀ (rw line at put))

      pub nodes_stop : (m : Malformed) → ReadAs text f p₁ p₂ n₀ n₁ (Err m) (times nodes (read_line Node) (drop f.at text)) → ReadAs text r p₀ p₂ n₀ n₁ (Err m) (read_state (drop r.at text))
      nodes_stop m a =
          let b = bytes in
          rw state_read (follows text r first p₀ p₁ p₂ n₀ n₀ n₁ (nodes ∷ []) [] 1 (Err m) _
          record { left = refl; inside = l.inside; spent = omega arith; line = refl; put = counted }
          (stops text first p₁ p₂ n₀ n₁ m (times nodes (read_line Node) (drop at text)) (λ _. after_nodes) (nodes_read (Err m) a)))

      pub state_steps : (q g : Progress) (p₃ p₄ : List ℕ) (n₂ : List Float) (last : Step) → ReadAs text f p₁ p₂ n₀ n₁ (Ok q) (times nodes (read_line Node) (drop f.at text))
          → g ≡ with_word q → p₃ ≡ sets p₂ q.words (transitions ∷ [])
          → ReadAs text g p₃ p₄ n₁ n₂ last (times transitions (read_line Go) (drop g.at text)) → ReadAs text r p₀ p₄ n₀ n₂ last (read_state (drop r.at text))
      unfolding ReadAs prefixed and_then after_nodes
      state_steps q g p₃ p₄ n₂ last a first-go then b = rw state_read (of (times nodes (read_line Node) (drop at text)) (nodes_read (Ok q) a))
        where
          of : (x : Reading) → ReadAs text first p₁ p₂ n₀ n₁ (Ok q) x → ReadAs text r p₀ p₄ n₀ n₂ last (prefixed (nodes ∷ []) [] 1 (and_then x (λ _. after_nodes)))
          of (bad n) m = absurd m
          of (got ws bs rest n) m = rw m.left (both last (times transitions (read_line Go) (drop q.at text)) (rw first-go at b))
            where
              both : (last : Step) (y : Reading) → ReadAs text (with_word q) p₃ p₄ n₁ n₂ last y
                  → ReadAs text r p₀ p₄ n₀ n₂ last (prefixed (nodes ∷ []) [] 1 (prefixed ws bs n (prefixed (transitions ∷ []) [] 0 y)))
              both (Ok z) (bad k) g = g
              both (Err k) (got vs cs left k') g = g
              both (Err k) (bad k') g = omega arith
              both (Ok z) (got vs cs left k) g =
                  let room = bytes in
                  let lw = length-append ws (transitions ∷ vs) in
                  let lb = length-append bs cs in
                  record {
                    left = g.left;
                    inside = g.inside;
                    spent = omega (arith, m.spent, g.spent);
                    line = omega arith;
                    put = put_more r first z p₀ p₁ p₄ n₀ n₀ n₂ (nodes ∷ []) [] (ws ++ (transitions ∷ vs)) (bs ++ cs) counted
                        (put_more first q z p₁ p₂ p₄ n₀ n₁ n₂ ws bs (transitions ∷ vs) cs m.put
                        (put_more q (with_word q) z p₂ p₃ p₄ n₁ n₁ n₂ (transitions ∷ []) [] vs cs (put_word transitions q p₂ p₃ n₁ then) g.put));
                  }

-- ---- clips, whose samples are summed up

-- with the words of one more clip behind those of n
samples_more : (ws : List ℕ) (n v ending : ℕ) → length ws ≡ clip_words * n → samples_in (ws ++ (v ∷ ending ∷ [])) (suc n) ≡ samples_in ws n + v
unfolding total
samples_more ws n v ending e =
    let more = ws ++ (v ∷ ending ∷ []) in
    let same : samples_in more n ≡ samples_in ws n =
    total_same (λ c. get_or more (clip_words * c) 0) (λ c. get_or ws (clip_words * c) 0) n (λ c less. get_or-append ws (v ∷ ending ∷ []) 0 (clip_words * c) (omega arith)) in
    let new : get_or more (clip_words * n) 0 ≡ v = rw (← e) (get_or-append_seam ws v (ending ∷ []) 0) in
    rw (same, new)

module _ {text values : List ℕ} {q : Progress} {at : ℕ} (l : LineAt Clip text values q at) where
  pub few_samples : get_or values 0 0 ≤ max_samples
  unfolding forms
  few_samples = ((line_values l).bounded 0 (omega arith)).0

  pub sampled_next : (r : Progress) (p₀ p₁ : List ℕ) (n₀ n₁ : List Float) (i m : ℕ)
      → ReadAs text r p₀ p₁ n₀ n₁ (Ok q) (times i (read_line Clip) (drop r.at text)) → sampled i m (times i (read_line Clip) (drop r.at text))
      → sampled (i + 1) (m + get_or values 0 0) (times (i + 1) (read_line Clip) (drop r.at text))
  unfolding ReadAs sampled and_then prefixed times forms words_in bits_in
  sampled_next r p₀ p₁ n₀ n₁ i m a b = rw add-one (more (times i (read_line Clip) (drop r.at text)) a b)
    where
      more : (x : Reading) → ReadAs text r p₀ p₁ n₀ n₁ (Ok q) x → sampled i m x → sampled (suc i) (m + get_or values 0 0) (and_then x (λ _. read_line Clip))
      more (bad n) a b = absurd a
      more (got ws bs rest n) a b =
          let few = few_samples in
          let sum = samples_more ws i (get_or values 0 0) (front (drop 1 (drop 1 values))) b.0 in
          rw (a.left, line_read l, length-append, sum) (omega arith, omega arith, omega arith)

pub sampled_start : (s : List ℕ) → sampled 0 0 (times 0 (read_line Clip) s)
unfolding sampled times total
sampled_start s = (refl, refl, omega arith)

pub sampled_ends : (s : List ℕ) (i count m : ℕ) → sampled i m (times i (read_line Clip) s) → i ≤ count → count ≤ i → sampled count m (times count (read_line Clip) s)
sampled_ends s i count m a h k = let e : count ≡ i = omega arith in rw e a

-- ---- clips, states and poses

pub sampled_sum : (text : List ℕ) (r q : Progress) (p₀ p₁ : List ℕ) (n₀ n₁ : List Float) (x : Reading) (count m : ℕ)
    → ReadAs text r p₀ p₁ n₀ n₁ (Ok q) x → sampled count m x → (m ≡ samples_in (read_words x) count) × (m ≤ count * max_samples)
unfolding ReadAs sampled read_words
sampled_sum text r q p₀ p₁ n₀ n₁ (got ws bs rest n) count m a b = (b.1, b.2)
sampled_sum text r q p₀ p₁ n₀ n₁ (bad n) count m a b = absurd a

pub poses_fit : (m joints clips : ℕ) → m ≤ clips * max_samples → clips ≤ max_clips → joints ≤ max_joints → m * joints < 2 ^ 64
poses_fit m joints clips h k l = let few : m ≤ 65536 = omega arith in omega (arith, mul-le-mul few l)

module _ (joints clips states : ℕ) {B : Type 0} {a b : Reader} where
  pub clips_stop : {m : Malformed} → ReadTo {A = ℕ} (times clips (read_line Clip)) a b (Err m) → ReadTo {A = B} (read_motion joints clips states) a b (Err m)
  unfolding read_motion
  clips_stop t = stops_at _ t

  -- behind m samples come the states and m poses of each joint
  pub clips_then : {c : Reader} {m : ℕ} {r : Result B Malformed} → ReadTo (times clips (read_line Clip)) a b (Ok m) → sampled clips m (times clips (read_line Clip) (drop a.progress.at a.text.now))
      → ReadTo (λ s. and_then (times states read_state s) (λ _. read_poses (m * joints))) b c r → ReadTo (read_motion joints clips states) a c r
  unfolding read_motion
  clips_then s few t =
      let sum = (sampled_sum _ _ _ _ _ _ _ (times clips (read_line Clip) (drop a.progress.at a.text.now)) clips _ s.step few).0 in
      record { same = same_on s.same t.same; step = goes _ _ _ _ _ _ _ _ _ (times clips (read_line Clip) (drop a.progress.at a.text.now)) _ _ s.step (rw sum at (rw s.same.text at t.step)) }
