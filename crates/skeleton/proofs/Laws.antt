-- Matrices one after the other in the output: how one is stored and read back, and what a turn of each loop adds. Assumes nothing.
use Prim.Native.Nat.{ℕ, zero, suc, ◌+◌, ◌*◌, ◌≤◌, ◌<◌}
use mathlib.Core.Path.{◌≡◌, refl, ap, ◌∙◌}
use mathlib.Core.Bool.{Bool, true, false, cond}
use mathlib.Core.List.{List, [], ◌∷◌, ◌++◌, append_assoc, append-nil}
use native.Mathlib.Omega.{arith}
use native.Mathlib.Numerals.{add-one}
use native.Mathlib.Nat.{add-zero}
use lib.Ieee.{Float}
use lib.ListN.{length, get_or, set, take, drop, length-append}
use lib.Seq.{length-take-le, drop-append-add, take_at, drop_at, drop-drop, sets-eq}
use Rattle.model.specs.declared.Pose.{Pose}
use Rattle.model.specs.declared.Matrix4.{Matrix4}
use Rattle.model.specs.declared.FrameKind.{FrameKind}
use Rattle.model.specs.Rotations.{identity_matrix, product, floats}
use Rattle.model.specs.Pose.{to_matrix}
use Rattle.model.specs.Plan.{joint_count, parent, is_root, output_at}
use Rattle.model.specs.Table.{table_to}
use Rattle.model.specs.Skeleton.{own_matrix, parent_matrix, joint_matrix, joint_matrices, flat}
use Rattle.model.proofs.Laws.Table.{table_length}
use Rattle.model.proofs.Laws.Passed.{parent_earlier}
use Rattle.layout.specs.Layout.{Passes}
use Rattle.lanes.specs.Lanes.{lane_at}
use Rattle.skeleton.specs.Buffer.{row_from, matrix_from, row_floats, stored, parent_in, joints_written, own_matrices, own_behind, OwnMatrices, Multiplied, GlobalPoses}

-- ---- stores

-- four single stores
pub stored_four : (l : List Float) (k : ℕ) (a b c d : Float) → k + 4 ≤ length l → set (set (set (set l k a) (k + 1) b) (k + 2) c) (k + 3) d ≡ stored l k (a ∷ b ∷ c ∷ d ∷ [])
unfolding stored
stored_four l k a b c d room =
    let e₁ : k + 1 ≡ suc k = omega arith in
    let e₂ : k + 2 ≡ suc (suc k) = omega arith in
    let e₃ : k + 3 ≡ suc (suc (suc k)) = omega arith in
    rw (e₁, e₂, e₃) (sets-eq (a ∷ b ∷ c ∷ d ∷ []) l k room ∙ append_assoc (take k l) (a ∷ b ∷ c ∷ d ∷ []) (drop (k + 4) l))

-- a store where the second of two lists begins
stored_behind : (front back xs : List Float) (k : ℕ) → length front ≡ k → stored (front ++ back) k xs ≡ front ++ (xs ++ drop (length xs) back)
unfolding stored
stored_behind front back xs k e = rw (take_at front back k e, ← e, drop-append-add front back (length xs))

-- one store and another right behind it
stored_twice : (l xs ys : List Float) (k : ℕ) → k + length xs ≤ length l → stored (stored l k xs) (k + length xs) ys ≡ stored l k (xs ++ ys)
unfolding stored
stored_twice l xs ys k room =
    let rest = drop (k + length xs) l in
    let n : length (take k l ++ xs) ≡ k + length xs = length-append (take k l) xs ∙ ap (λ (m : ℕ). m + length xs) (length-take-le k l (omega arith)) in
    let e : k + length xs + length ys ≡ k + length (xs ++ ys) = omega (arith, length-append xs ys) in
    rw (← append_assoc (take k l) xs rest) (stored_behind (take k l ++ xs) rest ys (k + length xs) n ∙ rw (drop-drop (length ys) (k + length xs) l, e, append_assoc (take k l) xs, append_assoc xs ys))

-- a matrix row by row
pub stored_rows : (m : Matrix4) (k : ℕ) (l : List Float) {l₁ l₂ l₃ l₄ : List Float} → k + output_at 1 ≤ length l
    → l₁ ≡ stored l k (row_floats m.r0) → l₂ ≡ stored l₁ (k + 4) (row_floats m.r1) → l₃ ≡ stored l₂ (k + 8) (row_floats m.r2) → l₄ ≡ stored l₃ (k + 12) (row_floats m.r3)
    → l₄ ≡ stored l k (floats m)
unfolding floats
stored_rows m k l room e₁ e₂ e₃ e₄ =
    let a = row_floats m.r0 in
    let b = row_floats m.r1 in
    let c = row_floats m.r2 in
    rw (e₄, e₃, e₂, e₁, stored_twice l a b k (omega arith), stored_twice l (a ++ b) c k (omega arith), stored_twice l (a ++ b ++ c) (row_floats m.r3) k (omega arith))

-- ---- matrices one after the other

flat_length : (ms : List Matrix4) (n : ℕ) → length ms ≡ n → length (flat ms) ≡ output_at n
unfolding flat floats
flat_length [] n e = omega arith
flat_length (m ∷ ms) zero e = absurd (omega arith)
flat_length (m ∷ ms) (suc n) e = omega (arith, length-append (floats m) (flat ms), flat_length ms n (omega arith))

flat_append : (ms ns : List Matrix4) → flat (ms ++ ns) ≡ flat ms ++ flat ns
unfolding flat
flat_append [] ns = refl
flat_append (m ∷ ms) ns = rw (flat_append ms ns, append_assoc (floats m) (flat ms) (flat ns))

flat_more : (ms : List Matrix4) (m : Matrix4) (rest : List Float) → flat (ms ++ (m ∷ [])) ++ rest ≡ flat ms ++ (floats m ++ rest)
unfolding flat
flat_more ms m rest = rw (flat_append ms (m ∷ []), append-nil (floats m), append_assoc (flat ms) (floats m) rest)

-- the matrix stored behind n others
stored_next : (ms : List Matrix4) (m : Matrix4) (back : List Float) (n : ℕ) → length ms ≡ n → stored (flat ms ++ back) (output_at n) (floats m) ≡ flat (ms ++ (m ∷ [])) ++ drop 16 back
unfolding floats
stored_next ms m back n e = rw (stored_behind (flat ms) back (floats m) (output_at n) (flat_length ms n e), flat_more ms m (drop 16 back))

-- the matrix read behind n others
read_next : (ms : List Matrix4) (m : Matrix4) (rest : List Float) (n : ℕ) → length ms ≡ n → matrix_from (drop (output_at n) (flat ms ++ (floats m ++ rest))) ≡ m
unfolding floats matrix_from row_from
read_next ms m rest n e = rw (drop_at (flat ms) (floats m ++ rest) (output_at n) (flat_length ms n e))

-- one of them read back
read_back : (ms : List Matrix4) (p : ℕ) (rest : List Float) → p < length ms → matrix_from (drop (output_at p) (flat ms ++ rest)) ≡ get_or ms p identity_matrix
unfolding flat floats matrix_from row_from
read_back [] p rest h = absurd (omega arith)
read_back (m ∷ ms) zero rest h = refl
read_back (m ∷ ms) (suc p) rest h =
    let e : 16 * suc p ≡ 16 + 16 * p = omega arith in
    rw (e, append_assoc (floats m) (flat ms) rest, drop-append-add (floats m) (flat ms ++ rest) (16 * p)) (read_back ms p rest (omega arith))

-- ---- joints

cond_else : {A : Type 0} (b : Bool) (x y z : A) → (b ≡ false → y ≡ z) → cond b x y ≡ cond b x z
cond_else true x y z h = refl
cond_else false x y z h = h refl

-- the parent's matrix is read back, since the parent is among the first j
parent_back : (plan : List ℕ) (j : ℕ) (ms : List Matrix4) (rest : List Float) → length ms ≡ j → (is_root plan j ≡ false → parent plan j < j)
    → parent_in plan (flat ms ++ rest) j ≡ parent_matrix plan ms j
unfolding parent_in parent_matrix
parent_back plan j ms rest e earlier =
    cond_else (is_root plan j) identity_matrix _ _ (λ t. read_back ms (parent plan j) rest (rw e (earlier t)))

-- the buffer after the product of joint j, whose own matrix stands behind the others
joint_more : (kind : FrameKind) (plan : List ℕ) (pose_of : ℕ → Pose) (j n : ℕ) (old : List Float) → (is_root plan j ≡ false → parent plan j < j)
    → let buffer = own_behind kind pose_of (joint_matrices kind plan pose_of j) j (suc n) old in
    stored buffer (output_at j) (floats (product (parent_in plan buffer j) (matrix_from (drop (output_at j) buffer))))
    ≡ own_behind kind pose_of (joint_matrices kind plan pose_of (j + 1)) (j + 1) n old
unfolding own_behind own_matrices joint_matrices joint_matrix table_to flat floats
joint_more kind plan pose_of j n old earlier =
    let ms = table_to (joint_matrix kind plan pose_of) j in
    let own = own_matrix kind (to_matrix (pose_of j)) in
    let rest = flat (own_matrices kind pose_of (suc j) n) ++ drop (output_at (j + suc n)) old in
    let len : length ms ≡ j = table_length (joint_matrix kind plan pose_of) j in
    let s : 16 * (suc j + n) ≡ 16 * (j + suc n) = omega arith in
    rw (
      append_assoc (floats own) (flat (own_matrices kind pose_of (suc j) n)) (drop (output_at (j + suc n)) old),
      parent_back plan j ms (floats own ++ rest) len earlier,
      read_next ms own rest j len,
      stored_next ms (joint_matrix kind plan pose_of ms j) (floats own ++ rest) j len,
      add-one j,
      s,
    )

cond_same : {A : Type 0} (b : Bool) (x : A) → cond b x x ≡ x
cond_same true x = refl
cond_same false x = refl

-- the buffer after the first joint: none is before it, so its parent's matrix is the identity whatever the plan says
pub root_written : (kind : FrameKind) (plan : List ℕ) (pose_of : ℕ → Pose) (old : List Float) → stored old 0 (floats (product identity_matrix (own_matrix kind (to_matrix (pose_of 0))))) ≡ joints_written kind plan pose_of 1 old
unfolding joints_written joint_matrices joint_matrix parent_matrix table_to flat
root_written kind plan pose_of old =
    rw (cond_same (is_root plan 0) identity_matrix) (stored_next [] (product identity_matrix (own_matrix kind (to_matrix (pose_of 0)))) old 0 refl)

-- ---- own matrices. `OwnMatrices` of the first i lanes is the loop's invariant

module _ (kind : FrameKind) (pose_of : ℕ → Pose) where
  own_length : (j n : ℕ) → length (own_matrices kind pose_of j n) ≡ n
  unfolding own_matrices
  own_length j zero = refl
  own_length j (suc n) = omega (arith, own_length (suc j) n)

  own_last : (j n : ℕ) → own_matrices kind pose_of j n ++ (own_matrix kind (to_matrix (pose_of (j + n))) ∷ []) ≡ own_matrices kind pose_of j (suc n)
  unfolding own_matrices
  own_last j zero = rw (add-zero j)
  own_last j (suc n) =
      let s : j + suc n ≡ suc j + n = omega arith in
      rw s (ap (λ (l : List Matrix4). own_matrix kind (to_matrix (pose_of j)) ∷ l) (own_last (suc j) n))

  -- the buffer after one store more
  own_more : (ms : List Matrix4) (j n : ℕ) (old : List Float) → length ms ≡ j
      → stored (own_behind kind pose_of ms j n old) (output_at (j + n)) (floats (own_matrix kind (to_matrix (pose_of (j + n))))) ≡ own_behind kind pose_of ms j (suc n) old
  unfolding own_behind
  own_more ms j n old len =
      let owns = own_matrices kind pose_of j n in
      let own = own_matrix kind (to_matrix (pose_of (j + n))) in
      let back = drop (output_at (j + n)) old in
      let k : length (ms ++ owns) ≡ j + n = length-append ms owns ∙ omega (arith, own_length j n) in
      let s : 16 * (j + suc n) ≡ 16 * (j + n) + 16 = omega arith in
      rw (
        ← append_assoc (flat ms) (flat owns) back,
        ← flat_append ms owns,
        stored_next (ms ++ owns) own back (j + n) k,
        append_assoc ms owns (own ∷ []),
        flat_append ms (owns ++ (own ∷ [])),
        own_last j n,
        append_assoc (flat ms) (flat (own_matrices kind pose_of j (suc n))) (drop 16 back),
        drop-drop 16 (output_at (j + n)) old,
        s,
      )

module _ (kind : FrameKind) (block : List Pose) (first : ℕ) where
  pub no_own : (before : List Float) → OwnMatrices kind block first 0 before before
  unfolding own_behind own_matrices flat
  no_own before = record { own = λ pose_of _ ms len old e. rw (add-zero first) e }

  pub one_own_more : {i : ℕ} {before output after : List Float} {own : Matrix4} → OwnMatrices kind block first i before output
      → own ≡ own_matrix kind (to_matrix (lane_at block i)) → after ≡ stored output (output_at (first + i)) (floats own)
      → OwnMatrices kind block first (i + 1) before after
  one_own_more {i} done eo ea = record {
    own = λ pose_of lanes ms len old e.
        let o = done.own pose_of (λ k h. lanes k (omega arith)) ms len old e in
        ea ∙ rw (eo, o, lanes i (omega arith), add-one i) (own_more kind pose_of ms first i old len);
  }

-- ---- products. Invariant: those of the joints before j are done, and the own matrices of the k others stand behind them

pub record Through (plan : List ℕ) (first count : ℕ) (before after : List Float) (j : ℕ) : Type 0 where
  pub done : (kind : FrameKind) (pose_of : ℕ → Pose) (old : List Float) → before ≡ own_behind kind pose_of (joint_matrices kind plan pose_of first) first count old
      → (k : ℕ) → j + k ≡ first + count → after ≡ own_behind kind pose_of (joint_matrices kind plan pose_of j) j k old

module _ (plan : List ℕ) (first count : ℕ) where
  pub through_none : (before : List Float) → Through plan first count before before first
  through_none before = record {
    done = λ kind pose_of old e k all.
        let c : k ≡ count = omega (arith, all) in
        rw c e;
  }

  pub through_next : {j : ℕ} {before output after : List Float} {base own : Matrix4} → Passes plan → j < joint_count plan → Through plan first count before output j
      → own ≡ matrix_from (drop (output_at j) output) → base ≡ parent_in plan output j → after ≡ stored output (output_at j) (floats (product base own))
      → Through plan first count before after (j + 1)
  through_next {j} ok there t eo eb ea = record {
    done = λ kind pose_of old e k all.
        let o = t.done kind pose_of old e (suc k) (omega (arith, all)) in
        ea ∙ rw (eo, eb, o) (joint_more kind plan pose_of j k old (parent_earlier plan ok.numbers ok.passed j there));
  }

  pub through_all : {before after : List Float} → Through plan first count before after (first + count) → Multiplied plan first count before after
  unfolding joints_written own_behind own_matrices flat
  through_all t = record { product = λ kind pose_of old e. rw (add-zero (first + count)) at (t.done kind pose_of old e 0 (add-zero (first + count))) }

-- both loops, one after the other
pub own_then_product : {kind : FrameKind} {plan : List ℕ} {block : List Pose} {first count : ℕ} {before middle after : List Float}
    → OwnMatrices kind block first count before middle → Multiplied plan first count middle after → GlobalPoses kind plan block first count before after
unfolding joints_written joint_matrices
own_then_product {first = first} o m = record {
  written = λ pose_of lanes old e. m.product _ pose_of old (o.own pose_of lanes _ (table_length _ first) old e);
}
