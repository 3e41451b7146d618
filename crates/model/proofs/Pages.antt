-- Document 02, Card 5: the matrices of a page frame, under turned parents and at roots. Theorems over the definitions.
use Rattle.std.specs.Prelude.{ℕ, ◌<◌, ◌≡◌, true, false, List, [], ◌∷◌, map, length, Float}
use Rattle.std.proofs.Common.{arith, ap, ◌∙◌}
use Rattle.std.proofs.Math.Path.{refl, sym}
use Rattle.std.proofs.Math.ListN.{get_or}
use Rattle.std.specs.Float.{nan, inf, binary32}
use Rattle.std.specs.Float.Ieee.{neg, sub, to_bits}
use Rattle.model.specs.declared.Pose.{Pose}
use Rattle.model.specs.declared.Matrix4.{Matrix4}
use Rattle.model.specs.declared.Player.{Player}
use Rattle.model.specs.declared.FrameKind.{FrameKind}
use Rattle.model.specs.declared.FrameKind.TheVariants.{Ordinary, Page}
use Rattle.model.specs.Numbers.{◌+₃₂◌, ◌*₃₂◌, 0f, 1f, half}
use Rattle.model.specs.Rotations.{row, identity_matrix, product, floats, quaternion_to_matrix}
use Rattle.model.specs.Pose.{to_matrix}
use Rattle.model.specs.Answers.{accepted}
use Rattle.model.specs.Plan.{joint_count, parent, is_root}
use Rattle.model.specs.Check.{check}
use Rattle.model.specs.Controller.{now_at, elapsed, joint_pose}
use Rattle.model.specs.Skeleton.{upper_transposed, own_matrix, parent_matrix, joint_matrix, joint_matrices}
use Rattle.model.specs.Run.{frame_stepped, frame_matrices, Frame, chosen_floats}
use Rattle.model.specs.Bench.{with_parents}
use Rattle.model.proofs.Laws.Opened.{all_opened}
use Rattle.model.proofs.Laws.Table.{table_at, table_same}
use Rattle.model.proofs.Laws.Passed.{parent_earlier}
use Rattle.model.proofs.Laws.Signs.{neg_neg, mul_neg, mul_neg_neg, twice_neg}
use Rattle.model.specs.Pages.{conjugated, shows, far_turned, root_shows}

-- ---- a frame of either kind, as it is finished

module _ (plan : List ℕ) (numbers : List Float) (p : Player) (ext : Float) (kind : FrameKind) where
  abbrev pose_shown : ℕ → Pose
  pose_shown j = joint_pose plan numbers (elapsed p ext) (frame_stepped plan numbers p ext) (now_at p ext) j

  abbrev matrix_shown : ℕ → Matrix4
  matrix_shown j = get_or (frame_matrices plan numbers p ext kind) j identity_matrix

  entry_of : (j : ℕ) → j < joint_count plan → matrix_shown j ≡ product (parent_matrix plan (joint_matrices kind plan pose_shown j) j) (own_matrix kind (to_matrix (pose_shown j)))
  unfolding frame_matrices joint_matrices joint_matrix
  entry_of j h = table_at (joint_matrix kind plan pose_shown) (joint_count plan) identity_matrix j h

  -- a root's own matrix is multiplied too
  pub root_shown : (j : ℕ) → j < joint_count plan → is_root plan j ≡ true → matrix_shown j ≡ product identity_matrix (own_matrix kind (to_matrix (pose_shown j)))
  unfolding parent_matrix
  root_shown j h e = rw e at (entry_of j h)

  -- 'transposes each local 3×3 first and multiplies then': by the parent's matrix as this very frame shows it
  pub child_shown : check plan (length numbers) ≡ accepted → (j : ℕ) → j < joint_count plan → is_root plan j ≡ false
      → matrix_shown j ≡ product (matrix_shown (parent plan j)) (own_matrix kind (to_matrix (pose_shown j)))
  unfolding parent_matrix frame_matrices joint_matrices
  child_shown ok j h e =
      let table = joint_matrix kind plan pose_shown in
      let earlier : parent plan j < j = parent_earlier plan (length numbers) ok j h e in
      let same : get_or (joint_matrices kind plan pose_shown j) (parent plan j) identity_matrix ≡ matrix_shown (parent plan j) =
      table_at table j identity_matrix (parent plan j) earlier ∙ sym (table_at table (joint_count plan) identity_matrix (parent plan j) (omega arith)) in
      rw (e, same) at (entry_of j h)

  -- 'their 16 floats are compared like a frame's': what the run by definition shows of the chosen joints
  pub chosen_shown : (chosen : List ℕ) (output_length : ℕ) → chosen_floats plan numbers chosen p (Frame kind ext output_length) ≡ map (λ j. floats (matrix_shown j)) chosen
  unfolding chosen_floats
  chosen_shown chosen output_length = refl

-- 'ordinary frames stay the Rust's'
ordinary_own : (m : Matrix4) → own_matrix Ordinary m ≡ m
unfolding own_matrix
ordinary_own m = refl

pub ordinary_stays : (plan : List ℕ) (pose_of : ℕ → Pose) (earlier : List Matrix4) (j : ℕ) → joint_matrix Ordinary plan pose_of earlier j ≡ product (parent_matrix plan earlier j) (to_matrix (pose_of j))
unfolding joint_matrix
ordinary_stays plan pose_of earlier j = ap (product (parent_matrix plan earlier j)) (ordinary_own (to_matrix (pose_of j)))

-- ---- what the transposing does to a rotation: it is the matrix of the conjugate, float by float, whatever the pose holds

pub own_conjugated : (p : Pose) → own_matrix Page (to_matrix p) ≡ to_matrix (conjugated p)
unfolding own_matrix upper_transposed to_matrix quaternion_to_matrix sub
own_conjugated p =
    let q = p.rotation in
    let x2 = q.x +₃₂ q.x in
    let y2 = q.y +₃₂ q.y in
    let z2 = q.z +₃₂ q.z in
    let f = binary32 in
    rw (
      twice_neg f q.x,
      twice_neg f q.y,
      twice_neg f q.z,
      mul_neg_neg f x2 q.x,
      mul_neg_neg f x2 q.y,
      mul_neg_neg f x2 q.z,
      mul_neg_neg f y2 q.y,
      mul_neg_neg f y2 q.z,
      mul_neg_neg f z2 q.z,
      mul_neg f x2 q.w,
      mul_neg f y2 q.w,
      mul_neg f z2 q.w,
      neg_neg (x2 *₃₂ q.w),
      neg_neg (y2 *₃₂ q.w),
      neg_neg (z2 *₃₂ q.w),
    )

-- so a page frame's matrices are those of a frame that shows the conjugated poses
pub page_conjugated : (plan : List ℕ) (pose_of : ℕ → Pose) (n : ℕ) → joint_matrices Page plan pose_of n ≡ joint_matrices Ordinary plan (λ j. conjugated (pose_of j)) n
unfolding joint_matrices joint_matrix
page_conjugated plan pose_of n =
    table_same _ _ n (λ earlier j h. ap (product (parent_matrix plan earlier j)) (own_conjugated (pose_of j) ∙ sym (ordinary_own (to_matrix (conjugated (pose_of j))))))

-- ---- a hand on a turned arm. Each turns by a third, about axes of their own, so nothing is rounded

pub turned_arm_ordinary : shows Ordinary
    ≡ record { r0 = row 0f 1f 0f half; r1 = row 0f 0f 1f 0f; r2 = row 1f 0f 0f 0f; r3 = row 0f 0f 0f 1f }
    ∷ record { r0 = row (neg 1f) 0f 0f 1f; r1 = row 0f 1f 0f 0f; r2 = row 0f 0f (neg 1f) 0f; r3 = row 0f 0f 0f 1f } ∷ []
unfolding all_opened with_parents
turned_arm_ordinary = refl

-- the arm's turn the other way, and the hand put where that arm holds it
pub turned_arm_page : shows Page
    ≡ record { r0 = row 0f 0f 1f half; r1 = row 1f 0f 0f 0f; r2 = row 0f 1f 0f 0f; r3 = row 0f 0f 0f 1f }
    ∷ record { r0 = row (neg 1f) 0f 0f half; r1 = row 0f (neg 1f) 0f 0f; r2 = row 0f 0f 1f half; r3 = row 0f 0f 0f 1f } ∷ []
unfolding all_opened with_parents
turned_arm_page = refl

-- 'transposing the finished matrix suits roots only'
pub not_at_the_end : ¬ (get_or (shows Page) 1 identity_matrix ≡ upper_transposed (get_or (shows Ordinary) 1 identity_matrix))
unfolding all_opened with_parents
not_at_the_end e =
    let same : ◌≡◌ {A = ℕ} 0xbf80_0000 0x3f80_0000 = ap (λ m. to_bits binary32 m.r1.c1) e in
    omega arith

-- ---- a root is no special case: with an infinite entry of its own, the product has 0 × infinity

pub infinite_root : root_shows Page
    ≡ record { r0 = row 1f nan nan 0f; r1 = row 0f (inf true) nan 0f; r2 = row 0f nan (inf true) 0f; r3 = row 0f nan nan 1f }
unfolding all_opened with_parents
infinite_root = refl

-- so it is neither its own matrix nor what the finished one was transposed
pub root_multiplied : ¬ (root_shows Page ≡ own_matrix Page (to_matrix far_turned))
unfolding all_opened with_parents
root_multiplied e =
    let same : ◌≡◌ {A = ℕ} 0x7fc0_0000 0 = ap (λ m. to_bits binary32 m.r0.c1) e in
    omega arith

pub root_not_as_before : ¬ (root_shows Page ≡ upper_transposed (root_shows Ordinary))
unfolding all_opened with_parents
root_not_as_before e =
    let same : ◌≡◌ {A = ℕ} 0x7fc0_0000 0 = ap (λ m. to_bits binary32 m.r0.c1) e in
    omega arith
