-- Document 02, Card 11: which parents are roots, and that 255 is 'an ordinary joint number' above 64 joints. Theorems over the definitions; the limit of J is
-- in Bench and BenchText.
use Rattle.std.specs.Prelude.{ℕ, ◌+◌, ◌*◌, ◌<◌, ◌≤◌, ◌≡◌, refl, true, false, List, [], ◌∷◌, ◌++◌, length, get_or, replicate, eqb, ltb}
use Rattle.std.proofs.Common.{◌∙◌}
use borrow.Author.Tests.{ne_eqb, le-leb, lt-leb, lt-ltb}
use Rattle.model.specs.declared.Matrix4.{Matrix4}
use Rattle.model.specs.Rotations.{identity_matrix}
use Rattle.model.specs.Answers.{accepted, refused, ◌then◌, require}
use Rattle.model.specs.Plan.{root, byte_root, max_byte_root_joints, joint_count, parent_at, parent, is_root_word, is_root}
use Rattle.model.specs.Check.{word_is, check_parent, check}
use Rattle.model.specs.Skeleton.{parent_matrix}
use Rattle.model.proofs.Laws.Opened.{check_opened, all_opened}
use Rattle.model.proofs.Laws.Tests.{and_true}
use Rattle.model.proofs.Laws.Roots.{root_always, byte_root_lem}
use Rattle.model.specs.Bench.{with_parents}
use Rattle.model.specs.Joints.{frame_of_roots}

module _ (plan : List ℕ) (j : ℕ) where
  -- 'root is 65535', whatever J
  pub wide_root : parent plan j ≡ root → is_root plan j ≡ true
  unfolding is_root
  wide_root e = rw e (root_always (joint_count plan))

  -- 'with J at most 64, 255 is a root too'
  pub byte_root_to_64 : joint_count plan ≤ max_byte_root_joints → parent plan j ≡ byte_root → is_root plan j ≡ true
  unfolding is_root
  byte_root_to_64 few e = rw e (byte_root_lem (joint_count plan) ∙ le-leb _ _ few)

  -- so a figure of the base, which has no word 65535 among its parents, has the roots that it had
  pub roots_as_before : joint_count plan ≤ max_byte_root_joints → ¬ (parent plan j ≡ root) → is_root plan j ≡ eqb (parent plan j) byte_root
  unfolding is_root is_root_word
  roots_as_before few other = rw (ne_eqb (parent plan j) root other, le-leb (joint_count plan) max_byte_root_joints few, and_true)

  module _ (many : max_byte_root_joints < joint_count plan) (e : parent plan j ≡ byte_root) where
    -- 'above 64 it is an ordinary joint number'
    pub no_root_from_65 : is_root plan j ≡ false
    unfolding is_root
    no_root_from_65 = rw e (byte_root_lem (joint_count plan) ∙ lt-leb _ _ many)

    -- 'refused by 3 unless earlier'
    pub byte_parent_judged : parent_at j < length plan → check_parent plan j ≡ require (ltb byte_root j) 3 (parent_at j)
    unfolding check_parent word_is require ◌then◌
    byte_parent_judged there = rw (no_root_from_65, e, lt-ltb (parent_at j) (length plan) there)

    -- and its matrix is the parent's
    pub byte_parent_matrix : (earlier : List Matrix4) → parent_matrix plan earlier j ≡ get_or earlier byte_root identity_matrix
    unfolding parent_matrix
    byte_parent_matrix earlier = rw (no_root_from_65, e)

-- ---- plans on both sides of the two edges

-- 255 for every parent: 64 joints pass, 65 do not
pub byte_roots_64 : check (with_parents (replicate 64 byte_root)) (1 + 8 * 64) ≡ accepted
unfolding check_opened with_parents
byte_roots_64 = refl

pub byte_roots_65 : (n : ℕ) → check (with_parents (replicate 65 byte_root)) n ≡ refused 3 (parent_at 0) 0
unfolding check_opened with_parents
byte_roots_65 n = refl

-- 255 for the last parent, behind roots: joint 255 is not before itself, and is before joint 256
pub under_itself : (n : ℕ) → check (with_parents (replicate 255 root ++ byte_root ∷ [])) n ≡ refused 3 (parent_at 255) 0
unfolding check_opened with_parents
under_itself n = refl

pub under_joint_255 : check (with_parents (replicate 256 root ++ byte_root ∷ [])) (1 + 8 * 257) ≡ accepted
unfolding check_opened with_parents
under_joint_255 = refl

-- ---- the output: 16 floats for each of 400 joints are enough, and one less is not; of 65 joints, those of 64 are not

pub output_400 : (frame_of_roots 400 6400 ≡ accepted) × (frame_of_roots 400 6399 ≡ refused 10 0 0)
unfolding all_opened with_parents
output_400 = (refl, refl)

pub output_65 : (frame_of_roots 65 1040 ≡ accepted) × (frame_of_roots 65 1024 ≡ refused 10 0 0)
unfolding all_opened with_parents
output_65 = (refl, refl)
