-- Which words mark a root: what `is_root_word` says of each.
use Rattle.std.specs.Prelude.{ℕ, ◌≤◌, ◌<◌, ◌≡◌, refl, Bool, true, false, ◌&&◌, leb, eqb}
use Rattle.std.proofs.Common.{arith, leb-true, eqb-true}
use Rattle.model.specs.Plan.{max_joints, root, byte_root, max_byte_root_joints, is_root_word}
use Rattle.model.proofs.Laws.Tests.{and_left, and_right, or_right}

pub root_always : (joints : ℕ) → is_root_word joints root ≡ true
unfolding is_root_word
root_always joints = refl

pub byte_root_lem : (joints : ℕ) → is_root_word joints byte_root ≡ leb joints max_byte_root_joints
unfolding is_root_word
byte_root_lem joints = refl

-- no joint has the number of a root's parent
pub root_above : (joints p j : ℕ) → joints ≤ max_joints → j < joints → is_root_word joints p ≡ true → j ≤ p
unfolding is_root_word
root_above joints p j few h e = go (eqb p root) refl
  where
    few_enough : Bool
    few_enough = leb joints max_byte_root_joints

    go : (t : Bool) → eqb p root ≡ t → j ≤ p
    go true q = omega (arith, eqb-true p root q)
    go false q =
        let b : eqb p byte_root && few_enough ≡ true = or_right (eqb p root) (eqb p byte_root && few_enough) e q in
        omega (arith, eqb-true p byte_root (and_left (eqb p byte_root) few_enough b), leb-true joints max_byte_root_joints (and_right (eqb p byte_root) few_enough b))
