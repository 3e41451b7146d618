-- Alike figures synchronise alike, and a reachable state has the same pose at a chosen joint in both.
use Prim.Native.Nat.{ℕ, zero, suc, ◌+◌, ◌*◌, ◌/◌, ◌≤◌, ◌<◌}
use Rattle.std.proofs.Common.{arith, sym, ◌∙◌, subst}
use Rattle.std.specs.Prelude.{◌≡◌, refl, true, length, Float}
use Rattle.std.proofs.Math.Path.{ap}
use mathlib.Core.List.{List, Memᴰ}
use Rattle.std.specs.Float.{nan}
use Rattle.model.specs.declared.Pose.{Pose}
use Rattle.model.specs.declared.ClipInstance.{ClipInstance}
use Rattle.model.specs.Answers.{accepted}
use Rattle.model.specs.Plan.{state_count, node_count, is_clip, input_a, input_b, clip_node_at}
use Rattle.model.specs.Check.{check}
use Rattle.model.specs.Clips.{local_time, set_playback_rate, instance_at, clip_pose}
use Rattle.model.specs.Tree.{rate_set, is_touched, node_length, node_target, input_synchronized, synchronize_node, synchronize_nodes, synchronize, node_pose, node_poses, state_pose}
use Rattle.model.specs.Unseen.{Reachable, by_clip, Read, by_node}
use Rattle.model.proofs.Laws.Passed.{state_passed}
use Rattle.model.proofs.Laws.State.{a_earlier, b_earlier}
use Rattle.model.proofs.Laws.Touched.{touched_blends, touched_a, touched_b}
use Rattle.model.proofs.Laws.ClipNodes.{same_state}
use Rattle.model.proofs.Laws.Table.{table_same}
use Rattle.noninterference.specs.Alike.{Closed, AlikeNumbers}
use Rattle.noninterference.specs.Laws.Lists.{SameAt}
use Rattle.noninterference.specs.Laws.Trees.{ReachableInstance, instance_of, SameInstances}
use Rattle.noninterference.proofs.Laws.Lists.{cond_both, cond_same, same_set}
use Rattle.noninterference.proofs.Laws.Numbers.{duration_same, clip_same}

-- ---- one instance read and set

module _ (plan : List ℕ) {is ks : List Float} (same : SameInstances plan is ks) (n : ℕ) where
  pub instance_same : ReachableInstance plan n → instance_at is n ≡ instance_at ks n
  instance_same q =
      rw (
        same.at (3 * n) (at (3 * n) (omega arith)),
        same.at (3 * n + 1) (at (3 * n + 1) (omega arith)),
        same.at (3 * n + 2) (at (3 * n + 2) (omega arith)),
      )
    where
      at : (k : ℕ) → k / 3 ≡ n → ReachableInstance plan (k / 3)
      at k e = subst (ReachableInstance plan) (sym e) q

  pub rate_set_same : (time x y : Float) → (ReachableInstance plan n → x ≡ y) → SameInstances plan (rate_set time n x is) (rate_set time n y ks)
  rate_set_same time x y e =
      same_set
      (same_set
      (same_set same (3 * n) _ _ (λ q. ap (λ (i : ClipInstance). i.start) (set_same (3 * n) (omega arith) q)))
      (3 * n + 1) _ _ (λ q. ap (λ (i : ClipInstance). i.rate) (set_same (3 * n + 1) (omega arith) q)))
      (3 * n + 2) _ _ (λ q. ap (λ (i : ClipInstance). i.offset) (set_same (3 * n + 2) (omega arith) q))
    where
      set_same : (k : ℕ) → k / 3 ≡ n → ReachableInstance plan (k / 3) → set_playback_rate (instance_at is n) time x ≡ set_playback_rate (instance_at ks n) time y
      set_same k h q =
          let r : ReachableInstance plan n = subst (ReachableInstance plan) h q in
          ap (λ (z : Float). set_playback_rate (instance_at is n) time z) (e r) ∙ ap (λ (i : ClipInstance). set_playback_rate i time y) (instance_same r)

module _ (plan chosen : List ℕ) (a b : List Float) (ok : check plan (length a) ≡ accepted) (closed : Closed plan chosen) (alike : AlikeNumbers plan chosen a b) {l m : List Float} (ps : SameAt nan (Read plan) l m) (time : Float) where
  -- ---- synchronising any state, reachable or not

  module _ (s : ℕ) (below : s < state_count plan) where
    -- whose instance instance_of to a reachable state is that state
    own : (i : ℕ) → i < node_count plan s → is_clip plan s i ≡ true → ReachableInstance plan (clip_node_at plan s i) → Reachable plan s
    own i h e (instance_of {s = u} r k hk ek n q) = subst (Reachable plan) (sym (same_state plan s i u k h e hk ek q)) r

    length_same : (i : ℕ) → Reachable plan s → i < node_count plan s → is_clip plan s i ≡ true → node_length plan a s i ≡ node_length plan b s i
    unfolding node_length
    length_same i r h e = duration_same plan chosen a b ok closed alike (by_clip r i h e)

    input_same : (i : ℕ) → i < node_count plan s → is_clip plan s i ≡ true → (x y : Float) → (Reachable plan s → x ≡ y) → {is ks : List Float} → SameInstances plan is ks
        → SameInstances plan (input_synchronized plan a l time s i x is) (input_synchronized plan b m time s i y ks)
    unfolding input_synchronized
    input_same i h e x y t same = rate_set_same plan same (clip_node_at plan s i) time _ _ (λ q. let r : Reachable plan s = own i h e q in rw (t r, length_same i r h e))

    module _ (i : ℕ) (h : i < node_count plan s) (t : is_touched plan s i ≡ true) where
      a_node : input_a plan s i < node_count plan s
      a_node = omega (arith, a_earlier plan s (state_passed plan (length a) ok s below) i h (touched_blends plan s i t))

      b_node : input_b plan s i < node_count plan s
      b_node = omega (arith, b_earlier plan s (state_passed plan (length a) ok s below) i h (touched_blends plan s i t))

      target_same : Reachable plan s → node_target plan a l time s i ≡ node_target plan b m time s i
      unfolding node_target
      target_same r =
          rw (ps.at _ (by_node r i h (touched_blends plan s i t)), length_same (input_a plan s i) r a_node (touched_a plan s i t), length_same (input_b plan s i) r b_node (touched_b plan s i t))

    node_synchronized : (i : ℕ) → i < node_count plan s → {is ks : List Float} → SameInstances plan is ks → SameInstances plan (synchronize_node plan a l time s i is) (synchronize_node plan b m time s i ks)
    unfolding synchronize_node
    node_synchronized i h same =
        cond_both (SameInstances plan) (is_touched plan s i)
        (λ t. input_same _ (b_node i h t) (touched_b plan s i t) _ _ (target_same i h t) (input_same _ (a_node i h t) (touched_a plan s i t) _ _ (target_same i h t) same))
        (λ t. same)

    nodes_synchronized : (n : ℕ) → n ≤ node_count plan s → {is ks : List Float} → SameInstances plan is ks → SameInstances plan (synchronize_nodes plan a l time s n is) (synchronize_nodes plan b m time s n ks)
    unfolding synchronize_nodes
    nodes_synchronized zero h same = same
    nodes_synchronized (suc n) h same = node_synchronized n (omega arith) (nodes_synchronized n (omega arith) same)

    pub synchronized_same : {is ks : List Float} → SameInstances plan is ks → SameInstances plan (synchronize plan a l time s is) (synchronize plan b m time s ks)
    unfolding synchronize
    synchronized_same same = nodes_synchronized (node_count plan s) (omega arith) same

  -- ---- a reachable state's pose at a chosen joint

  module _ (s : ℕ) (r : Reachable plan s) {is ks : List Float} (same : SameInstances plan is ks) (j : ℕ) (chose : Memᴰ j chosen) where
    node_same : (earlier : List Pose) (i : ℕ) → i < node_count plan s → node_pose plan a l time s is j earlier i ≡ node_pose plan b m time s ks j earlier i
    unfolding node_pose
    node_same earlier i h =
        cond_same (is_clip plan s i)
        (λ e. ap (λ (c : ClipInstance). clip_pose plan a (input_a plan s i) j (local_time c time)) (instance_same plan same (clip_node_at plan s i) (instance_of r i h e _ refl))
        ∙ clip_same plan chosen a b ok closed alike (by_clip r i h e) chose _)
        (λ e. rw (ps.at _ (by_node r i h e)))

    pub pose_same : state_pose plan a l time s is j ≡ state_pose plan b m time s ks j
    unfolding state_pose node_poses
    pose_same = rw (table_same (node_pose plan a l time s is j) (node_pose plan b m time s ks j) (node_count plan s) node_same)
