-- The invariant between two players, that every call keeps it, and that so the two runs by definition agree.
use Prim.Native.Nat.{ℕ, zero, suc, ◌+◌, ◌≤◌, ◌<◌}
use Rattle.std.proofs.Common.{arith, ◌∙◌, subst}
use Rattle.std.specs.Prelude.{◌≡◌, length, get_or, replicate, Float, Option, Some, None}
use Rattle.std.proofs.Math.Path.{refl, sym, ap}
use mathlib.Core.List.{List, Memᴰ}
use Rattle.std.specs.Float.Ieee.{nan}
use Rattle.model.specs.declared.Pose.{Pose}
use Rattle.model.specs.declared.Matrix4.{Matrix4}
use Rattle.model.specs.declared.Player.{Player}
use Rattle.model.specs.declared.Transition.{Transition}
use Rattle.model.specs.declared.Transition.TheVariants.{Idle, Running}
use Rattle.model.specs.declared.FrameKind.{FrameKind}
use Rattle.model.specs.Numbers.{0f}
use Rattle.model.specs.Rotations.{identity_matrix, product, floats}
use Rattle.model.specs.Pose.{to_matrix}
use Rattle.model.specs.Answers.{Verdict, accepted, refused, unless_refused}
use Rattle.model.specs.Plan.{max_parameters, joint_count, state_count, parent, is_root, transition_count}
use Rattle.model.specs.Check.{check}
use Rattle.model.specs.Controller.{blank, synchronize_states, fresh, frame_verdict, now_at, is_ended, condition_holds, first_passing, winner, started_by, step_from, stepped, elapsed, current_instances, target_instances, instances_in, synchronized, current_pose, target_pose, pose_in, joint_pose}
use Rattle.model.specs.Tree.{state_pose}
use Rattle.model.specs.Loops.{loops_verdict}
use Rattle.model.specs.Skeleton.{own_matrix, parent_matrix, joint_matrix, joint_matrices}
use Rattle.model.specs.Run.{frame_player, frame_matrices, Call, call_verdict, changed, after, chosen_floats, observation, run_from}
use Rattle.model.specs.Unseen.{Reachable, initial, target, Read, by_condition}
use Rattle.model.proofs.Laws.Passed.{parent_earlier, reachable_below}
use Rattle.model.proofs.Laws.Reached.{read_marked}
use Rattle.model.proofs.Laws.Table.{table_at}
use Rattle.model.specs.Table.{table_to}
use Rattle.noninterference.specs.Alike.{Closed, AlikeNumbers, AlikeCall, updates, speeds, sets, frames, questions, AlikeCalls, none, next}
use Rattle.noninterference.specs.Laws.Lists.{SameAt}
use Rattle.noninterference.proofs.Laws.Lists.{cond_both, cond_same, cond_has, same_refl, same_set, map_same}
use Rattle.noninterference.proofs.Laws.Numbers.{value_same, transition_duration_same}
use Rattle.noninterference.specs.Laws.Trees.{SameInstances}
use Rattle.noninterference.proofs.Laws.Trees.{synchronized_same, pose_same}

abbrev pub TargetReachable : List ℕ → Transition → Type 0
TargetReachable plan Idle = Unit {0}
TargetReachable plan (Running start goal duration) = Reachable plan goal

-- the invariant: low-equivalence, in the field's words, with what keeps it going (only reachable states are ever current or targets)
pub record LowEquivalent (plan : List ℕ) (p q : Player) : Type 0 where
  pub clock : p.clock ≡ q.clock
  pub speed : p.speed ≡ q.speed
  pub state : p.state ≡ q.state
  pub transition : p.transition ≡ q.transition
  pub reachable : Reachable plan p.state
  pub target : TargetReachable plan p.transition
  pub parameters : SameAt nan (Read plan) p.parameters q.parameters
  pub instances : SameInstances plan p.instances q.instances

-- ---- skeleton: a closed set's matrices depend on its own poses only, in either kind of frame

module _ (kind : FrameKind) (plan chosen : List ℕ) (k : ℕ) (ok : check plan k ≡ accepted) (closed : Closed plan chosen) (f g : ℕ → Pose) (same : (j : ℕ) → Memᴰ j chosen → f j ≡ g j) where
  matrix_same : (n j : ℕ) → j < n → Memᴰ j chosen → joint_matrix kind plan f (table_to (joint_matrix kind plan f) j) j ≡ joint_matrix kind plan g (table_to (joint_matrix kind plan g) j) j
  unfolding joint_matrix parent_matrix
  matrix_same zero j h m = absurd (omega arith)
  matrix_same (suc n) j h m =
      rw (same j m)
      (ap (λ (x : Matrix4). product x (own_matrix kind (to_matrix (g j))))
      (cond_same (is_root plan j) (λ e. refl)
      (λ e. let earlier : parent plan j < j = parent_earlier plan k ok j (closed.are_joints j m) e in
      table_at (joint_matrix kind plan f) j identity_matrix (parent plan j) earlier
      ∙ matrix_same n (parent plan j) (omega arith) (closed.parents j m e)
      ∙ sym (table_at (joint_matrix kind plan g) j identity_matrix (parent plan j) earlier))))

  pub matrices_same : (n : ℕ) (d : Matrix4) (j : ℕ) → j < n → Memᴰ j chosen → get_or (joint_matrices kind plan f n) j d ≡ get_or (joint_matrices kind plan g n) j d
  unfolding joint_matrices
  matrices_same n d j h m = table_at (joint_matrix kind plan f) n d j h ∙ matrix_same n j h m ∙ sym (table_at (joint_matrix kind plan g) n d j h)

-- ---- controller

module _ (plan chosen : List ℕ) (a b : List Float) (ok : check plan (length a) ≡ accepted) (closed : Closed plan chosen) (alike : AlikeNumbers plan chosen a b) where
  below : {s : ℕ} → Reachable plan s → s < state_count plan
  below r = reachable_below plan (length a) ok r

  -- ---- step 1

  first_same : {s : ℕ} {l m : List Float} → Reachable plan s → SameAt nan (Read plan) l m
      → (n t : ℕ) → t + n ≤ transition_count plan s → first_passing plan a l s t n ≡ first_passing plan b m s t n
  unfolding first_passing
  first_same r ps zero t h = refl
  first_same r ps (suc n) t h =
      rw (ps.at _ (by_condition r t (omega arith)), value_same plan chosen a b ok closed alike r t (omega arith), first_same r ps n (suc t) (omega arith))

  -- a winner is one of the state's transitions
  abbrev OneOf : ℕ → Option ℕ → Type 0
  OneOf s None = Unit {0}
  OneOf s (Some t) = t < transition_count plan s

  first_one : (s : ℕ) (l : List Float) (n t : ℕ) → t + n ≤ transition_count plan s → OneOf s (first_passing plan a l s t n)
  unfolding first_passing
  first_one s l zero t h = tt
  first_one s l (suc n) t h =
      cond_has (OneOf s) (condition_holds plan a l s t) {x = Some t} {y = first_passing plan a l s (suc t) n} (omega arith) (first_one s l n (suc t) (omega arith))

  started_same : {s : ℕ} (now : Float) → Reachable plan s → (w : Option ℕ) → OneOf s w → started_by plan a now s w ≡ started_by plan b now s w
  unfolding started_by
  started_same now r None h = refl
  started_same now r (Some t) h = rw (transition_duration_same plan chosen a b ok closed alike r t h)

  started_reachable : {s : ℕ} (now : Float) → Reachable plan s → (w : Option ℕ) → OneOf s w → TargetReachable plan (started_by plan a now s w)
  unfolding started_by
  started_reachable now r None h = tt
  started_reachable now r (Some t) h = target r t h

  module _ (p q : Player) (h : LowEquivalent plan p q) (now : Float) where
    step_equivalent : (t : Transition) → TargetReachable plan t → LowEquivalent plan (step_from plan a now p t) (step_from plan b now q t)
    unfolding step_from winner
    step_equivalent Idle r =
        let w = winner plan a p.parameters p.state in
        let one : OneOf p.state w = first_one p.state p.parameters (transition_count plan p.state) 0 (omega arith) in
        record {
          clock = h.clock;
          speed = h.speed;
          state = h.state;
          transition =
              started_same now h.reachable w one
              ∙ ap (started_by plan b now p.state) (first_same h.reachable h.parameters (transition_count plan p.state) 0 (omega arith))
              ∙ ap (λ (s : ℕ). started_by plan b now s (winner plan b q.parameters s)) h.state;
          reachable = h.reachable;
          target = started_reachable now h.reachable w one;
          parameters = h.parameters;
          instances = h.instances;
        }
    step_equivalent (Running start goal duration) r =
        cond_both (LowEquivalent plan) (is_ended now start duration)
        (λ e. record { clock = h.clock; speed = h.speed; state = refl; transition = refl; reachable = r; target = tt; parameters = h.parameters; instances = h.instances })
        (λ e. h)

    pub stepped_equivalent : LowEquivalent plan (stepped plan a now p) (stepped plan b now q)
    stepped_equivalent = subst (λ (t : Transition). LowEquivalent plan (stepped plan a now p) (step_from plan b now q t)) h.transition (step_equivalent p.transition h.target)

  -- ---- step 2

  module _ (time : Float) (p q : Player) (h : LowEquivalent plan p q) where
    current_same : SameInstances plan (current_instances plan a time p) (current_instances plan b time q)
    unfolding current_instances
    current_same = rw (← h.state) (synchronized_same plan chosen a b ok closed alike h.parameters time p.state (below h.reachable) h.instances)

    target_same : (goal : ℕ) → Reachable plan goal → SameInstances plan (target_instances plan a time p goal) (target_instances plan b time q goal)
    unfolding target_instances
    target_same goal r = synchronized_same plan chosen a b ok closed alike h.parameters time goal (below r) current_same

    instances_same : (t : Transition) → TargetReachable plan t → SameInstances plan (instances_in plan a time p t) (instances_in plan b time q t)
    unfolding instances_in
    instances_same Idle r = current_same
    instances_same (Running start goal duration) r = target_same goal r

    pub synchronized_equivalent : LowEquivalent plan (synchronized plan a time p) (synchronized plan b time q)
    synchronized_equivalent =
        record {
          clock = h.clock;
          speed = h.speed;
          state = h.state;
          transition = h.transition;
          reachable = h.reachable;
          target = h.target;
          parameters = h.parameters;
          instances = subst (λ (t : Transition). SameInstances plan (instances_in plan a time p p.transition) (instances_in plan b time q t)) h.transition (instances_same p.transition h.target);
        }

    module _ (now : Float) (j : ℕ) (m : Memᴰ j chosen) where
      current_pose_lem : current_pose plan a time p j ≡ current_pose plan b time q j
      unfolding current_pose
      current_pose_lem =
          pose_same plan chosen a b ok closed alike h.parameters time p.state h.reachable current_same j m
          ∙ ap (λ (s : ℕ). state_pose plan b q.parameters time s (current_instances plan b time q) j) h.state

      target_pose_lem : (goal : ℕ) → Reachable plan goal → target_pose plan a time p goal j ≡ target_pose plan b time q goal j
      unfolding target_pose
      target_pose_lem goal r = pose_same plan chosen a b ok closed alike h.parameters time goal r (target_same goal r) j m

      pose_in_lem : (t : Transition) → TargetReachable plan t → pose_in plan a time p now j t ≡ pose_in plan b time q now j t
      unfolding pose_in
      pose_in_lem Idle r = current_pose_lem
      pose_in_lem (Running start goal duration) r = rw (current_pose_lem, target_pose_lem goal r)

      pub joint_same : joint_pose plan a time p now j ≡ joint_pose plan b time q now j
      joint_same = pose_in_lem p.transition h.target ∙ ap (pose_in plan b time q now j) h.transition

  -- ---- start

  states_synchronized : (n : ℕ) → n ≤ state_count plan → (is : List Float) → SameInstances plan (synchronize_states plan a n is) (synchronize_states plan b n is)
  unfolding synchronize_states
  states_synchronized zero h is = same_refl nan _ is
  states_synchronized (suc s) h is =
      synchronized_same plan chosen a b ok closed alike (same_refl nan (Read plan) (replicate max_parameters 0f)) 0f s (omega arith) (states_synchronized s (omega arith) is)

  pub fresh_equivalent : LowEquivalent plan (fresh plan a) (fresh plan b)
  unfolding fresh blank
  fresh_equivalent =
      record {
        clock = refl;
        speed = refl;
        state = refl;
        transition = refl;
        reachable = initial;
        target = tt;
        parameters = same_refl nan (Read plan) _;
        instances = states_synchronized (state_count plan) (omega arith) _;
      }

  -- ---- each call

  module _ (p q : Player) (h : LowEquivalent plan p q) where
    now_same : (ext : Float) → now_at p ext ≡ now_at q ext
    unfolding now_at
    now_same ext = rw h.clock

    elapsed_same : (ext : Float) → elapsed p ext ≡ elapsed q ext
    unfolding elapsed
    elapsed_same ext = rw (h.clock, h.speed)

    frame_equivalent : (ext : Float) → LowEquivalent plan (frame_player plan a p ext) (frame_player plan b q ext)
    unfolding frame_player
    frame_equivalent ext = rw (now_same ext, elapsed_same ext) (synchronized_equivalent (elapsed q ext) _ _ (stepped_equivalent p q h (now_at q ext)))

    changed_equivalent : {c d : Call} → AlikeCall plan c d → LowEquivalent plan (changed plan a p c) (changed plan b q d)
    unfolding changed
    changed_equivalent (updates delta) =
        record { clock = rw (h.clock, h.speed); speed = h.speed; state = h.state; transition = h.transition; reachable = h.reachable; target = h.target; parameters = h.parameters; instances = h.instances }
    changed_equivalent (speeds v) =
        record { clock = h.clock; speed = refl; state = h.state; transition = h.transition; reachable = h.reachable; target = h.target; parameters = h.parameters; instances = h.instances }
    changed_equivalent (sets n v w e) =
        record { clock = h.clock; speed = h.speed; state = h.state; transition = h.transition; reachable = h.reachable; target = h.target; parameters = same_set h.parameters n v w (λ r. e (read_marked plan (length a) ok r)); instances = h.instances }
    changed_equivalent (frames kind ext len) = frame_equivalent ext
    changed_equivalent (questions s n time) = h

    pub verdict_same : {c d : Call} → AlikeCall plan c d → call_verdict plan a p c ≡ call_verdict plan b q d
    unfolding call_verdict frame_verdict loops_verdict
    verdict_same (updates delta) = refl
    verdict_same (speeds v) = refl
    verdict_same (sets n v w e) = refl
    verdict_same (frames kind ext len) = rw (alike.lengths, h.state, h.transition)
    verdict_same (questions s n time) = rw (alike.lengths, h.state, h.transition)

    unless_equivalent : (x : Verdict) (u v : Player) → LowEquivalent plan u v → LowEquivalent plan (unless_refused x u p) (unless_refused x v q)
    unfolding unless_refused
    unless_equivalent accepted u v k = k
    unless_equivalent (refused n at r) u v k = h

    pub after_equivalent : {c d : Call} → AlikeCall plan c d → LowEquivalent plan (after plan a p c) (after plan b q d)
    unfolding after
    after_equivalent {c} {d} k = rw (verdict_same k) (unless_equivalent (call_verdict plan b q d) (changed plan a p c) (changed plan b q d) (changed_equivalent k))

    frame_matrix : (kind : FrameKind) (ext : Float) (j : ℕ) → Memᴰ j chosen → get_or (frame_matrices plan a p ext kind) j identity_matrix ≡ get_or (frame_matrices plan b q ext kind) j identity_matrix
    unfolding frame_matrices
    frame_matrix kind ext j m =
        rw (now_same ext, elapsed_same ext)
        (matrices_same kind plan chosen (length a) ok closed _ _ (joint_same (elapsed q ext) _ _ (stepped_equivalent p q h (now_at q ext)) (now_at q ext)) (joint_count plan) identity_matrix j (closed.are_joints j m) m)

    floats_same : {c d : Call} → AlikeCall plan c d → chosen_floats plan a chosen p c ≡ chosen_floats plan b chosen q d
    unfolding chosen_floats
    floats_same (updates delta) = refl
    floats_same (speeds v) = refl
    floats_same (sets n v w e) = refl
    floats_same (frames kind ext len) = map_same _ _ chosen (λ j m. ap floats (frame_matrix kind ext j m))
    floats_same (questions s n time) = refl

    observation_same : {c d : Call} → AlikeCall plan c d
        → observation (call_verdict plan a p c) (after plan a p c) (chosen_floats plan a chosen p c) ≡ observation (call_verdict plan b q d) (after plan b q d) (chosen_floats plan b chosen q d)
    unfolding observation
    observation_same k =
        let e : LowEquivalent plan _ _ = after_equivalent k in
        rw (verdict_same k, floats_same k, e.clock, e.speed, e.state, e.transition)

  pub run_same : (p q : Player) → LowEquivalent plan p q → {cs ds : List Call} → AlikeCalls plan cs ds → run_from plan a chosen p cs ≡ run_from plan b chosen q ds
  unfolding run_from
  run_same p q h none = refl
  run_same p q h (next {c = c} {d = d} {cs = cs} {ds = ds} k ks) =
      rw (observation_same p q h k, run_same (after plan a p c) (after plan b q d) (after_equivalent p q h k) ks)
