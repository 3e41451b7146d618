-- Document 01, "Plan and numbers (anew)": limits, and the places of words, numbers and output floats. Definitions only.
-- Nothing outside this file works out such a place.
use Rattle.std.specs.Prelude.{ℕ, zero, suc, ◌+◌, ◌*◌, Bool, cond, ◌&&◌, ◌||◌, List, get_or, leb, eqb, Float}
use Rattle.std.specs.Float.{nan}
use Rattle.model.specs.declared.Pose.{Pose}
use Rattle.model.specs.Rotations.{quaternion}
use Rattle.model.specs.Pose.{vector}

-- ---- limits

-- Card 11: 'J goes to 400'
abbrev pub max_joints : ℕ
max_joints = 400

abbrev pub max_clips : ℕ
max_clips = 16

abbrev pub max_parameters : ℕ
max_parameters = 32

abbrev pub max_states : ℕ
max_states = 16

abbrev pub max_samples : ℕ
max_samples = 4096

abbrev pub max_nodes : ℕ
max_nodes = 31

abbrev pub max_transitions : ℕ
max_transitions = 16

abbrev pub max_clip_nodes : ℕ
max_clip_nodes = 64

-- Card 11: the parent of a 'root', and the one that marks a root too where the joints are so few that none has its number
abbrev pub root : ℕ
root = 65535

abbrev pub byte_root : ℕ
byte_root = 255

abbrev pub max_byte_root_joints : ℕ
max_byte_root_joints = 64

-- ---- the words: header, parents, sample counts with their endings

-- word i; 0 where there is none
unfoldable pub word : List ℕ → ℕ → ℕ
word plan i = get_or plan i 0

abbrev pub joint_count_at : ℕ
joint_count_at = 0

abbrev pub clip_count_at : ℕ
clip_count_at = 1

abbrev pub parameter_count_at : ℕ
parameter_count_at = 2

abbrev pub state_count_at : ℕ
state_count_at = 3

abbrev pub initial_state_at : ℕ
initial_state_at = 4

abbrev pub parent_at : ℕ → ℕ
parent_at j = 5 + j

-- J, C, P, S
unfoldable pub joint_count : List ℕ → ℕ
joint_count plan = word plan joint_count_at

unfoldable pub clip_count : List ℕ → ℕ
clip_count plan = word plan clip_count_at

unfoldable pub parameter_count : List ℕ → ℕ
parameter_count plan = word plan parameter_count_at

unfoldable pub state_count : List ℕ → ℕ
state_count plan = word plan state_count_at

unfoldable pub initial_state : List ℕ → ℕ
initial_state plan = word plan initial_state_at

unfoldable pub parent : List ℕ → ℕ → ℕ
parent plan j = word plan (parent_at j)

-- Card 11: 'root is 65535; with J at most 64, 255 is a root too'
unfoldable pub is_root_word : ℕ → ℕ → Bool
is_root_word joints p = eqb p root || (eqb p byte_root && leb joints max_byte_root_joints)

unfoldable pub is_root : List ℕ → ℕ → Bool
is_root plan j = is_root_word (joint_count plan) (parent plan j)

-- of a clip: N and its ending
abbrev pub clip_words : ℕ
clip_words = 2

unfoldable pub sample_count_at : List ℕ → ℕ → ℕ
sample_count_at plan c = parent_at (joint_count plan) + clip_words * c

-- N of clip c
unfoldable pub sample_count : List ℕ → ℕ → ℕ
sample_count plan c = word plan (sample_count_at plan c)

-- Card 2, 'a clip without samples'
unfoldable pub is_empty : List ℕ → ℕ → Bool
is_empty plan c = eqb (sample_count plan c) 0

-- Card 1, 'ending word': it follows its N
unfoldable pub ending_at : List ℕ → ℕ → ℕ
ending_at plan c = sample_count_at plan c + 1

unfoldable pub ending : List ℕ → ℕ → ℕ
ending plan c = word plan (ending_at plan c)

-- ending 0 is 'loop', 1 'stop'
unfoldable pub is_stopping : List ℕ → ℕ → Bool
is_stopping plan c = eqb (ending plan c) 1

-- ---- the words of a state: K, its nodes, T, its transitions

-- for a state whose K stands at k: the place of its T, and the place after its transitions
unfoldable pub after_nodes : List ℕ → ℕ → ℕ
after_nodes plan k = k + 1 + 4 * word plan k

unfoldable pub after_transitions : List ℕ → ℕ → ℕ
after_transitions plan k = after_nodes plan k + 1 + 3 * word plan (after_nodes plan k)

-- the place of K of state s
unfoldable pub state_at : List ℕ → ℕ → ℕ
state_at plan zero = sample_count_at plan (clip_count plan)
state_at plan (suc s) = after_transitions plan (state_at plan s)

unfoldable pub node_count : List ℕ → ℕ → ℕ
node_count plan s = word plan (state_at plan s)

-- node i of state s: kind, a, b, p
unfoldable pub kind_at : List ℕ → ℕ → ℕ → ℕ
kind_at plan s i = state_at plan s + 1 + 4 * i

abbrev pub input_a_at : List ℕ → ℕ → ℕ → ℕ
input_a_at plan s i = kind_at plan s i + 1

abbrev pub input_b_at : List ℕ → ℕ → ℕ → ℕ
input_b_at plan s i = kind_at plan s i + 2

abbrev pub node_parameter_at : List ℕ → ℕ → ℕ → ℕ
node_parameter_at plan s i = kind_at plan s i + 3

unfoldable pub kind : List ℕ → ℕ → ℕ → ℕ
kind plan s i = word plan (kind_at plan s i)

-- kind 0 is a clip, 1 lerp, 2 additive
unfoldable pub is_clip : List ℕ → ℕ → ℕ → Bool
is_clip plan s i = eqb (kind plan s i) 0

unfoldable pub is_lerp : List ℕ → ℕ → ℕ → Bool
is_lerp plan s i = eqb (kind plan s i) 1

-- a: the clip of a clip node, the first input of another
unfoldable pub input_a : List ℕ → ℕ → ℕ → ℕ
input_a plan s i = word plan (input_a_at plan s i)

unfoldable pub input_b : List ℕ → ℕ → ℕ → ℕ
input_b plan s i = word plan (input_b_at plan s i)

unfoldable pub node_parameter : List ℕ → ℕ → ℕ → ℕ
node_parameter plan s i = word plan (node_parameter_at plan s i)

unfoldable pub transition_count_at : List ℕ → ℕ → ℕ
transition_count_at plan s = after_nodes plan (state_at plan s)

unfoldable pub transition_count : List ℕ → ℕ → ℕ
transition_count plan s = word plan (transition_count_at plan s)

-- transition t of state s: parameter, operator, target
unfoldable pub condition_parameter_at : List ℕ → ℕ → ℕ → ℕ
condition_parameter_at plan s t = transition_count_at plan s + 1 + 3 * t

abbrev pub operator_at : List ℕ → ℕ → ℕ → ℕ
operator_at plan s t = condition_parameter_at plan s t + 1

abbrev pub target_state_at : List ℕ → ℕ → ℕ → ℕ
target_state_at plan s t = condition_parameter_at plan s t + 2

unfoldable pub condition_parameter : List ℕ → ℕ → ℕ → ℕ
condition_parameter plan s t = word plan (condition_parameter_at plan s t)

unfoldable pub operator : List ℕ → ℕ → ℕ → ℕ
operator plan s t = word plan (operator_at plan s t)

unfoldable pub target_state : List ℕ → ℕ → ℕ → ℕ
target_state plan s t = word plan (target_state_at plan s t)

-- the place after the last state
unfoldable pub plan_end : List ℕ → ℕ
plan_end plan = state_at plan (state_count plan)

-- the words before the states, and all words, of a plan with the most joints, clips, states, nodes and transitions
abbrev pub max_states_at : ℕ
max_states_at = parent_at max_joints + clip_words * max_clips

abbrev pub max_plan : ℕ
max_plan = max_states_at + max_states * (2 + 4 * max_nodes + 3 * max_transitions)

-- ---- counts over states and clips

-- f 0 + .. + f (n - 1)
unfoldable pub total : (ℕ → ℕ) → ℕ → ℕ
total f zero = 0
total f (suc n) = total f n + f n

-- clip nodes of state s before its node i
unfoldable pub clip_nodes_among : List ℕ → ℕ → ℕ → ℕ
clip_nodes_among plan s i = total (λ k. cond (is_clip plan s k) 1 0) i

unfoldable pub clip_nodes_before : List ℕ → ℕ → ℕ
clip_nodes_before plan s = total (λ u. clip_nodes_among plan u (node_count plan u)) s

-- the number, over the whole plan, of the clip node that is node i of state s
unfoldable pub clip_node_at : List ℕ → ℕ → ℕ → ℕ
clip_node_at plan s i = clip_nodes_before plan s + clip_nodes_among plan s i

unfoldable pub transitions_before : List ℕ → ℕ → ℕ
transitions_before plan s = total (transition_count plan) s

unfoldable pub samples_before : List ℕ → ℕ → ℕ
samples_before plan c = total (sample_count plan) c

-- ---- the numbers

-- A number's name. `Rate c`; `Value` and `Duration` by state and transition; `PoseFloat` by clip, sample, joint and one of eight
pub data NumberName : Type 0 where
  Rate : ℕ → NumberName
  Value Duration : ℕ → ℕ → NumberName
  PoseFloat : ℕ → ℕ → ℕ → ℕ → NumberName

unfoldable pub poses_at : List ℕ → ℕ
poses_at plan = clip_count plan + 2 * transitions_before plan (state_count plan)

unfoldable pub number_at : List ℕ → NumberName → ℕ
number_at plan (Rate c) = c
number_at plan (Value s t) = clip_count plan + 2 * (transitions_before plan s + t)
number_at plan (Duration s t) = clip_count plan + 2 * (transitions_before plan s + t) + 1
number_at plan (PoseFloat c n j k) = poses_at plan + ((samples_before plan c + n) * joint_count plan + j) * 8 + k

-- how many numbers the plan says
unfoldable pub numbers_length : List ℕ → ℕ
numbers_length plan = poses_at plan + samples_before plan (clip_count plan) * joint_count plan * 8

unfoldable pub number : List ℕ → List Float → NumberName → Float
number plan numbers name = get_or numbers (number_at plan name) nan

-- clip c's pose of joint j in sample n
unfoldable pub sample_pose : List ℕ → List Float → ℕ → ℕ → ℕ → Pose
sample_pose plan numbers c n j =
    let float : ℕ → Float = λ k. number plan numbers (PoseFloat c n j k) in
    record { translation = vector (float 0) (float 1) (float 2); scale = float 3; rotation = quaternion (float 4) (float 5) (float 6) (float 7) }

-- ---- the output: joint j's matrix begins here

abbrev pub output_at : ℕ → ℕ
output_at j = 16 * j

abbrev pub max_output : ℕ
max_output = output_at max_joints
