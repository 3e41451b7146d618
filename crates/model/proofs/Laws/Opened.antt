-- Names that unfold whole groups of definitions, for theorems that are shown by computing.
use Rattle.std.specs.Float.Ieee.{add, sub, mul, div, lt, le, eq, ne, neg, odd, size, round, of_int, to_unsigned, to_bits, of_bits}
use Rattle.model.specs.Numbers.{narrow, whole, floor, ceiling, floor_index, ceiling_index, index_float, first_guess, inv_sqrt}
use Rattle.model.specs.Rotations.{normalised, lerp_quaternion, identity_matrix, product_row, product, floats, quaternion_to_matrix, from_trace, from_diagonal, matrix_to_quaternion}
use Rattle.model.specs.Pose.{identity_pose, lerp, to_matrix, from_matrix, concat}
use Rattle.model.specs.Answers.{values, ◌then◌, each, require, unless_refused}
use Rattle.model.specs.Plan.{word, joint_count, clip_count, parameter_count, state_count, initial_state, parent, is_root_word, is_root, sample_count_at, sample_count, is_empty, ending_at, ending, is_stopping, after_nodes, after_transitions, state_at, node_count, kind_at, kind, is_clip, is_lerp, input_a, input_b, node_parameter, transition_count_at, transition_count, condition_parameter_at, condition_parameter, operator, target_state, plan_end, total, clip_nodes_among, clip_nodes_before, clip_node_at, transitions_before, samples_before, poses_at, number_at, numbers_length, number, sample_pose}
use Rattle.model.specs.Check.{word_is, within, check_header, check_parent, check_clip, used, check_node, check_transition, check_state, check}
use Rattle.model.specs.Table.{table_to}
use Rattle.model.specs.Uses.{any_below, leads_to, blends_by, asks_for, reads, plays, reached_in, state_marks, by_marked_state, parameter_marks, clip_marks}
use Rattle.model.specs.Clips.{first_index, second_index, factor, sampled_position, blank_instances, duration, pose_at, clip_pose}
use Rattle.model.specs.Tree.{additive, target_length, synchronized_rate, plays_samples, is_touched, node_length, node_target, input_synchronized, synchronize_node, synchronize_nodes, synchronize, node_pose, node_poses, state_pose}
use Rattle.model.specs.Controller.{blank, synchronize_states, fresh, is_target_below, frame_verdict, now_at, is_ended, holds, first_passing, winner, started_by, step_from, elapsed, transition_factor, current_instances, target_instances, instances_in, current_pose, target_pose, pose_in}
use Rattle.model.specs.Skeleton.{upper_transposed, own_matrix, parent_matrix, joint_matrix, joint_matrices, flat, written}
use Rattle.model.specs.Run.{start_verdict, start_player, frame_player, frame_matrices, call_verdict, changed, after, chosen_floats, observation, run_from, run}

-- the check of a plan
unfoldable pub check_opened : Unit {0}
unfolding ◌then◌ each require word joint_count clip_count parameter_count state_count initial_state parent is_root_word is_root sample_count_at sample_count is_empty ending_at ending is_stopping after_nodes after_transitions state_at node_count kind_at kind is_clip is_lerp input_a input_b node_parameter transition_count_at transition_count condition_parameter_at condition_parameter operator target_state plan_end total clip_nodes_among clip_nodes_before clip_node_at transitions_before samples_before poses_at number_at numbers_length word_is within check_header check_parent check_clip used check_node check_transition check_state check
check_opened = tt

-- the marks of a plan
unfoldable pub uses_opened : Unit {0}
unfolding check_opened table_to any_below leads_to blends_by asks_for reads plays reached_in state_marks by_marked_state parameter_marks clip_marks
uses_opened = tt

-- the float definitions
unfoldable pub floats_opened : Unit {0}
unfolding add sub mul div lt le eq ne neg odd size round of_int to_unsigned to_bits of_bits narrow whole floor ceiling floor_index ceiling_index index_float first_guess inv_sqrt normalised lerp_quaternion identity_matrix product_row product floats quaternion_to_matrix from_trace from_diagonal matrix_to_quaternion identity_pose lerp to_matrix from_matrix concat first_index second_index factor sampled_position target_length synchronized_rate now_at elapsed transition_factor
floats_opened = tt

unfoldable pub all_opened : Unit {0}
unfolding check_opened floats_opened values unless_refused number sample_pose table_to blank_instances duration pose_at clip_pose additive plays_samples is_touched node_length node_target input_synchronized synchronize_node synchronize_nodes synchronize node_pose node_poses state_pose blank synchronize_states fresh is_target_below frame_verdict is_ended holds first_passing winner started_by step_from current_instances target_instances instances_in current_pose target_pose pose_in upper_transposed own_matrix parent_matrix joint_matrix joint_matrices flat written start_verdict start_player frame_player frame_matrices call_verdict changed after chosen_floats observation run_from run
all_opened = tt
