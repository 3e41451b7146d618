-- Document 02, Card 7, beside demand 3: what questions for loops are told of reachable states is the same in two alike figures. One theorem about whole lists.
use Rattle.std.specs.Prelude.{ℕ, ◌/◌, ◌%◌, ◌<◌, ◌≡◌, length, ltb, Float}
use Rattle.std.proofs.Math.Path.{refl, ap, ap₂}
use Rattle.std.proofs.Common.{sym, ◌∙◌}
use mathlib.Core.List.{List, [], ◌∷◌, map}
use borrow.Author.Tests.{ltb-true}
use Rattle.model.specs.declared.ClipInstance.{ClipInstance}
use Rattle.model.specs.declared.Player.{Player}
use Rattle.model.specs.Numbers.{◌*₃₂◌, floor_index}
use Rattle.model.specs.Answers.{Verdict, accepted, refused, unless_refused}
use Rattle.model.specs.Plan.{state_count, node_count, is_clip, input_a, clip_node_at}
use Rattle.model.specs.Check.{check}
use Rattle.model.specs.Clips.{local_time, instance_at, position_of}
use Rattle.model.specs.Controller.{fresh}
use Rattle.model.specs.Loops.{loops_verdict, loop_length, played_index, whole_loops, loop_rest}
use Rattle.model.specs.Run.{Call, Loops, call_verdict, after, told, start_verdict}
use Rattle.model.specs.Uses.{is_marked, state_marks}
use Rattle.model.specs.Unseen.{Reachable, by_clip}
use Rattle.model.proofs.Laws.Loops.{is_clip_node_lem}
use Rattle.model.proofs.Laws.Reached.{marked_reachable}
use Rattle.model.proofs.Laws.Tests.{and_left, and_right}
use Rattle.noninterference.specs.Alike.{Closed, AlikeNumbers, AlikeCall, updates, speeds, sets, frames, questions, AlikeCalls, none, next}
use Rattle.noninterference.specs.Trace.{Event, Trace, Session, calls, of_reachable, told_in}
use Rattle.noninterference.specs.Questions.{told_from}
use Rattle.noninterference.proofs.Laws.Lists.{cond_same}
use Rattle.noninterference.proofs.Laws.Numbers.{rate_same}
use Rattle.noninterference.specs.Laws.Trees.{instance_of}
use Rattle.noninterference.proofs.Laws.Trees.{instance_same}
use Rattle.noninterference.proofs.Laws.Players.{LowEquivalent, fresh_equivalent, after_equivalent, verdict_same}
use Rattle.noninterference.proofs.Laws.Output.{told_by, first, session_accepted, session_fresh}

-- ---- a trace is told that

module _ (plan chosen : List ℕ) (numbers : List Float) (closed : Closed plan chosen) where
  trace_told : {p : Player} {es : List Event} → Trace plan numbers p es → map (told_in plan) es ≡ told_from plan numbers p (calls es)
  unfolding told_from
  trace_told {es = []} t = refl
  trace_told {es = e ∷ es} t =
      let f = first plan chosen numbers closed t in
      ap₂ {C = List (List ℕ)} (λ (x : List ℕ) (xs : List (List ℕ)). x ∷ xs) f.defined.counts
      (trace_told f.later ∙ ap (λ (q : Player). told_from plan numbers q (calls es)) f.defined.player)

-- ---- and alike figures tell the same

unless_both : {A : Type 0} (v : Verdict) (x y z : A) → (v ≡ accepted → x ≡ y) → unless_refused v x z ≡ unless_refused v y z
unfolding unless_refused
unless_both accepted x y z e = e refl
unless_both (refused number place rest) x y z e = refl

module _ (plan chosen : List ℕ) (a b : List Float) (ok : check plan (length a) ≡ accepted) (closed : Closed plan chosen) (alike : AlikeNumbers plan chosen a b) where
  module _ (p q : Player) (h : LowEquivalent plan p q) where
    -- the instance and the rate of a reachable state's clip node are seen
    counts_same : (s n : ℕ) (time : Float) → Reachable plan s → loops_verdict plan a p s n ≡ accepted → told plan a p (Loops s n time) ≡ told plan b q (Loops s n time)
    unfolding told whole_loops loop_rest played_index
    counts_same s n time r e =
        let node = is_clip_node_lem plan a p s n e in
        let inner = and_right (ltb s (state_count plan)) _ node in
        let below : n < node_count plan s = ltb-true n (node_count plan s) (and_left _ (is_clip plan s n) inner) in
        let clip = and_right (ltb n (node_count plan s)) _ inner in
        let samples = loop_length plan s n in
        ap (λ (index : ℕ). index / samples ∷ index % samples ∷ [])
        (ap (λ (i : ClipInstance). floor_index (position_of plan a (input_a plan s n) (local_time i time))) (instance_same plan h.instances (clip_node_at plan s n) (instance_of r n below clip _ refl))
        ∙ ap (λ (rate : Float). floor_index (local_time (instance_at q.instances (clip_node_at plan s n)) time *₃₂ rate)) (rate_same plan chosen a b ok closed alike (by_clip r n below clip)))

    told_same : {c d : Call} → AlikeCall plan c d → told_by plan chosen a closed p c ≡ told_by plan chosen b closed q d
    unfolding of_reachable call_verdict
    told_same (updates delta) = refl
    told_same (speeds v) = refl
    told_same (sets n v w e) = refl
    told_same (frames kind ext len) = refl
    told_same (questions s n time) =
        cond_same (is_marked (state_marks plan) s)
        (λ m. let r = marked_reachable plan (length a) ok m in
        unless_both (loops_verdict plan a p s n) _ (told plan b q (Loops s n time)) _ (counts_same s n time r)
        ∙ ap (λ (v : Verdict). unless_refused v (told plan b q (Loops s n time)) (0 ∷ 0 ∷ [])) (verdict_same plan chosen a b ok closed alike p q h (questions s n time)))
        (λ m. refl)

  from_same : (p q : Player) → LowEquivalent plan p q → {cs ds : List Call} → AlikeCalls plan cs ds → told_from plan a p cs ≡ told_from plan b q ds
  unfolding told_from
  from_same p q h none = refl
  from_same p q h (next {c = c} {d = d} {cs = cs} {ds = ds} k ks) =
      rw (told_same p q h k, from_same (after plan a p c) (after plan b q d) (after_equivalent plan chosen a b ok closed alike p q h k) ks)

-- The premises are demand 3's. Each question, wherever it stands in the list, is told the same in both
pub loops_stay :
    (plan chosen : List ℕ) (a b : List Float)
    → Closed plan chosen
    → AlikeNumbers plan chosen a b
    → (es fs : List Event)
    → Session plan a es
    → Session plan b fs
    → AlikeCalls plan (calls es) (calls fs)
    → map (told_in plan) es ≡ map (told_in plan) fs
unfolding start_verdict
loops_stay plan chosen a b closed alike es fs s t k =
    let ok : start_verdict plan a ≡ accepted = session_accepted plan chosen a closed s in
    let p = session_fresh plan chosen a closed s in
    let q = session_fresh plan chosen b closed t in
    trace_told plan chosen a closed s.trace
    ∙ ap (λ (x : Player). told_from plan a x (calls es)) p
    ∙ from_same plan chosen a b ok closed alike (fresh plan a) (fresh plan b) (fresh_equivalent plan chosen a b ok closed alike) k
    ∙ sym (trace_told plan chosen b closed t.trace ∙ ap (λ (x : Player). told_from plan b x (calls fs)) q)
