-- Writing a figure as text and reading it undo each other. The claims are in the words of Counted.antt and RoundTrip.antt.
use Rattle.std.specs.Prelude.{ℕ, ◌≤◌, ◌<◌, ◌≡◌, List, [], map, length, get_or, T, Float}
use Rattle.std.proofs.Common.{arith, ap, ◌∙◌, append-nil}
use Rattle.std.proofs.lemmas.List.{length-map}
use Rattle.std.specs.Float.{nan, binary32}
use Rattle.std.specs.Float.Ieee.{fits, to_bits, of_bits}
use Rattle.model.specs.declared.LineKind.TheVariants.{Figure}
use Rattle.model.specs.Plan.{max_plan, word, joint_count, clip_count, parameter_count, state_count}
use Rattle.model.specs.Text.{max_word, forms, got, read_figure, floats_of}
use Rattle.model.specs.Program.{part, figure_text}
use Rattle.model.specs.Answers.{accepted}
use Rattle.model.specs.Run.{start_verdict}
use Rattle.round_trip.proofs.Laws.Fields.{max_pattern}
use Rattle.round_trip.proofs.Laws.Lines.{Within, most_get_or}
use Rattle.round_trip.specs.Counted.{CountedPlan, Counted}
use Rattle.round_trip.specs.RoundTrip.{Reads, Writes, floats_text, ReadsFloats, WritesFloats, of_content}
use Rattle.round_trip.proofs.Laws.Parts.{holds_all, holds_whole}
use Rattle.round_trip.proofs.Laws.Patterns.{floats_same, patterns_below, floats_fit, canonical_same}
use Rattle.round_trip.proofs.Laws.Forward.{got_figure}
use Rattle.round_trip.proofs.Laws.Backward.{ends_figure, undone_figure}
use Rattle.round_trip.proofs.Laws.Refusals.{check_of}
use Rattle.round_trip.proofs.Laws.Longest.{plan_most}
use Rattle.round_trip.proofs.Laws.Accepted.{counted}

-- what is written for a figure that a text can hold is read back
pub reads_back : (plan bits : List ℕ) → Counted plan bits → Reads (figure_text plan bits) plan bits
reads_back plan bits ok =
    let g = got_figure plan bits ok in
    let words : g.words ≡ plan = holds_whole plan g.words g.in_plan.same (omega (arith, g.in_plan.end, ok.counts.plan_length)) in
    let patterns : g.patterns ≡ bits = holds_whole bits g.patterns g.in_bits.same (omega (arith, g.in_bits.end, ok.counts.numbers_count)) in
    record { lines = g.lines; reading = g.reading ∙ rw (words, patterns) }

-- a text that is accepted is the one that is written for what was read, down to the last byte, and that is a figure that a text can hold
pub writes_back : (text ws bs rest : List ℕ) (n : ℕ) → read_figure text ≡ got ws bs rest n → Writes text ws bs rest
unfolding forms part word joint_count clip_count parameter_count state_count
writes_back text ws bs rest n e =
    let u = undone_figure ws bs text ws bs rest n e (holds_all ws) (holds_all bs) in
    let ended : rest ≡ [] = ends_figure text ws bs rest n e in
    let header : Within (forms Figure) (part ws 0 5) [] = u.facts.header in
    record {
      counted = record {
        counts = record {
          words = λ i. most_get_or max_word ws i u.words_most;
          joints = header.0;
          clips = header.1.0;
          parameters = header.1.1.0;
          states = header.1.1.1.0;
          samples = u.facts.samples;
          nodes = λ s h. (u.facts.states s h).0;
          transitions = λ s h. (u.facts.states s h).1;
          plan_length = omega (arith, u.words_end);
          numbers_count = omega (arith, u.bits_end);
        };
        patterns = λ i. omega (arith, most_get_or max_pattern bs i u.bits_most);
      };
      written = u.written ∙ rw ended (append-nil (figure_text ws bs));
      ended = ended;
    }

-- floats of 32 bits are read back as they were, a NaN included
pub floats_back : (plan : List ℕ) (numbers : List Float) → CountedPlan plan (length numbers)
    → ((i : ℕ) → i < length numbers → T (fits binary32 (get_or numbers i nan))) → ReadsFloats (floats_text plan numbers) plan numbers
floats_back plan numbers ok fit =
    let bits = map (to_bits binary32) numbers in
    record {
      bits = bits;
      reads = reads_back plan bits record { counts = rw (length-map numbers (to_bits binary32)) ok; patterns = patterns_below numbers fit };
      floats = floats_same numbers fit;
    }

-- every figure that a start accepts can be written: its text is read back to its words and floats
pub accepted_back : (plan : List ℕ) (numbers : List Float) → start_verdict plan numbers ≡ accepted → ((i : ℕ) → word plan i ≤ max_word)
    → ((i : ℕ) → i < length numbers → T (fits binary32 (get_or numbers i nan))) → ReadsFloats (floats_text plan numbers) plan numbers
unfolding start_verdict
accepted_back plan numbers ok words fit = floats_back plan numbers (counted plan (length numbers) ok words) fit

-- an accepted text's floats are written as that text, but for NaN patterns
pub floats_written : (text ws bs rest : List ℕ) (n : ℕ) → read_figure text ≡ got ws bs rest n → WritesFloats text ws bs
floats_written text ws bs rest n e =
    let w = writes_back text ws bs rest n e in
    record {
      written = w.written;
      rewritten = ap (figure_text ws) (canonical_same bs w.counted.patterns);
      again = floats_back ws (floats_of bs) (rw (length-map bs (of_bits binary32)) w.counted.counts) (floats_fit bs);
    }

-- what a start says of a text's figure is about the content of words, never about lengths
pub content_only : (text ws bs rest : List ℕ) (n : ℕ) → read_figure text ≡ got ws bs rest n → of_content (start_verdict ws (floats_of bs))
unfolding start_verdict
content_only text ws bs rest n e =
    let counts = (writes_back text ws bs rest n e).counted.counts in
    check_of ws counts.plan_length (length (floats_of bs)) (length-map bs (of_bits binary32) ∙ counts.numbers_count)

-- how long a slice has to be for the plan of any text
pub words_most : (text ws bs rest : List ℕ) (n : ℕ) → read_figure text ≡ got ws bs rest n → length ws ≤ max_plan
words_most text ws bs rest n e = plan_most ws (length bs) (writes_back text ws bs rest n e).counted.counts
