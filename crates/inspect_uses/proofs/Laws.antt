-- Lines of marks written piece by piece, and what they come to for a figure. Assumes nothing.
use Rattle.std.proofs.Common.{◌≡◌, ℕ, ◌≤◌, Bool, true, false, cond, List, [], ◌∷◌, length, take, refl, sym, ap}
use mir.Val.{bool_byte}
use Rattle.std.specs.Prelude.{Float, Ok, Err}
use Rattle.std.proofs.lemmas.List.{append-nil, get_or-take, length-take-le}
use Rattle.model.specs.declared.Refusal.{Refusal}
use Rattle.model.specs.declared.Uses.{Uses}
use Rattle.model.specs.declared.LineKind.TheVariants.{State, Clip}
use Rattle.model.specs.Answers.{accepted, values, unless_refused}
use Rattle.model.specs.Plan.{max_states, max_parameters, max_clips}
use Rattle.model.specs.Plan.{state_count, parameter_count, clip_count}
use Rattle.model.specs.Run.{start_verdict}
use Rattle.model.specs.Text.{line_feed, name}
use Rattle.model.specs.Program.{decimal_fields}
use Rattle.model.specs.Promises.{UsesFound}
use Rattle.model.proofs.Laws.Passed.{few_states, few_parameters, few_clips}
use Rattle.printing.specs.declared.Writer.{Writer}
use Rattle.printing.specs.Written.{Wrote}
use Rattle.printing.proofs.Laws.{more_written, joined_same}
use Rattle.report.specs.Report.{answer_line}
use Rattle.inspect_uses.specs.UsesText.{mark_line, mark_lines, parameter_name, use_lines, uses_text, uses_shown}

-- ---- lines

pub mark_digit : (mark : Bool) → bool_byte mark ≡ cond mark 1 0
mark_digit true = refl
mark_digit false = refl

pub mark_written : {p q r s t : Writer} (kind : List ℕ) (k : ℕ) (mark : Bool) (digit : ℕ)
    → digit ≡ cond mark 1 0 → Wrote kind p q → Wrote (decimal_fields (k ∷ [])) q r
    → Wrote (decimal_fields (digit ∷ [])) r s → Wrote (line_feed ∷ []) s t
    → Wrote (mark_line kind k mark) p t
unfolding mark_line
mark_written kind k mark digit e w i m l = rw (← e) (more_written (more_written (more_written w i) m) l)

-- of the first n of more marks
pub marks_written : {p q : Writer} (kind : List ℕ) (marks : List Bool) (n : ℕ) → n ≤ length marks
    → Wrote (mark_lines kind (length (take n marks)) (take n marks)) p q → Wrote (mark_lines kind n marks) p q
marks_written kind marks n inside w =
    let all : length (take n marks) ≡ n = length-take-le n marks inside in
    let same : mark_lines kind n (take n marks) ≡ mark_lines kind n marks =
    joined_same n _ _ (λ k h. ap (mark_line kind k) (get_or-take n marks k false h)) in
    rw (← same) (rw all at w)

-- the three kinds, one behind the other
pub uses_written : {p q r s : Writer} (plan : List ℕ) (states parameters clips : List Bool)
    → Wrote (mark_lines (name State) (state_count plan) states) p q
    → Wrote (mark_lines parameter_name (parameter_count plan) parameters) q r
    → Wrote (mark_lines (name Clip) (clip_count plan) clips) r s
    → Wrote (use_lines plan states parameters clips) p s
unfolding use_lines
uses_written plan states parameters clips s p c = more_written (more_written s p) c

-- ---- a figure

module _ (plan : List ℕ) (numbers : List Float) where
  pub refused_shown : (f : Refusal) → UsesFound plan numbers (Err f) → answer_line (values {A = Unit {0}} (Err f)) ≡ uses_shown plan numbers
  unfolding values uses_text unless_refused
  refused_shown f done = rw (← done.answer) (sym (append-nil _))

  module _ (u : Uses) (done : UsesFound plan numbers (Ok u)) where
    started : start_verdict plan numbers ≡ accepted
    unfolding values
    started = sym done.answer

    pub few : (state_count plan ≤ max_states) × (parameter_count plan ≤ max_parameters) × (clip_count plan ≤ max_clips)
    unfolding start_verdict
    few =
        let n = length numbers in
        (few_states plan n started, few_parameters plan n started, few_clips plan n started)

    pub found_written : {p q r : Writer} → Wrote (answer_line (values {A = Unit {0}} (Ok tt))) p q
        → Wrote (use_lines plan u.states u.parameters u.clips) q r
        → Wrote (uses_shown plan numbers) p r
    unfolding values uses_text unless_refused
    found_written v l = rw started (more_written v (rw (done.states, done.parameters, done.clips) at l))
