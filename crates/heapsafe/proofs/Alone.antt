-- How a run without input went.
use Rattle.std.proofs.Common.{◌≡◌, ℕ, List, [], length, Option, None, Some, refl, sym, ap, ◌∙◌, subst, arith, false}
use Rattle.hs_base.specs.declared.ends.End.{End}
use Rattle.hs_base.specs.declared.ends.End.TheVariants as end
use Rattle.hs_base.specs.declared.ends.Limits.{Limits}
use Rattle.hs_base.specs.Trace.{Event, bytes_out}
use Rattle.core_tree.specs.declared.program.Core.{Core}
use Rattle.flat_codegen.specs.Lasting.{MakesSteps}
use Rattle.flat_codegen.specs.Running.{RunAnswers, Whole}
use Rattle.flat_machine.specs.Running.{RunCounts}
use Rattle.command_words.specs.Commands.{Run as Runs}
use Rattle.generated_text.specs.Summary.{summary_line}
use Rattle.generated_text.specs.Text.{generated}
use Rattle.generated_text.specs.declared.summary.Summary.{Summary}
use Rattle.heapsafe.specs.declared.generated.Ran.{Ran}
use Rattle.heapsafe.specs.declared.program.Way.TheVariants.{Run}
use Rattle.heapsafe.specs.Shown.{Shown, written}
use Rattle.heapsafe.specs.Program.{AnswersWay, Ended, ended, run_within, status_of}
use Rattle.heapsafe.specs.Answer.{AnswersText, RunMakes, alone, no_input}
use Rattle.heapsafe.specs.Generated.{HasOnly, IsWithout, MakesOnly, SumsUp, Went, steps_of}

-- the bytes that a sink has kept which kept none before
kept_is : (kept written : List ℕ) → Some kept ≡ Some written → kept ≡ written
kept_is kept written e = cc

one_end : (x y : End) → Some x ≡ Some y → x ≡ y
one_end x y e = cc

module _ (core : Core) (limits : Limits) (steps : ℕ) (left : Option (List ℕ)) (kept : List ℕ) (ran : Ran) (output : ran.output ≡ length kept) (text : List ℕ) where
  abbrev Answered : Type 0
  Answered = Went (AnswersWay [] (alone [] text) core no_input (Run limits steps false false)) ran

  whole : (x : End) → Whole core [] steps limits [] x left (Some kept) → ran.status ≡ status_of x → Answered
  whole x w status = record {
    shown = ended [] (alone [] text) core None (run_within limits core [] steps false).events x [];
    is = record { how = x; leaks = []; ends = w.end; told = refl; is = refl };
    output = output ∙ ap length (kept_is kept (bytes_out (run_within limits core [] steps false).events) w.is_taken);
    status = status;
    only = λ other e. one_answer other e;
  } where
    events : List Event
    events = (run_within limits core [] steps false).events

    one_answer : (other : Shown) → Ended [] (alone [] text) core (λ e. None) (run_within limits core [] steps false) other → (length other.out ≡ ran.output) × (other.status ≡ ran.status)
    one_answer other e =
        let same : x ≡ e.how = one_end x e.how (sym w.end ∙ e.ends) in (
          ap (λ (s : Shown). length s.out) e.is ∙ sym (output ∙ ap length (kept_is kept (bytes_out events) w.is_taken)),
          ap (λ (s : Shown). s.status) e.is ∙ sym (ap status_of same) ∙ sym status,
        )

  -- neither the input nor the output failed
  pub went : (x : End) (i i' o o' : ℕ) → RunAnswers core [] steps limits [] x left (Some kept) → RunCounts x i i' o o' → i' ≡ i → (x ≡ end.OutputFault → ⊥) → ran.status ≡ status_of x → Answered
  went (end.Exit code) i i' o o' w counts same fine status = whole (end.Exit code) w status
  went (end.Trap kind line) i i' o o' w counts same fine status = whole (end.Trap kind line) w status
  went (end.BadFree why holder) i i' o o' w counts same fine status = whole (end.BadFree why holder) w status
  went (end.Escape func local line) i i' o o' w counts same fine status = whole (end.Escape func local line) w status
  went end.Spent i i' o o' w counts same fine status = whole end.Spent w status
  went (end.OutOfStack line) i i' o o' w counts same fine status = whole (end.OutOfStack line) w status
  went end.InputFault i i' o o' w counts same fine status = absurd (omega (arith, counts.0, same))
  went end.OutputFault i i' o o' w counts same fine status = absurd (fine refl)

-- such a run made the steps of the core
pub made : (core : Core) (room : Limits) (steps : ℕ) (x : End) (i i' o o' steps_made : ℕ) → MakesSteps core [] steps room x steps_made → RunCounts x i i' o o' → i' ≡ i → (x ≡ end.OutputFault → ⊥) → steps_made ≡ steps_of core room steps
made core room steps (end.Exit code) i i' o o' steps_made h counts same fine = h
made core room steps (end.Trap kind line) i i' o o' steps_made h counts same fine = h
made core room steps (end.BadFree why holder) i i' o o' steps_made h counts same fine = h
made core room steps (end.Escape func local line) i i' o o' steps_made h counts same fine = h
made core room steps end.Spent i i' o o' steps_made h counts same fine = h
made core room steps (end.OutOfStack line) i i' o o' steps_made h counts same fine = h
made core room steps end.InputFault i i' o o' steps_made h counts same fine = absurd (omega (arith, counts.0, same))
made core room steps end.OutputFault i i' o o' steps_made h counts same fine = absurd (fine refl)

module _ (text : List ℕ) (limits : Limits) (steps : ℕ) where
  abbrev Filed : Ran → Type 0
  Filed ran = Went (AnswersText [] text no_input (Runs limits.heap limits.stack steps false false)) ran

  -- a text with a core alone goes as that does
  pub core_went : (core : Core) (ran : Ran) → HasOnly text core → Went (AnswersWay [] (alone [] text) core no_input (Run limits steps false false)) ran → Filed ran
  core_went core ran has w = record {
    shown = w.shown;
    is = has.answers [] no_input limits.heap limits.stack steps w.shown w.is;
    output = w.output;
    status = w.status;
    only = λ other is. w.only other (has.answered [] no_input limits.heap limits.stack steps other is);
  }

  pub refused_went : (status : ℕ) → IsWithout text status → Filed (record { output = 0; steps = 0; status = status })
  refused_went status has =
      let answer = has.answers [] no_input limits.heap limits.stack steps in
      record {
        shown = answer.0;
        is = answer.1;
        output = sym (ap length answer.2);
        status = sym answer.3;
        only = λ other is. let said = has.only [] no_input limits.heap limits.stack steps other is in (ap length said.0, said.1);
      }

-- and makes its steps
pub core_makes : (text : List ℕ) (room : Limits) (n : ℕ) (core : Core) (steps_made : ℕ) → HasOnly text core → steps_made ≡ steps_of core room n → MakesOnly text room n steps_made
core_makes text room n core steps_made has is = record {
  is = record {
    run = λ other of_text. subst (λ (c : Core). steps_made ≡ steps_of c room n) (sym (has.only other of_text)) is;
    refused = λ none. absurd (none core has.has);
  };
  only = λ other makes. makes.run core has.has ∙ sym is;
}

pub refused_makes : (text : List ℕ) (room : Limits) (n status : ℕ) → IsWithout text status → MakesOnly text room n 0
refused_makes text room n status has = record {
  is = record { run = λ core of_text. absurd (has.none core of_text); refused = λ none. refl };
  only = λ other makes. makes.refused has.none;
}

abbrev summary : (number text output steps status : ℕ) → Summary
summary number text output steps status =
    record { number = number; text = text; output = output; steps = steps; status = status }

summary_is : (number t t' o o' n n' x x' : ℕ) → t ≡ t' → o ≡ o' → n ≡ n' → x ≡ x' → summary number t o n x ≡ summary number t' o' n' x'
summary_is number t t' o o' n n' x x' e f g h = cc

abbrev default_room : Limits
default_room = record { heap = 16777216; stack = 1048576 }

abbrev AsRun : List ℕ → Shown → Type 0
AsRun text a = AnswersText [] text no_input (Runs 16777216 1048576 100000000 false false) a

-- the summary of a run
pub sums_up : (number : ℕ) (text : List ℕ) (ran : Ran) → text ≡ generated number → Went (AsRun text) ran → MakesOnly text default_room 100000000 ran.steps → SumsUp number (record { number = number; text = length text; output = ran.output; steps = ran.steps; status = ran.status })
sums_up number text ran same w makes = record {
  run = w.shown;
  made = ran.steps;
  runs = record {
    is_run = subst (λ (t : List ℕ). AsRun t w.shown) same w.is;
    makes = subst (λ (t : List ℕ). RunMakes t default_room 100000000 ran.steps) same makes.is;
  };
  is = summary_is number (length text) (length (generated number)) ran.output (length w.shown.out) ran.steps ran.steps ran.status w.shown.status (ap length same) w.output refl w.status;
  only = λ a is.
      let other = w.only is.run (subst (λ (t : List ℕ). AsRun t is.run) (sym same) is.runs.is_run) in
      let made = makes.only is.made (subst (λ (t : List ℕ). RunMakes t default_room 100000000 is.made) (sym same) is.runs.makes) in
      is.shows ∙ ap (λ (s : Summary). written (summary_line s))
      (summary_is number (length (generated number)) (length text) (length is.run.out) ran.output is.made ran.steps is.run.status ran.status (sym (ap length same)) other.0 made other.1);
}
