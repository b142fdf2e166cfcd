-- How a command is served that says a line alone, and in other words.
use Rattle.std.proofs.Common.{◌≡◌, ◌≢◌, ◌⊎◌, ◌+◌, ◌<◌, ◌∙◌, ℕ, List, [], Option, Some, None, inl, inr, refl, sym, ap, subst, arith, ⊎_elim}
use Rattle.hs_base.specs.declared.outside.Texts as reading
use Rattle.bad_free_report.specs.Notice.{Notice, Nothing, said}
use Rattle.bad_free_report.specs.declared.form.Form.{Form}
use Rattle.bad_free_report.specs.declared.form.Form.TheVariants.{Lines, Json}
use Rattle.command_words.specs.Commands.{Command}
use Rattle.heapsafe.specs.Answer.{AnswersCommand, AsksNoFile, AsksNoMeaning, AsksNone, AsksOne, files_asked}
use Rattle.heapsafe.specs.Program.{Input, input_of, steady}
use Rattle.heapsafe.specs.Saying.{Breaks, BreaksOff, HasCause, IsFault, IsTextOf, Refuses, Says, SaysMore, SaysOnly, StreamFails, TakesAll, TakesFront, TakesSaid, Wants, unread_files}
use Rattle.heapsafe.specs.Serving.{Answered, Obeys, Serves, Writes, WritesSome}
use Rattle.heapsafe.specs.Shown.{Shown, no_memory, output_fault, text_fault, usage, written}
use Rattle.heapsafe.specs.Sight.{KeepsBoth, KeepsInput, KeepsOut, Sight}
use Rattle.heapsafe.proofs.Told.{IsSilent, faults_as, gives_more, gives_said, said_faults, takes_none}
use Rattle.heapsafe.proofs.Broken.{broken_own, broken_said, broken_text, off_as, unread_none}
use Rattle.heapsafe.proofs.Statuses.{never_refused, no_fault, refusal_low}

-- nothing is said in either form
said_nothing : (f : Form) → said f Nothing ≡ []
said_nothing Lines = refl
said_nothing Json = refl

-- streams in other words
pub seen_from : {I O E : Type 0} (P : Sight I O E → Sight I O E → ℕ → Type 0) (b before after : Sight I O E) (result : ℕ) → b ≡ before → P b after result → P before after result
seen_from P b before after result is h = subst (λ x. P x after result) is h

-- an answer that is a line alone: it reads and writes nothing, its status is no fault's, and that of want of memory comes with its line
pub record IsLine (s : Shown) : Type 0 where
  pub silent : IsSilent s
  pub wants : s.status ≡ 134 → s ≡ no_memory
  pub fair : IsFault s.status → ⊥

pub memory_line : IsLine no_memory
memory_line = record {
  silent = record { read = refl; out = refl };
  wants = λ _. refl;
  fair = λ is. no_fault 134 (λ h. omega (arith, h)) (λ h. omega (arith, h)) (λ h. omega (arith, h)) is;
}

pub usage_line : IsLine usage
usage_line = record {
  silent = record { read = refl; out = refl };
  wants = λ h. absurd (omega (arith, h));
  fair = λ is. no_fault 120 (λ h. omega (arith, h)) (λ h. omega (arith, h)) (λ h. omega (arith, h)) is;
}

module _ {I O E : Type 0} (before after : Sight I O E) (result : ℕ) where
  -- what was said leaves input and output
  said_wants : (MeansNone RunsNone : Type 0) (s : Shown) → (s.status ≡ 134 → s ≡ no_memory) → SaysOnly s before after result → Wants MeansNone RunsNone before after result
  said_wants MeansNone RunsNone s wants said = λ is.
      ⊎_elim
      (λ h. inl ((λ _. said.keeps), subst (λ (x : Shown). TakesSaid before after x.err) (wants (sym h.1 ∙ is)) h.2))
      (λ h. absurd (omega (arith, h.1, is)))
      said.says

  said_cause : (RunsNone : Type 0) (s : Shown) (Fails : Type 0) → (IsFault s.status → Fails) → (StreamFails before after → Fails) → SaysOnly s before after result → HasCause Fails RunsNone before after result
  said_cause RunsNone s Fails has fails said = λ is.
      ⊎_elim (λ h. inl (has (subst IsFault h.1 is))) (λ h. inl (fails (inr (inr (omega (arith, h.0)))))) said.says

  -- such a line was said, which is the answer
  pub serves_said : (One MeansNone RunsNone : Type 0) (Answers : Input → Shown → Type 0) (s : Shown) → IsLine s → ((i : Input) → Answers i s ⊎ (s ≡ no_memory)) → ((i : Input) (a : Shown) → Answers i a → (a ≡ s) ⊎ (s ≡ no_memory)) → SaysOnly s before after result → Serves One MeansNone RunsNone Answers before after result
  serves_said One MeansNone RunsNone Answers s line is only said = record {
    exact = λ left k same_out same_err. gives_said before after result (λ a. Answers (input_of left before.input_faults after.input_faults) a) s left (is (input_of left before.input_faults after.input_faults)) line.silent k same_err said;
    faults = λ t. said_faults before after result t s.err s.status said.keeps.input.faults said.keeps.out.faults said.says;
    input_fault = λ more. absurd (omega (arith, more, said.keeps.input.faults));
    output_fault = λ more. absurd (omega (arith, more, said.keeps.out.faults));
    stays = λ _. said.keeps.input;
    broken = λ left k fails. record {
      each = λ one a answers more. broken_own before after result s a left (only (steady left) a answers) k said;
      some = λ _. record { shown = s; is = is (steady left); breaks = broken_own before after result s s left (inl refl) k said };
    };
    memory = said_wants MeansNone RunsNone s line.wants said;
    cause = said_cause RunsNone s (StreamFails before after) (λ is. absurd (line.fair is)) (λ fails. fails) said;
    refused = λ _. inl said.keeps;
    form = said.keeps.form;
  }

  -- memory was wanted
  pub serves_none : (One MeansNone RunsNone : Type 0) (Answers : Input → Shown → Type 0) → SaysOnly no_memory before after result → Serves One MeansNone RunsNone Answers before after result
  serves_none One MeansNone RunsNone Answers said =
      serves_said One MeansNone RunsNone Answers no_memory memory_line (λ _. inr refl) (λ _ _ _. inr refl) said

  -- in other words
  pub serves_as : (One MeansNone RunsNone : Type 0) (Answers Answers' : Input → Shown → Type 0) → ((i : Input) (a : Shown) → Answers i a → Answers' i a) → ((i : Input) (a : Shown) → Answers' i a → SaysMore a → Answers i a) → Serves One MeansNone RunsNone Answers before after result → Serves One MeansNone RunsNone Answers' before after result
  serves_as One MeansNone RunsNone Answers Answers' to from h = record {
    exact = λ left k same_out same_err.
        let input = input_of left before.input_faults after.input_faults in
        gives_more before after result (λ a. Answers input a) (λ a. Answers' input a) (to input) left (h.exact left k same_out same_err);
    faults = h.faults;
    input_fault = h.input_fault;
    output_fault = h.output_fault;
    stays = h.stays;
    broken = λ left k fails. off_as before after result One (λ a. Answers (steady left) a) (λ a. Answers' (steady left) a) None left (to (steady left)) (from (steady left)) (h.broken left k fails);
    memory = h.memory;
    cause = h.cause;
    refused = h.refused;
    form = h.form;
  }

  -- a text was written whole
  pub serves_written : (text : List ℕ) → KeepsInput before after → after.form ≡ before.form → after.out_faults ≡ before.out_faults → TakesAll before.taken after.taken text → after.said ≡ before.said → after.err_faults ≡ before.err_faults → result ≡ 0 → Writes (written text) before after result
  serves_written text keeps form counts took quiet same is = record {
    exact = λ left k _ _. record {
      shown = written text;
      is = inl refl;
      rest = left;
      is_left = keeps.left ∙ k;
      is_read = refl;
      out_took = took;
      err_took = takes_none before.said after.said (said before.form Nothing) quiet (said_nothing before.form);
      status = is;
    };
    faults = λ t. inl (refl, keeps.faults, counts, same);
    input_fault = λ more. absurd (omega (arith, more, keeps.faults));
    output_fault = λ more. absurd (omega (arith, more, counts));
    stays = λ _. keeps;
    broken = λ left k fails. absurd (⊎_elim (λ h. omega (arith, h, counts)) (λ h. omega (arith, h, same)) fails);
    memory = λ wants. absurd (omega (arith, is, wants));
    cause = λ fault. absurd (no_fault 0 (λ h. omega (arith, h)) (λ h. omega (arith, h)) (λ h. omega (arith, h)) (subst IsFault is fault));
    refused = λ refusal. absurd (omega (arith, is, refusal_low result refusal));
    form = form;
  }

-- what was said behind a stretch that said nothing
pub says_from : {I O E : Type 0} (before middle after : Sight I O E) (notice : Notice) (status result : ℕ) → middle.form ≡ before.form → middle.said ≡ before.said → middle.err_faults ≡ before.err_faults → Says middle after notice status result → Says before after notice status result
says_from before middle after notice status result form quiet same says =
    ⊎_elim
    (λ h. inl (h.0 ∙ same, h.1, subst (λ s. TakesAll s after.said (said before.form notice)) quiet (subst (λ (f : Form). TakesAll middle.said after.said (said f notice)) form h.2)))
    (λ h. inr (h.0 ∙ ap (λ n. n + 1) same, h.1, subst (λ s. TakesFront s after.said (said before.form notice)) quiet (subst (λ (f : Form). TakesFront middle.said after.said (said f notice)) form h.2)))
    says

-- a line was said behind a stretch that kept all
pub said_behind : {I O E : Type 0} (before middle after : Sight I O E) (s : Shown) (result : ℕ) → KeepsInput before middle → KeepsOut before middle → middle.form ≡ before.form → middle.said ≡ before.said → middle.err_faults ≡ before.err_faults → SaysOnly s middle after result → SaysOnly s before after result
said_behind before middle after s result input out form quiet same said = record {
  keeps = record {
    input = record { input = said.keeps.input.input ∙ input.input; left = said.keeps.input.left ∙ input.left; faults = said.keeps.input.faults ∙ input.faults };
    out = record { out = said.keeps.out.out ∙ out.out; taken = said.keeps.out.taken ∙ out.taken; faults = said.keeps.out.faults ∙ out.faults };
    form = said.keeps.form ∙ form;
  };
  says = says_from before middle after s.err s.status result form quiet same said.says;
}

-- a text was not written whole
pub serves_cut : {I O E : Type 0} (before middle after : Sight I O E) (result : ℕ) (text : List ℕ) → KeepsInput before middle → middle.out_faults ≡ before.out_faults + 1 → TakesFront before.taken middle.taken text → middle.form ≡ before.form → middle.said ≡ before.said → middle.err_faults ≡ before.err_faults → SaysOnly output_fault middle after result → Writes (written text) before after result
serves_cut before middle after result text keeps counts took form quiet same said =
    let input : KeepsInput before after = record { input = said.keeps.input.input ∙ keeps.input; left = said.keeps.input.left ∙ keeps.left; faults = said.keeps.input.faults ∙ keeps.faults } in
    let rises : after.out_faults ≡ before.out_faults + 1 = said.keeps.out.faults ∙ counts in
    let says : Says before after output_fault.err 133 result = says_from before middle after output_fault.err 133 result form quiet same said.says in
    record {
      exact = λ left k stays _. absurd (omega (arith, stays, rises));
      faults = λ t. inr (inl (
        omega arith,
        omega (arith, input.faults),
        omega (arith, rises),
        ⊎_elim (λ h. omega (arith, h.0)) (λ h. omega (arith, h.0)) says,
        inl (omega (arith, rises)),
        ⊎_elim (λ h. h.1) (λ h. h.1) says,
      ));
      input_fault = λ more. absurd (omega (arith, more, input.faults));
      output_fault = λ _. says;
      stays = λ _. input;
      broken = λ left k fails. record {
        each = λ one a is more. broken_text before after result text a left is k input rises (subst (λ o. TakesFront before.taken o text) (sym said.keeps.out.taken) took) says;
        some = λ no. absurd (no tt);
      };
      memory = λ is. absurd (⊎_elim (λ h. omega (arith, h.1, is)) (λ h. omega (arith, h.1, is)) says);
      cause = λ is. inl (inr (inl (omega (arith, rises))));
      refused = never_refused before after result _ 133 output_fault.err (omega arith) (omega arith) says;
      form = said.keeps.form ∙ form;
    }

-- an answer that is written is more than the line of want of memory
written_more : (text : List ℕ) → SaysMore (written text)
written_more text same = cc

module _ {I O E : Type 0} (before after : Sight I O E) (result : ℕ) where
  -- one of several answers was written
  pub serves_some : (Is : Shown → Type 0) (text : List ℕ) → Is (written text) → Writes (written text) before after result → WritesSome Is before after result
  serves_some Is text this h = record {
    exact = λ left k same_out same_err. gives_more before after result (λ a. a ≡ written text) Is (λ a is. subst Is (sym is) this) left (h.exact left k same_out same_err);
    faults = h.faults;
    input_fault = h.input_fault;
    output_fault = h.output_fault;
    stays = h.stays;
    broken = λ left k fails. record {
      each = λ one. absurd one;
      some = λ _. record { shown = written text; is = inl this; breaks = (h.broken left k fails).each tt (written text) refl (written_more text) };
    };
    memory = h.memory;
    cause = h.cause;
    refused = h.refused;
    form = h.form;
  }

module _ {T I O E : Type 0} (of : reading.Ghosts T) (texts texts' : T) (before after : Sight I O E) (result : ℕ) where
  -- a command that reads no text, or whose texts did not fail
  pub obeys : (asked : Option Command) (Answers : Input → Shown → Type 0) → of.faults texts' ≡ of.faults texts →
      ((told : List ℕ → List ℕ) → of.texts texts ≡ Some told → (i : Input) (a : Shown) → Answers i a → AnswersCommand asked told i a) →
      ((told : List ℕ → List ℕ) → of.texts texts ≡ Some told → (i : Input) (a : Shown) → AnswersCommand asked told i a → Answers i a) →
      Serves (AsksOne asked) (AsksNoMeaning asked) (AsksNone asked) Answers before after result → Obeys of asked texts texts' before after result
  obeys asked Answers same to from h = record {
    exact = λ told k _ left l same_out same_err.
        let input = input_of left before.input_faults after.input_faults in
        gives_more before after result (λ a. Answers input a) (λ a. AnswersCommand asked told input a) (to told k input) left (h.exact left l same_out same_err);
    faults = faults_as before after result (of.faults texts) (of.faults texts') same (h.faults (of.faults texts));
    input_fault = h.input_fault;
    output_fault = h.output_fault;
    stays = h.stays;
    text_fault = λ more. absurd (omega (arith, same, more));
    broken = λ told k left l fails.
        subst (λ (u : Option (List (List ℕ))). BreaksOff (AsksOne asked) (λ a. AnswersCommand asked told (steady left) a) u left before after) (sym (unread_none asked (of.faults texts) (of.faults texts') same))
        (off_as before after result (AsksOne asked) (λ a. Answers (steady left) a) (λ a. AnswersCommand asked told (steady left) a) None left (to told k (steady left)) (λ a is _. from told k (steady left) a is) (h.broken left l fails));
    memory = h.memory;
    cause = λ is. ⊎_elim (λ fails. inl (inr fails)) (λ own. inr own) (h.cause is);
    refused = h.refused;
    form = h.form;
  }

  -- a line was said, where no text failed
  pub obeys_said : (asked : Option Command) (s : Shown) → IsLine s → of.faults texts' ≡ of.faults texts →
      ((told : List ℕ → List ℕ) → of.texts texts ≡ Some told → (i : Input) → AnswersCommand asked told i s ⊎ (s ≡ no_memory)) →
      ((told : List ℕ → List ℕ) → of.texts texts ≡ Some told → (i : Input) (a : Shown) → AnswersCommand asked told i a → (a ≡ s) ⊎ (s ≡ no_memory)) →
      SaysOnly s before after result → Obeys of asked texts texts' before after result
  obeys_said asked s line same is only said = record {
    exact = λ told k _ left l same_out same_err.
        let input = input_of left before.input_faults after.input_faults in
        gives_said before after result (λ a. AnswersCommand asked told input a) s left (is told k input) line.silent l same_err said;
    faults = faults_as before after result (of.faults texts) (of.faults texts') same (said_faults before after result (of.faults texts) s.err s.status said.keeps.input.faults said.keeps.out.faults said.says);
    input_fault = λ more. absurd (omega (arith, more, said.keeps.input.faults));
    output_fault = λ more. absurd (omega (arith, more, said.keeps.out.faults));
    stays = λ _. said.keeps.input;
    text_fault = λ more. absurd (omega (arith, same, more));
    broken = λ told k left l fails.
        let own : (a : Shown) → (a ≡ s) ⊎ (s ≡ no_memory) → Breaks (unread_files asked (of.faults texts) (of.faults texts')) a left before after = λ a same_answer.
        subst (λ (u : Option (List (List ℕ))). Breaks u a left before after) (sym (unread_none asked (of.faults texts) (of.faults texts') same)) (broken_own before after result s a left same_answer l said) in
        record {
          each = λ one a answers more. own a (only told k (steady left) a answers);
          some = λ _. record { shown = s; is = is told k (steady left); breaks = own s (inl refl) };
        };
    memory = said_wants before after result (AsksNoMeaning asked) (AsksNone asked) s line.wants said;
    cause = said_cause before after result (AsksNone asked) s ((of.faults texts < of.faults texts') ⊎ StreamFails before after) (λ fault. absurd (line.fair fault)) (λ fails. inr fails) said;
    refused = λ _. inl said.keeps;
    form = said.keeps.form;
  }

  -- a text failed
  pub obeys_fault : (asked : Option Command) (name : List ℕ) → of.faults texts' ≡ of.faults texts + 1 → unread_files asked (of.faults texts) (of.faults texts') ≡ Some (files_asked asked) → IsTextOf (files_asked asked) name → SaysOnly (text_fault name) before after result → Obeys of asked texts texts' before after result
  obeys_fault asked name rises unread is said = record {
    exact = λ told k same. absurd (omega (arith, same, rises));
    faults = ⊎_elim
        (λ h. inr (inr (inl (omega (arith, rises), said.keeps.input.faults, said.keeps.out.faults, h.0, h.1))))
        (λ h. inr (inl (omega (arith, rises), omega (arith, said.keeps.input.faults), omega (arith, said.keeps.out.faults), omega (arith, h.0), inr (omega (arith, h.0)), h.1)))
        said.says;
    input_fault = λ more. absurd (omega (arith, more, said.keeps.input.faults));
    output_fault = λ more. absurd (omega (arith, more, said.keeps.out.faults));
    stays = λ _. said.keeps.input;
    text_fault = λ _. record { name = name; is_text = is; says = said };
    broken = λ told k left l fails.
        let own : (a : Shown) → Breaks (unread_files asked (of.faults texts) (of.faults texts')) a left before after = λ a.
        subst (λ (u : Option (List (List ℕ))). Breaks u a left before after) (sym unread) (broken_said before after result (Some (files_asked asked)) (text_fault name) a left (name, is, refl) l said) in
        record {
          each = λ one a answers more. own a;
          some = λ _. record { shown = no_memory; is = inr refl; breaks = own no_memory };
        };
    memory = said_wants before after result (AsksNoMeaning asked) (AsksNone asked) (text_fault name) (λ h. absurd (omega (arith, h))) said;
    cause = said_cause before after result (AsksNone asked) (text_fault name) ((of.faults texts < of.faults texts') ⊎ StreamFails before after) (λ _. inl (omega (arith, rises))) (λ fails. inr fails) said;
    refused = λ _. inl said.keeps;
    form = said.keeps.form;
  }

  -- words are answered as what they ask for is obeyed
  pub answered : (asked given : Option Command) → asked ≡ given → Obeys of given texts texts' before after result → (given ≡ None → (texts' ≡ texts) × KeepsBoth before after) → (AsksNoFile given → (texts' ≡ texts) × KeepsInput before after) → Answered of asked texts texts' before after result
  answered asked given is h usage no_file = record {
    obeys = subst (λ (k : Option Command). Obeys of k texts texts' before after result) (sym is) h;
    usage = λ none. usage (sym is ∙ none);
    no_file = λ none. no_file (subst AsksNoFile is none);
  }
