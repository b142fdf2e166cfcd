use Rattle.std.proofs.Common.{◌≡◌, ◌∙◌, ap, List, Some, Ok, Err, inl, inr, refl, sym, subst, Bor, ℕ}
use Rattle.std.specs.Prelude.{Option, None}
use Rattle.command_words.specs.Commands.{Generated, IsRead, Command as Asked}
use Rattle.command_words.specs.declared.command.Command.{Command}
use Rattle.command_words.specs.declared.command.Task.{Task}
use Rattle.command_words.specs.declared.error.WordsError.{WordsError}
use Rattle.heapsafe.specs.Answer.{AnswersGenerated, asked_by, asked_for}
use Rattle.heapsafe.specs.Shown.{no_memory, usage}
use Rattle.heapsafe.proofs.Served.{answered, memory_line, obeys, obeys_said, usage_line}
use Rattle.heapsafe.proofs.serve.Goals as goal

-- the words ask for a task with these files
asked_files : (files slice : List (Bor (List ℕ))) (task : Task) (asked : Option Asked) → asked ≡ asked_for files task → slice ≡ files → asked ≡ asked_for slice task
asked_files files slice task asked is same = is ∙ ap (λ (fs : List (Bor (List ℕ))). asked_for fs task) (sym same)

pub returns-in-Ok-OnFiles : goal.returns-in-Ok-OnFiles
returns-in-Ok-OnFiles g c =
    let asked = asked_by c.args.words.now in
    let task = c.in-Ok-OnFiles.task in
    let slice = c.as_slice.result.now in
    let read = subst (λ (command : Command). IsRead asked (Ok command)) c.in-Ok-OnFiles.field-0-is c.in-Ok-OnFiles.ensures.read in
    answered _ _ _ _ _ _ asked (asked_for slice task) (asked_files c.in-Ok-OnFiles.files slice task asked read c.as_slice.ensures) c.with_files.ensures
    (λ none. absurd cc) (λ never. absurd never)

pub returns-in-Ok-Execute : goal.returns-in-Ok-Execute
returns-in-Ok-Execute g c =
    let asked = asked_by c.args.words.now in
    let read = subst (λ (command : Command). IsRead asked (Ok command)) c.in-Ok-Execute.field-0-is c.in-Ok-Execute.ensures.read in
    answered _ _ _ _ _ _ asked _ read c.execute_file.ensures (λ none. absurd cc) (λ never. absurd never)

pub returns-in-Ok-Generated : goal.returns-in-Ok-Generated
returns-in-Ok-Generated g c =
    let asked = asked_by c.args.words.now in
    let number = c.in-Ok-Generated.number in
    let read = subst (λ (command : Command). IsRead asked (Ok command)) c.in-Ok-Generated.field-0-is c.in-Ok-Generated.ensures.read in
    answered _ _ _ _ _ _ asked (Some (Generated number)) read
    (obeys _ _ _ _ _ _ (Some (Generated number)) (λ _ a. AnswersGenerated number a) refl (λ _ _ _ _ is. is) (λ _ _ _ _ is. is) c.run_generated.ensures)
    (λ none. absurd cc) (λ _. (refl, c.run_generated.ensures.stays tt))

pub returns-in-Err-Usage : goal.returns-in-Err-Usage
returns-in-Err-Usage g c =
    let asked = asked_by c.args.words.now in
    let read = subst (λ (e : WordsError). IsRead asked (Err e)) c.in-Err-Usage.field-0-is c.in-Err-Usage.ensures.read in
    answered _ _ _ _ _ _ asked None read
    (obeys_said _ _ _ _ _ _ None usage usage_line refl (λ _ _ _. inl refl) (λ _ _ _ _ is. inl is) c.refuse.ensures)
    (λ _. (refl, c.refuse.ensures.keeps)) (λ _. (refl, c.refuse.ensures.keeps.input))

pub returns-in-Err-NoMemory : goal.returns-in-Err-NoMemory
returns-in-Err-NoMemory g c =
    let asked = asked_by c.args.words.now in
    let keeps = c.refuse-in-Err-NoMemory.ensures.keeps in
    answered _ _ _ _ _ _ asked asked refl
    (obeys_said _ _ _ _ _ _ asked no_memory memory_line refl (λ _ _ _. inr refl) (λ _ _ _ _ _. inr refl) c.refuse-in-Err-NoMemory.ensures)
    (λ _. (refl, keeps)) (λ _. (refl, keeps.input))
