-- What the words of the command line ask for.
use Rattle.std.specs.Prelude.{◌≡◌, ◌≤◌, ⊤, ℕ, Bool, false, ◌&&◌, ◌||◌, cond, nat_eq, nat_le, List as Listed, length, map, Option, Some, None, option_and_then, option_map, Result, Ok, Err, codes}
use Rattle.std.specs.List.{list_all}
use Rattle.std.specs.Option.{option_map_or}
use Rattle.std.specs.Str.{bytes_eq}
use Rattle.clap.specs.Words.{Row, Text, all_of, first_of, fault_of, subcommand_of}
use Rattle.command_words.specs.CommandSet.{command_set}
use Rattle.command_words.specs.Numbers.{is_file, number_in, within}
use Rattle.command_words.specs.declared.command.Options.{Options}
use Rattle.command_words.specs.declared.command.Command as code
use Rattle.command_words.specs.declared.command.Command.TheVariants as commands
use Rattle.command_words.specs.declared.command.Task as code_task
use Rattle.command_words.specs.declared.command.Task.TheVariants as tasks
use Rattle.command_words.specs.declared.error.WordsError.{WordsError}
use Rattle.command_words.specs.declared.error.WordsError.TheVariants.{Usage, NoMemory}

-- what is done with a text: it is run on a heap and a stack of so many bytes with at most so many steps, with or without a
-- list of the blocks that are left, or its meaning is evaluated in such a heap with so many steps, and its end is explained or
-- not; or its canonical spelling is
-- written, the layouts of its structs and unions, its core, the registers that are live after each point of it, or the code file
-- of its core
pub data Task : Type 0 where
  Run : (heap stack steps : ℕ) → (leaks explain : Bool) → Task
  Mean : (heap steps : ℕ) → (explain : Bool) → Task
  Print : Task
  Layout : Task
  List : Task
  Live : Task
  Compile : Task

-- a task is done with the program whose units are the texts of these files, the code in a file is run as such a program would be,
-- or a text is made with so many functions and run
pub data Command : Type 0 where
  OnFiles : (files : Listed Text) → (task : Task) → Command
  Execute : (file : Listed ℕ) → (heap stack steps : ℕ) → (leaks explain : Bool) → Command
  Generated : (number : ℕ) → Command

-- the value of an option, within its limits, or its default
abbrev pub value_in : (least most default : ℕ) → Option Text → Option ℕ
value_in least most default None = Some default
value_in least most default (Some word) = within least most (number_in word)

-- how many steps a run may make at most
abbrev pub steps_in : Option Text → Option ℕ
steps_in word = value_in 1 1000000000 100000000 word

-- how many bytes its heap has
abbrev pub heap_in : Option Text → Option ℕ
heap_in word = value_in 0 268435456 16777216 word

-- how many bytes its stack has
abbrev pub stack_in : Option Text → Option ℕ
stack_in word = value_in 0 67108864 1048576 word

-- how many functions a text that is made has
abbrev pub functions_in : Text → Option ℕ
functions_in word = within 1 2000 (number_in word)

-- a flag that was given has the value `true`, and its default is `false`
abbrev pub flag_in : Text → Listed Row → Bool
flag_in name rows = option_map_or (λ word. bytes_eq word (codes "true")) (first_of name rows) false

-- an end is explained where that is asked for, and where an object of JSON is, which has all of it
abbrev pub is_explained : Listed Row → Bool
is_explained rows = flag_in (codes "explain") rows || flag_in (codes "json") rows

-- how many files a task takes at most
abbrev pub most_files : Task → ℕ
most_files Print = 1
most_files _ = 64

-- words that can be the files of a task: one at least, and not too many
abbrev pub are_files : Task → Listed Text → Bool
are_files task words =
    nat_le 1 (length words) && nat_le (length words) (most_files task) && list_all is_file words

-- a task with its files
abbrev pub with_files : Listed Text → Task → Option Command
with_files files task = cond (are_files task files) (Some (OnFiles files task)) None

-- the same, by the values of its arguments
abbrev pub files_in : Task → Listed Row → Option Command
files_in task rows = option_and_then (λ files. with_files files task) (all_of (codes "FILE") rows)

-- what a command says of a run, by the values of its arguments
abbrev pub options_in : Listed Row → Option Options
options_in rows =
    option_and_then (λ heap. option_and_then (λ stack. option_map (λ steps. let o : Options = record { heap = heap; stack = stack; steps = steps; leaks = flag_in (codes "leaks") rows; explain = is_explained rows } in o) (steps_in (first_of (codes "steps") rows))) (stack_in (first_of (codes "stack") rows))) (heap_in (first_of (codes "heap") rows))

-- what a command asks for, by the values of its arguments
abbrev pub run_in : Listed Row → Option Command
run_in rows =
    option_and_then (λ (o : Options). files_in (Run o.heap o.stack o.steps o.leaks o.explain) rows) (options_in rows)

abbrev pub exec_in : Listed Row → Option Command
exec_in rows =
    option_and_then (λ file. option_and_then (λ (o : Options). cond (is_file file) (Some (Execute file o.heap o.stack o.steps o.leaks o.explain)) None) (options_in rows)) (first_of (codes "FILE") rows)

abbrev pub mean_in : Listed Row → Option Command
mean_in rows =
    option_and_then (λ heap. option_and_then (λ steps. files_in (Mean heap steps (is_explained rows)) rows) (steps_in (first_of (codes "steps") rows))) (heap_in (first_of (codes "heap") rows))

abbrev pub self_in : Listed Row → Option Command
self_in rows =
    option_and_then (λ word. option_map (λ n. Generated n) (functions_in word)) (first_of (codes "N") rows)

-- the task of a command with files alone
abbrev pub task_named : Text → Option Task
task_named name =
    cond (bytes_eq name (codes "print")) (Some Print) (cond (bytes_eq name (codes "layout")) (Some Layout) (cond (bytes_eq name (codes "list")) (Some List) (cond (bytes_eq name (codes "live")) (Some Live) (cond (bytes_eq name (codes "compile")) (Some Compile) None))))

abbrev pub asked : Text → Listed Row → Option Command
asked name rows =
    cond (bytes_eq name (codes "run")) (run_in rows) (cond (bytes_eq name (codes "mean")) (mean_in rows) (cond (bytes_eq name (codes "exec")) (exec_in rows) (cond (bytes_eq name (codes "self")) (self_in rows) (option_and_then (λ task. files_in task rows) (task_named name)))))

-- words in which `clap` finds no fault ask for what their command and its values say; all other words are not taken
abbrev pub command_of : Listed Text → Option Command
command_of words =
    cond (nat_eq (length (fault_of command_set words)) 0) (option_and_then (λ p. asked p.0 p.1) (subcommand_of command_set words)) None

-- the code's command as the definition has it
abbrev pub task_shown : code_task.Task → Task
task_shown (tasks.Run heap stack steps leaks explain) = Run heap stack steps leaks explain
task_shown (tasks.Mean heap steps explain) = Mean heap steps explain
task_shown tasks.Print = Print
task_shown tasks.Layout = Layout
task_shown tasks.List = List
task_shown tasks.Live = Live
task_shown tasks.Compile = Compile

abbrev pub command_shown : code.Command → Command
command_shown (commands.OnFiles files task) = OnFiles (map (λ w. w.now) files) (task_shown task)
command_shown (commands.Execute file heap stack steps leaks explain) = Execute file.now heap stack steps leaks explain
command_shown (commands.Generated number) = Generated number

-- the words ask for this, or are not taken; of want of memory nothing is said
abbrev pub IsRead : Option Command → Result code.Command WordsError → Type 0
IsRead wanted (Ok command) = wanted ≡ Some (command_shown command)
IsRead wanted (Err Usage) = wanted ≡ None
IsRead wanted (Err NoMemory) = ⊤

-- the numbers of a task are at most the most that an option may give
abbrev pub IsLimited : Task → Type 0
IsLimited (Run heap stack steps leaks explain) = (heap ≤ 268435456) × (stack ≤ 67108864) × (steps ≤ 1000000000)
IsLimited (Mean heap steps explain) = (heap ≤ 268435456) × (steps ≤ 1000000000)
IsLimited _ = ⊤

-- the numbers of a command are within their limits, and so is how many files it has
abbrev pub HasLimits : Command → Type 0
HasLimits (OnFiles files task) = (1 ≤ length files) × (length files ≤ most_files task) × IsLimited task
HasLimits (Execute file heap stack steps leaks explain) = IsLimited (Run heap stack steps leaks explain)
HasLimits (Generated number) = (1 ≤ number) × (number ≤ 2000)
