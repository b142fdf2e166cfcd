-- What is said of a place in a text, and of an end of the input or of the output.
use Rattle.std.proofs.Common.{◌≡◌, ℕ, List, [], Option, Some, None, refl, ap, ◌∙◌}
use Rattle.bad_free_report.specs.Notice.{said}
use Rattle.bad_free_report.specs.declared.explanation.Known.{Known}
use Rattle.bad_free_report.specs.declared.form.Form.{Form}
use Rattle.bad_free_report.specs.declared.form.Form.TheVariants.{Lines, Json}
use Rattle.c_pre.specs.declared.answer.Opened.{Opened}
use Rattle.core_tree.specs.declared.program.Core.{Core}
use Rattle.hs_base.specs.declared.ends.End.TheVariants.{Exit, InputFault, OutputFault}
use Rattle.heapsafe.specs.Places.{line_in}
use Rattle.heapsafe.specs.Program.{told_notice}
use Rattle.heapsafe.specs.Shown.{input_fault, output_fault, refusal_at}

-- a refusal at a place, by the same words
pub refused_at : (name name' text text' kind words words' : List ℕ) (line status : ℕ) → name ≡ name' → text ≡ text' → words ≡ words' → refusal_at (record { name = name; line = line; text = text }) kind (Some words) status ≡ refusal_at (record { name = name'; line = line; text = text' }) kind (Some words') status
refused_at name name' text text' kind words words' line status e f g = cc

-- the same at a line of texts
pub refused_in : (opened opened' : List Opened) (kind words words' : List ℕ) (line status : ℕ) → opened ≡ opened' → words ≡ words' → refusal_at (line_in opened line) kind (Some words) status ≡ refusal_at (line_in opened' line) kind (Some words') status
refused_in opened opened' kind words words' line status e f =
    ap (λ (os : List Opened). refusal_at (line_in os line) kind (Some words) status) e ∙ ap (λ (ws : List ℕ). refusal_at (line_in opened' line) kind (Some ws) status) f

-- where the input or the output failed, what is said of the end is what is said of that
pub input_said : (f : Form) (file : List ℕ) (opened : List Opened) (core : Core) (asked : Option Known) → said f (told_notice file opened core asked InputFault []) ≡ said f input_fault.err
input_said Lines file opened core asked = refl
input_said Json file opened core None = refl
input_said Json file opened core (Some known) = refl

pub output_said : (f : Form) (file : List ℕ) (opened : List Opened) (core : Core) (asked : Option Known) → said f (told_notice file opened core asked OutputFault []) ≡ said f output_fault.err
output_said Lines file opened core asked = refl
output_said Json file opened core None = refl
output_said Json file opened core (Some known) = refl

-- an exit has one code
pub one_exit : (code other : ℕ) → Exit code ≡ Exit other → code ≡ other
one_exit code other same = cc
