-- What is compiled of a core is well formed and means what the core means, by the laws on all such code.
use Rattle.std.proofs.Common.{◌+◌, ◌*◌, ◌≤◌, ℕ, Bool, List, length}
use Rattle.std.specs.Prelude.{Result, Ok, Err, IfOk}
use Rattle.std.specs.List.{sum_by}
use Rattle.core_tree.specs.Sound.{code_size}
use Rattle.flat_code.specs.declared.program.Code.{Code}
use Rattle.flat_code.specs.WellFormed.{AreShort, IsWellFormed}
use Rattle.hs_base.specs.declared.items.NoMemory.{NoMemory}
use Rattle.hs_base.specs.Trace.{Event, Ending}
use Rattle.object_meaning.specs.counted.CountedMeaning.{meaning as core_meaning}
use Rattle.object_meaning.specs.code.CodeMeaning.{meaning as code_meaning}
use Rattle.object_meaning.specs.compiled.Compiled.{IsCompiled}
use Rattle.meaning_laws.specs.compiled.SameRun.{SameRun}
use Rattle.meaning_laws.specs.compiled.Testing.{tested_core, tested_code}
use Rattle.flat_codegen.proofs.program.compile.Goals as goal

-- what follows for each code follows for one that may not be there
follows : (P Q : Code → Type 0) (r : Result Code NoMemory) → ((code : Code) → P code → Q code) → IfOk r P → IfOk r Q
follows P Q (Ok code) h is = h code is
follows P Q (Err e) h is = tt

follow_both : (P Q R : Code → Type 0) (r : Result Code NoMemory) → ((code : Code) → P code → Q code → R code) → IfOk r P → IfOk r Q → IfOk r R
follow_both P Q R (Ok code) h is holds = h code is holds
follow_both P Q R (Err e) h is holds = tt

pub returns-clause-formed : goal.returns-clause-formed
returns-clause-formed c =
    let core = c.args.counted.now.core in
    let pins = c.args.counted.now.pins in
    let exact = c.listed_pins_are_exact.ensures.exact core pins c.requires.listed in
    let ascending = c.listed_pins_are_exact.ensures.ascending core pins c.requires.listed in
    follow_both (IsCompiled core pins) AreShort IsWellFormed c.code_of.result
    (λ code is short. c.codes_are_well_formed.ensures core pins code c.requires.sound exact ascending is short.layouts short.formats.0)
    c.code_of.ensures.compiled c.code_of.ensures.short

pub returns-clause-few : goal.returns-clause-few
returns-clause-few c =
    let core = c.args.counted.now.core in
    let pins = c.args.counted.now.pins in
    follows (IsCompiled core pins) (λ code. length code.instrs ≤ 14 * sum_by code_size core.funcs + length core.funcs + 1) c.code_of.result (λ code is. c.codes_are_few.ensures core pins code is) c.code_of.ensures.compiled

pub returns-clause-means : goal.returns-clause-means
returns-clause-means c =
    let core = c.args.counted.now.core in
    let pins = c.args.counted.now.pins in
    let exact = c.listed_pins_are_exact.ensures.exact core pins c.requires.listed in
    let ascending = c.listed_pins_are_exact.ensures.ascending core pins c.requires.listed in
    follows (IsCompiled core pins) (λ code. (input : List ℕ) (n heap : ℕ) → SameRun (core_meaning core pins input n heap) (code_meaning code input n heap)) c.code_of.result
    (λ code is. c.code_means_core.ensures.meaning core pins code c.requires.sound exact ascending is) c.code_of.ensures.compiled

pub returns-clause-tested : goal.returns-clause-tested
returns-clause-tested c =
    let core = c.args.counted.now.core in
    let pins = c.args.counted.now.pins in
    let exact = c.listed_pins_are_exact.ensures.exact core pins c.requires.listed in
    let ascending = c.listed_pins_are_exact.ensures.ascending core pins c.requires.listed in
    follows (IsCompiled core pins) (λ code. (fits : List Event → Event → Bool) (refused : Event → Ending) (input : List ℕ) (n heap : ℕ) → SameRun (tested_core core pins fits refused input n heap) (tested_code code fits refused input n heap)) c.code_of.result
    (λ code is fits refused input n heap. (c.code_means_core.ensures.tested core pins code c.requires.sound exact ascending is fits refused input n heap).2) c.code_of.ensures.compiled
