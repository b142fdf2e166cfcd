-- What a core and its tags have of a finished walk: nothing of the function that ran last; and that the core is sound.
use Rattle.std.proofs.Common.{◌≡◌, ℕ, Ok, Err, ap}
use Rattle.c_types.specs.TagTable.{TagTable}
use Rattle.c_tree.specs.Tree.{Trees}
use Rattle.core_tree.specs.declared.program.Core.{Core}
use Rattle.core_tree.specs.Sound.{IsSound}
use Rattle.c_decls.specs.declared.refusal.TypeKind.{TypeKind}
use Rattle.c_decls.specs.declared.refusal.TypeError.{TypeError}
use Rattle.c_decls.specs.declared.refusal.TypeError.TheVariants as e
use Rattle.c_decls.specs.Refusals.{Checked, Refusal, refused, then, Meets}
use Rattle.elaboration.specs.Context.{Context}
use Rattle.elaboration.specs.Resolving.{core_of}
use Rattle.elaboration.specs.Elaboration.{elaborated, walked}
use Rattle.core_soundness.specs.Texts.{IsOfTexts}
use Rattle.elab_base.specs.Idle.{idle, idled}

abbrev core_behind : Checked Context → Checked Core
core_behind answer = then {A = Core × TagTable} (then answer (λ c. Ok (core_of c, c.tags))) (λ both. Ok both.0)

abbrev tags_behind : Checked Context → Checked TagTable
tags_behind answer = then answer (λ c. Ok c.tags)

pub core_ok : (answer : Checked Context) (s : Context) (core : Core) → idled answer ≡ Ok (idle s) → core ≡ core_of s → core_behind answer ≡ Ok core
core_ok (Ok c) s core h is =
    let same : idle c ≡ idle s = cc in
    let cores : core_of c ≡ core_of s = ap (λ (d : Context). core_of d) same in
    cc
core_ok (Err refusal) s core h is = cc

pub tags_ok : (answer : Checked Context) (s : Context) (tags : TagTable) → idled answer ≡ Ok (idle s) → tags ≡ s.tags → tags_behind answer ≡ Ok tags
tags_ok (Ok c) s tags h is =
    let same : idle c ≡ idle s = cc in
    let tables : c.tags ≡ s.tags = ap (λ (d : Context). d.tags) same in
    cc
tags_ok (Err refusal) s tags h is = cc

core_refused : (answer : Checked Context) (kind : TypeKind) (line : ℕ) → idled answer ≡ refused kind line → core_behind answer ≡ refused kind line
core_refused (Ok c) kind line h = cc
core_refused (Err refusal) kind line h =
    let same : refusal ≡ record { kind = kind; line = line } = cc in
    ap (λ (r : Refusal). Err r) same

tags_refused : (answer : Checked Context) (kind : TypeKind) (line : ℕ) → idled answer ≡ refused kind line → tags_behind answer ≡ refused kind line
tags_refused (Ok c) kind line h = cc
tags_refused (Err refusal) kind line h =
    let same : refusal ≡ record { kind = kind; line = line } = cc in
    ap (λ (r : Refusal). Err r) same

pub core_err : (answer : Checked Context) (error : TypeError) → Meets (λ (s : Context). idle s) (Err error) (idled answer) → Meets (λ (core : Core). core) (Err error) (core_behind answer)
core_err answer (e.Bad kind line) failed = core_refused answer kind line failed
core_err answer e.NoMemory failed = tt

pub tags_err : (answer : Checked Context) (error : TypeError) → Meets (λ (s : Context). idle s) (Err error) (idled answer) → Meets (λ (tags : TagTable). tags) (Err error) (tags_behind answer)
tags_err answer (e.Bad kind line) failed = tags_refused answer kind line failed
tags_err answer e.NoMemory failed = tt

-- the law that the core of a text is sound
abbrev CoresAreSound : Type 0
CoresAreSound = (unit : Trees) (core : Core) (tags : TagTable) → IsOfTexts unit → elaborated unit ≡ Ok (core, tags) → IsSound core

with_tags : (answer : Checked (Core × TagTable)) (core : Core) → then answer (λ both. Ok both.0) ≡ Ok core → (tags : TagTable) × (answer ≡ Ok (core, tags))
with_tags (Ok both) core h =
    let same : both.0 ≡ core = cc in
    (both.1, ap (λ (c : Core). Ok (c, both.1)) same)
with_tags (Err refusal) core h = absurd (cc)

pub core_sound : (unit : Trees) (s : Context) (core : Core) → CoresAreSound → idled (walked unit) ≡ Ok (idle s) → core ≡ core_of s → IsOfTexts unit → IsSound core
core_sound unit s core law h is of =
    let b = with_tags (elaborated unit) core (core_ok (walked unit) s core h is) in
    law unit core b.0 of b.1
