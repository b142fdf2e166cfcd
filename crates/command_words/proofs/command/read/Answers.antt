use Rattle.std.proofs.Common.{◌≡◌, ◌∙◌, List, ℕ, [], Option, map, Bor, sym, ap, subst}
use Rattle.clap.specs.Words.{App, HasKind, fault_of, found_of, rows_of, subcommand_of}
use Rattle.command_words.specs.CommandSet.{command_set}
use Rattle.command_words.specs.Commands.{Command, IsRead}
use Rattle.command_words.proofs.Reading.{asks, asks_none, asks_nothing, no_pair, same_pair, set_is_free, set_is_simple}
use Rattle.command_words.proofs.command.read.Goals as goal

pub returns-in-Some-clause-read : goal.returns-in-Some-clause-read
returns-in-Some-clause-read c =
    let words : List (List ℕ) = map (λ (w : Bor (List ℕ)). w.now) c.args.words.now in
    let is = c.in_ok-set.ensures in
    let none : fault_of command_set words ≡ [] = sym (ap (λ (a : App). fault_of a words) is) ∙ c.in-Ok.ensures.kinds (set_is_free _ is) in
    let found = sym (same_pair _ _ _ c.in-Some.name.now (rows_of (found_of c.in-Some.found.now)) c.in-Some.ensures.name c.in-Some.ensures.rows)
    ∙ (c.in-Ok.ensures.matches (set_is_simple _ is)).1 ∙ ap (λ (a : App). subcommand_of a words) is in
    subst (λ (o : Option Command). IsRead o c.asked.result) (sym (asks words c.in-Some.name.now (rows_of (found_of c.in-Some.found.now)) none (sym found))) c.asked.ensures.read

pub returns-in-Ok-clause-read : goal.returns-in-Ok-clause-read
returns-in-Ok-clause-read c =
    let words : List (List ℕ) = map (λ (w : Bor (List ℕ)). w.now) c.args.words.now in
    let is = c.in_ok-set.ensures in
    let found = sym (no_pair _ _ _ c.in-None.ensures.rows)
    ∙ (c.in-Ok.ensures.matches (set_is_simple _ is)).1 ∙ ap (λ (a : App). subcommand_of a words) is in
    asks_nothing words (sym found)

pub returns : goal.returns
returns c =
    let words : List (List ℕ) = map (λ (w : Bor (List ℕ)). w.now) c.args.words.now in
    let is = c.in_ok-set.ensures in
    let has = subst (λ (a : App). HasKind (fault_of a words) c.in-Err.error) is (c.in-Err.ensures.kinds (set_is_free _ is)) in
    record { read = asks_none words c.in-Err.error has (λ e. c.in_default.not-OutOfMemory (c.kind.ensures ∙ e)); limits = tt }
