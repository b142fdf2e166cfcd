-- What the words ask for, from what `clap` answers.
use Rattle.std.proofs.Common.{◌≡◌, ◌≢◌, ◌∙◌, List, [], ◌∷◌, Option, Some, None, length, Bool, cond, true, false, refl, ap, ap₂, ⊎_elim}
use Rattle.std.specs.Prelude.{nat_eq, option_and_then, option_map}
use Rattle.std.proofs.Math.Dec.{eqb-suc-zero}
use Rattle.clap.specs.Values.{kind_of}
use Rattle.clap.specs.Words.{App, HasKind, Kinds, Row, Text, fault_of, is_simple, is_simple_and_free, subcommand_of}
use Rattle.clap.specs.declared.error.Error.{Error}
use Rattle.clap.specs.declared.error.kind.ErrorKind.TheVariants as kind
use Rattle.command_words.specs.CommandSet.{command_set}
use Rattle.command_words.specs.Commands.{Command, asked, command_of}

-- the set is one of those whose words decide all
pub set_is_simple : (a : App) → a ≡ command_set → is_simple a ≡ true
unfolding command_set
set_is_simple a is = ap is_simple is

pub set_is_free : (a : App) → a ≡ command_set → is_simple_and_free a ≡ true
unfolding command_set
set_is_free a is = ap is_simple_and_free is

-- a name and rows that are found in one place
pub same_pair : {B X Y : Type 0} (f : B → X) (h : B → Y) (o : Option B) (x : X) (y : Y) → Some x ≡ option_map f o → Some y ≡ option_map (λ (p : X × Y). p.1) (option_map {U = X × Y} (λ b. (f b, h b)) o) → option_map {U = X × Y} (λ b. (f b, h b)) o ≡ Some (x, y)
same_pair {X = X} {Y = Y} f h None x y name rows = absurd (cc)
same_pair {X = X} {Y = Y} f h (Some b) x y name rows =
    let first : f b ≡ x = cc in
    let second : h b ≡ y = cc in
    let pair : X → Y → Option (X × Y) = λ u v. Some (u, v) in
    ap₂ pair first second

-- or in none
pub no_pair : {B X Y : Type 0} (f : B → X) (h : B → Y) (o : Option B) → None ≡ option_map (λ (p : X × Y). p.1) (option_map {U = X × Y} (λ b. (f b, h b)) o) → option_map {U = X × Y} (λ b. (f b, h b)) o ≡ None
no_pair f h None rows = refl
no_pair f h (Some b) rows = absurd (cc)

-- words without a fault
pub asks : (words : List Text) (name : Text) (rows : List Row) → fault_of command_set words ≡ [] → subcommand_of command_set words ≡ Some (name, rows) → command_of words ≡ asked name rows
asks words name rows none found =
    ap (λ (kinds : Kinds). cond (nat_eq (length kinds) 0) (option_and_then (λ p. asked p.0 p.1) (subcommand_of command_set words)) None) none
    ∙ ap (option_and_then (λ p. asked p.0 p.1)) found

-- words without a command
abbrev no_command : Option Command
no_command = None

nothing : (b : Bool) → cond b no_command no_command ≡ no_command
nothing true = refl
nothing false = refl

pub asks_nothing : (words : List Text) → subcommand_of command_set words ≡ None → command_of words ≡ None
asks_nothing words none =
    ap (λ (found : Option (Text × List Row)). cond (nat_eq (length (fault_of command_set words)) 0) (option_and_then (λ p. asked p.0 p.1) found) None) none
    ∙ nothing (nat_eq (length (fault_of command_set words)) 0)

-- and with one
by_kinds : (kinds : Kinds) (command : Option Command) (e : Error) → HasKind kinds e → kind_of e ≢ kind.OutOfMemory → cond (nat_eq (length kinds) 0) command None ≡ None
by_kinds [] command e has other = absurd (⊎_elim other (λ none. none) has)
by_kinds (k ∷ kinds) command e has other = ap (λ b. cond b command None) (eqb-suc-zero (length kinds))

pub asks_none : (words : List Text) (e : Error) → HasKind (fault_of command_set words) e → kind_of e ≢ kind.OutOfMemory → command_of words ≡ None
asks_none words e has other =
    by_kinds (fault_of command_set words) (option_and_then (λ p. asked p.0 p.1) (subcommand_of command_set words)) e has other
