-- Built-in functions, printf and new objects do the same to the state of a core and to that of its code.
use Rattle.meaning_laws.proofs.Words.Core.{Code, Core, Exit, In, Layout, LibName, Object, Out, Pointer, Refusal, State, Trap, Value}
use Rattle.meaning_laws.proofs.Words.Meaning.{address, birth_in, birth_of, byte_in, call_lib, ended_by, filled, get_byte, if_done, made, no_place, number, number_at, pointer_at, print, print_format, put_line, with_new, with_objects}
use Rattle.meaning_laws.proofs.Words.Std.{Bool, Err, List, None, Ok, Option, Result, Some, [], false, map, negsuc, pos, refl, true, ℕ, ◌∷◌}
use Rattle.hs_base.specs.declared.ends.TrapKind.TheVariants as trap
use Rattle.hs_base.specs.declared.values.Pointer.TheVariants as pointer
use Rattle.core_tree.specs.declared.statements.LibName.TheVariants as lib
use Rattle.object_meaning.specs.counted.CountedMeaning as counted
use Rattle.object_meaning.specs.code.CodeMeaning as code_meaning
use Rattle.meaning_laws.proofs.agreement.Keeping.{ByObjects, renumbered_same, IsLast, acting, Both, alike, writes, stops, answers_both}

-- the numbers behind a built-in function
pub behind_both : (name : LibName) (values : List Value) (numbers : ℕ → ℕ) → ByObjects (counted.behind_lib name values numbers) (code_meaning.behind_lib name values numbers)
behind_both lib.Memcpy values numbers = renumbered_same (birth_in (pointer_at values 0)) numbers
behind_both lib.Memmove values numbers = renumbered_same (birth_in (pointer_at values 0)) numbers
behind_both lib.Memset values numbers = renumbered_same (birth_in (pointer_at values 0)) numbers
behind_both name values numbers = λ b t c u e f. refl

module _ (core : Core) (code : Code) (s : State) (q j : ℕ) (last : IsLast core code s q j) where
  abbrev there : State
  there = acting core code s q j last s

  filled_both : (line : ℕ) (r : Option ℕ) (p : Pointer) (result : Result (List Object) Refusal) → Both core code s q j last (filled line r p result s) (filled line r p result there)
  filled_both line r p (Ok objects) =
      writes core code s q j last (with_objects s objects) (record { func = refl; point = refl; waiting = refl; steps = refl }) r (address p) []
  filled_both line r p (Err e) = stops core code s q j last [] s (ended_by line e)

  get_both : (r : Option ℕ) (input : List ℕ) → Both core code s q j last (get_byte r input s) (get_byte r input there)
  get_both r [] =
      writes core code s q j last s (alike core code s q j last) r (number (negsuc 0)) (In None ∷ [])
  get_both r (byte ∷ rest) =
      writes core code s q j last (record s { input = rest }) (record { func = refl; point = refl; waiting = refl; steps = refl }) r (number (pos byte)) (In (Some byte) ∷ [])

  puts_both : (line : ℕ) (r : Option ℕ) (result : Result (List ℕ) Refusal) → Both core code s q j last (if_done line s result (λ text. put_line r text s)) (if_done line there result (λ text. put_line r text there))
  puts_both line r (Ok text) =
      writes core code s q j last s (alike core code s q j last) r (number (pos 0)) _
  puts_both line r (Err e) = stops core code s q j last [] s (ended_by line e)

  pub none_both : (r : ℕ) → Both core code s q j last (no_place r s) (no_place r there)
  none_both r =
      writes core code s q j last s (alike core code s q j last) (Some r) (address pointer.Null) []

  pub made_both : (b : Bool) (line r n : ℕ) (element : Layout) → Both core code s q j last (made b line r n element s) (made b line r n element there)
  made_both false line r n element = none_both r
  made_both true line r n element =
      writes core code s q j last (with_new line n element s) (record { func = refl; point = refl; waiting = refl; steps = refl }) (Some r) _ (birth_of line n s)

  print_both : (line r : ℕ) (bytes : List ℕ) (why : Option Refusal) → Both core code s q j last (print line r bytes why s) (print line r bytes why there)
  print_both line r bytes None =
      writes core code s q j last s (alike core code s q j last) (Some r) _ (map Out bytes)
  print_both line r bytes (Some e) = stops core code s q j last (map Out bytes) s (ended_by line e)

  pub prints_both : (line r : ℕ) (format : List ℕ) (values : List Value) → Both core code s q j last (print_format line r format values s) (print_format line r format values there)
  prints_both line r format values = print_both line r _ _

  pub lib_both : (line : ℕ) (name : LibName) (r : Option ℕ) (values : List Value) → Both core code s q j last (call_lib line name r values s) (call_lib line name r values there)
  lib_both line lib.Exit r values = stops core code s q j last [] s (Exit (byte_in (number_at values 0)))
  lib_both line lib.Abort r values = stops core code s q j last [] s (Trap trap.Abort line)
  lib_both line lib.Memcpy r values = filled_both line r (pointer_at values 0) _
  lib_both line lib.Memmove r values = filled_both line r (pointer_at values 0) _
  lib_both line lib.Memset r values = filled_both line r (pointer_at values 0) _
  lib_both line lib.Strlen r values = answers_both core code s q j last line r _
  lib_both line lib.Strcmp r values = answers_both core code s q j last line r _
  lib_both line lib.Getchar r values = get_both r s.input
  lib_both line lib.Putchar r values =
      writes core code s q j last s (alike core code s q j last) r _ (Out (byte_in (number_at values 0)) ∷ [])
  lib_both line lib.Puts r values = puts_both line r _
