-- Words of object_meaning, meaning_laws.
pub use Rattle.meaning_laws.specs.code.Counts.{in_pins}
pub use Rattle.meaning_laws.specs.code.Example.{DigitIsWellFormed, digit, main}
pub use Rattle.meaning_laws.specs.code.Good.{AreWaiting, HasLocals, IsFrame, IsGood, IsNeeded}
pub use Rattle.meaning_laws.specs.code.Laws.{BeginsWell, GivesInteger, HasOperands, HoldsBytes, StaysGood}
pub use Rattle.meaning_laws.specs.code.Objects.{AreObjects, AreOfSorts, AreOperands, HasStatics, IsByte, IsObject, IsOfSort, IsOperand, IsPointer, IsQueue, IsThere}
pub use Rattle.meaning_laws.specs.compiled.Laws.{CodeMeansCore, TestedCodeMeansCore}
pub use Rattle.meaning_laws.specs.compiled.SameRun.{SameFrames, SameRun, SameState}
pub use Rattle.meaning_laws.specs.compiled.Testing.{tested_code, tested_core}
pub use Rattle.meaning_laws.specs.counted.Counts.{AreCounts, inside_living, living}
pub use Rattle.meaning_laws.specs.counted.CountsEquations.{Renumbers, append_living, heap_living, no_pointers, set_living, set_same}
pub use Rattle.meaning_laws.specs.counted.Laws.{CountsAreHolders, EachStateIsCounted, TestedRunsAreCounted, testing}
pub use Rattle.meaning_laws.specs.counted.TouchedEquations.{Changes, IsPlain, OnDone, SamePointers, any_done, any_said, compared_plain, copied_changes, difference_plain, loaded_plain, on_two_plain, set_changes, stored_pointer_changes, stored_same, then_done, truth_plain}
pub use Rattle.meaning_laws.specs.objects.Dangling.{NothingDangles, counts_waiting, needed, needed_in, register}
pub use Rattle.meaning_laws.specs.objects.Good.{Alive, AreFresh, Good, Holds, HoldsFresh, IsFresh, IsKept, Sane, Waits, WaitsAt}
pub use Rattle.meaning_laws.specs.objects.GoodEquations.{is_within}
pub use Rattle.meaning_laws.specs.objects.Laws.{FreesNothing, LeavesLess, is_plain}
pub use Rattle.object_meaning.specs.code.Checking.{enter}
pub use Rattle.object_meaning.specs.code.CodeMeaning.{act, act_at, behind_lib, code_left, enough, first_numbers, hand, hand_or_act, handed_value, main_in, start, step_by, unsigned}
pub use Rattle.object_meaning.specs.code.CodeState.{CodeState, Next, other_numbers, same_numbers, with_handed}
pub use Rattle.object_meaning.specs.code.Entering.{begin, kinds_of, layout_in, no_layout, with_locals}
pub use Rattle.object_meaning.specs.code.Pinning.{pinned, pins_at}
pub use Rattle.object_meaning.specs.code.Returning.{give_back}
pub use Rattle.object_meaning.specs.compiled.Compiled.{IsCompiled, IsEntry, IsFormatIn, IsLayoutIn, IsStatement, IsStatic, IsTrimmed, format_of}
pub use Rattle.object_meaning.specs.compiled.Doing.{Does, to, to_chosen}
pub use Rattle.object_meaning.specs.compiled.Handing.{code_length, hand_of, handed_atoms, instr}
pub use Rattle.object_meaning.specs.compiled.Places.{body_length, first_of, place_of}
pub use Rattle.object_meaning.specs.compiled.Sites.{AreAscending, func_sites, may_free, sites_of, statement_sites}
pub use Rattle.object_meaning.specs.counted.CountedState.{CountedState, kept, numbered}
pub use Rattle.object_meaning.specs.counted.Counting.{birth_in, fewer, more, renumbered, without_those_inside}
pub use Rattle.object_meaning.specs.counted.Pinning.{AreExact, AreThose, Pins, counts_at, holds_on, holds_pointer, pins_of, pointer_of_register}
pub use Rattle.object_meaning.specs.objects.Arithmetic.{compared, difference, is_zero, moved_by, offsets, on_one, on_two, or_traps, ordered, pointers_compared, truth, within_object}
pub use Rattle.object_meaning.specs.objects.Builtins.{byte_in, call_lib, filled, get_byte, put_line}
pub use Rattle.object_meaning.specs.objects.Calls.{call, end_locals, escapes, go_back, locals_of, new_frame, registers_of, resumed, running_locals}
pub use Rattle.object_meaning.specs.objects.Going.{answers, at_point, changes, ended_by, goes, if_done, onward, put, stops_after, with_objects, with_register, with_step, write}
pub use Rattle.object_meaning.specs.objects.Heap.{birth_of, enqueue, free, free_named, grow, grow_named, grow_old, grown, made, make, no_place}
pub use Rattle.object_meaning.specs.objects.Holding.{answer_register, counted_inside, holders, in_all_waiting, in_registers, in_running, in_waiting, inside_objects, inside_one, is_among, is_live_at, is_live_in, is_some_held, statement_at, statement_in, takes_answer}
pub use Rattle.object_meaning.specs.objects.Making.{blank, first_pointer, heap_object, local_object, local_objects, static_object, static_objects, with_new}
pub use Rattle.object_meaning.specs.objects.Meaning.{Run, begun, branch, first_call, format_in, is_null, line_of, meaning, print_format, returned, size, step, unless_reads_stale, values_of}
pub use Rattle.object_meaning.specs.objects.Memory.{copied, loaded, loaded_pointer, pointers_in_range, stored, stored_pointer}
pub use Rattle.object_meaning.specs.objects.Printing.{Printed, arguments_behind, in_front, item_text, print, printed}
pub use Rattle.object_meaning.specs.objects.Scoping.{bury, decided, in_scope, is_held, leave}
pub use Rattle.object_meaning.specs.objects.Strings.{behind, byte_behind, order_from, order_of, room_at, string_at, string_from}
pub use Rattle.object_meaning.specs.objects.Values.{address, bytes_in, first_value, holds_stale, is_stale, number, number_at, number_of, pointer_at, pointer_in, pointer_of, size_in, start_of, value_of}
