-- Words of std, borrow, native, mathlib.
pub use Rattle.std.proofs.Common.{All, Bool, Box, Err, Global, IfOk, IfSome, IsSome, List, None, Ok, Option, Result, Some, Vec, [], ap, append-nil, append_assoc, ap₂, arith, bytes_eq, codes, cond, decimal, drop, false, get_or, get_or-set_other, if◌then◌else◌, inl, inr, is_some, length, map, nat_eq, not, option_map, option_to_list, refl, replicate, reverse, rules, subst, subst₂, suc, sym, take, true, unwrap_or, zero, ℕ, ◌&&◌, ◌*◌, ◌++◌, ◌+◌, ◌-◌, ◌<◌, ◌||◌, ◌∙◌, ◌∷◌, ◌≡◌, ◌≢◌, ◌≤◌, ◌⊎◌}
pub use Rattle.std.proofs.Math.Bool.{or-false}
pub use Rattle.std.proofs.Math.ListN.{length-set, set}
pub use Rattle.std.proofs.Math.Seq.{drop-cons, take-append-add}
pub use Rattle.std.proofs.lemmas.Bool.{and_parts, and_right, cond-false, eqb-true, false_from_ne_true, false≢true, leb-true, ne_eqb, or_cases, or_from, or_left, or_parts, or_right}
pub use Rattle.std.proofs.lemmas.Fmt.{decimal-digits_of, decimal_injective, length-decimal-le}
pub use Rattle.std.proofs.lemmas.List.{append_cancel_left, append_cancel_right, length-append, length-map, map-append, reverse-append, take_at, with_items_is}
pub use Rattle.std.proofs.lemmas.List.Elements.{All-append, All-cons, All-head, All-map, All-nil, All-tail, All-weaker, filter-append}
pub use Rattle.std.proofs.lemmas.List.Folds.{list_all-append, list_any-append}
pub use Rattle.std.proofs.lemmas.Option.{get_or_from_slice_get}
pub use Rattle.std.proofs.lemmas.Result.{err_from_is_err_and}
pub use Rattle.std.proofs.lemmas.Slice.Eq.{bytes_eq-Decides}
pub use Rattle.std.specs.Box.{with_value}
pub use Rattle.std.specs.HashMap.{HashMap, UpdatesBy}
pub use Rattle.std.specs.Int.Digits.{digits_of}
pub use Rattle.std.specs.List.{list_all, list_any, slice_get}
pub use Rattle.std.specs.Map.{lookup}
pub use Rattle.std.specs.Option.{option_copied}
pub use Rattle.std.specs.Prelude.{nat_le, ⊤, ◌==◌}
pub use Rattle.std.specs.Vec.{with_items}
pub use borrow.Enum.Total.{values_o, values_o_at}
