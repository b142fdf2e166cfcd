-- Words of the standard library that lemmas speak of.
pub use Rattle.std.proofs.Common.{All, Bool, Contains, Err, IfSome, IsSome, List, None, Ok, Option, Result, Some, [], ap, append-nil, append_assoc, ap₂, arith, bytes_eq, codes, cond, count_by, drop, eq-eqb, eqb-true, false, filter, fold, get_or, if◌then◌else◌, inl, inr, is_none, is_some, length, length-append, length-drop, length-take, length-take-le, ltb-false, ltb-true, map, max, min, mul-one, nat_eq, nat_le, nat_lt, ne_eqb, neg_ℤ, negsuc, not, option_map, pos, refl, replicate, reverse, slice_get, slice_index, slice_index_or, slice_set, subst, suc, sum_by, sym, take, true, true≢false, unwrap_or, zero, zip, ℕ, ℤ, ⊎_elim, ◌%◌, ◌&&◌, ◌*◌, ◌++◌, ◌+ℤ◌, ◌+◌, ◌-◌, ◌/◌, ◌<◌, ◌==◌, ◌^◌, ◌||◌, ◌∙◌, ◌∷◌, ◌≡◌, ◌≢◌, ◌≤◌, ◌⊎◌}
pub use Rattle.std.proofs.Math.Path.{transport, transport⁻¹}
pub use Rattle.std.proofs.lemmas.Bool.{and_parts, cases_lt, eqb-false, false≢true, leb-true}
pub use Rattle.std.proofs.lemmas.Int.{SFits-int_wrap, ints}
pub use Rattle.std.proofs.lemmas.List.{length-map, length-replicate, length-reverse, map-append, reverse-append, reverse-reverse, take-append-drop}
pub use Rattle.std.proofs.lemmas.List.Concat.{flat_map-cons}
pub use Rattle.std.proofs.lemmas.List.Elements.{All-append, All-cons, All-head, All-map, All-nil, All-push, All-replicate, All-tail, All-weaker}
pub use Rattle.std.proofs.lemmas.List.Folds.{length-prefix_len}
pub use Rattle.std.proofs.lemmas.List.Sums.{fold_push, sum_by-append, sum_by-cons}
pub use Rattle.std.proofs.lemmas.Nat.{div-mul-add, mod-mul-add}
pub use Rattle.std.proofs.lemmas.Option.{slice_get-map}
pub use Rattle.std.proofs.lemmas.Slice.Eq.{bytes_eq-Decides}
pub use Rattle.std.specs.Char.{is_ascii_digit}
pub use Rattle.std.specs.Cmp.Lexicographic.{pointwise}
pub use Rattle.std.specs.Int.{w16, w32, w64, w8}
pub use Rattle.std.specs.List.{AllByRecursion, find, flat_map, list_all, list_any, prefix_len, range_with_len, starts_with, take_while}
pub use Rattle.std.specs.Option.{ForSome, option_map_or, option_or}
pub use Rattle.std.specs.Ordering.{int_eq}
pub use Rattle.std.specs.Prelude.{int_le, unsigned_abs}
pub use Rattle.std.specs.Str.Parse.{digits_value}
