-- Words of std, borrow, native.
pub use Rattle.std.proofs.Common.{Bool, Err, IsTrue, List, None, Ok, Option, Result, Some, [], add-one, add-zero, ap, arith, cond, drop, false, get_or, inl, inr, length, lit<, lit≤, map, nat_eq, nat_lt, negsuc, not, pos, refl, replicate, reverse, set, subst, suc, sym, take, true, zero, ℕ, ℤ, ⊎_elim, ◌%◌, ◌&&◌, ◌*◌, ◌++◌, ◌+◌, ◌-◌, ◌/◌, ◌<◌, ◌==◌, ◌^◌, ◌||◌, ◌↔◌, ◌∙◌, ◌∷◌, ◌≡◌, ◌≢◌, ◌≤◌, ◌⊎◌}
pub use Rattle.std.proofs.Math.Nat.{mod-lt, mul-le-mul_left}
pub use Rattle.std.proofs.lemmas.Bool.{and_from, and_parts, both_ways, cases_Bool, cases_eq, cases_lt, cases_order, eq-eqb, eqb-false, eqb-true, false_from_ne_true, false≢true, leb-true, ltb-false, ne_eqb, not-false, not-true, not_from_false, or_cases, or_from, or_left, or_parts, or_right, true≢false}
pub use Rattle.std.proofs.lemmas.Bool.Decides.{nat_tests}
pub use Rattle.std.proofs.lemmas.Int.{SFits-int_wrap, int_rem_euclid_is, ints}
pub use Rattle.std.proofs.lemmas.List.{append-nil, append_assoc, drop-map, drop-replicate, get_or-append-add, get_or-drop, get_or-map, get_or-set_other, get_or-set_same, get_or-take, get_or_append_left, get_or_default, get_or_past, get_or_push, length-append, length-drop, length-map, length-replicate, length-set, length-take, map_push, replicate-append-replicate, reverse-append, take-map, take-take, take_all, take_more}
pub use Rattle.std.proofs.lemmas.List.Concat.{flat_map-append, flat_map-cons}
pub use Rattle.std.proofs.lemmas.List.Elements.{All-append, All-cons, All-contains, All-drop, All-from_get_or, All-head, All-map, All-nil, All-replicate, All-set, All-tail, All-take, All-weaker, Contains-append_left, Contains-append_right, Contains-get_or}
pub use Rattle.std.proofs.lemmas.List.Folds.{Any-from_list_any, list_any_at}
pub use Rattle.std.proofs.lemmas.List.FromFn.{get_or-enumerate_from, length-enumerate_from}
pub use Rattle.std.proofs.lemmas.List.Kept.{AllPairs-cons}
pub use Rattle.std.proofs.lemmas.List.Sorted.{All-permutation, IsPermutation-map, sum_by-IsPermutation}
pub use Rattle.std.proofs.lemmas.List.Sums.{get_or-le-sum_by, sum_by-cons, sum_by-le-sum_by, sum_by-take-le, sum_by_more}
pub use Rattle.std.proofs.lemmas.Map.Keys.{IsDistinct-IsPermutation, IsDistinct-head, IsDistinct-tail}
pub use Rattle.std.proofs.lemmas.Nat.{div-add-mod'}
pub use Rattle.std.proofs.lemmas.Option.{get_or_from_slice_get, none-some, same_Some, slice_get-get_or, slice_get-map, slice_get_past, slice_get_within, unwrap_or-slice_get}
pub use Rattle.std.specs.Int.{w16, w32, w64, w8}
pub use Rattle.std.specs.List.{AllByRecursion, AllZip, enumerate_from, flat_map, list_any, range_with_len, sum_by}
pub use Rattle.std.specs.Option.{option_and_then, option_map_or}
pub use Rattle.std.specs.Prelude.{All, AllPairs, Any, Contains, IfSome, IsPermutation, IsSome, IsSomeAnd, count_by, filter, int_lt, min, nat_le, option_map, slice_get, slice_index, slice_index_or, unsigned_abs, unwrap_or, ◌*ℤ◌, ◌-ℤ◌, ◌≤ℤ◌}
