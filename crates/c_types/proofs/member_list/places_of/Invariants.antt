use Rattle.std.proofs.Common.{◌≡◌, ℕ, List, take}
use Rattle.std.specs.Prelude.{bytes_eq}
use Rattle.indexmap.specs.IndexMap.{get_by}
use Rattle.c_types.specs.MemberPlaces.{place_of}
use Rattle.c_types.proofs.member_list.places_of.Given as goal

abbrev pub invariant-loop-place : goal.invariant-loop-place
invariant-loop-place l = (name : List ℕ) → get_by (λ k. bytes_eq name k.items) l.places ≡ place_of name (take l.place l.list)
