-- Mentions that are gone through in turn.
use Rattle.std.proofs.Common.{◌≡◌, ◌<◌, ◌≤◌, ◌+◌, ℕ, Bool, true, false, if◌then◌else◌, List, drop, length, get_or, Some, None, refl, ap, sym, ◌∙◌}
use Rattle.c_units.specs.Mentions.{Mention, Taken, is_taken, first_taken, with_role, with_mentions}
use Rattle.c_units.proofs.Steps.{drop_next, drop_end, next_is, end_is}

module _ (t : Taken) where
  at_next : (xs : List Mention) (i : ℕ) (x : Mention) → i < length xs → x ≡ get_or xs i x →
      first_taken t (drop i xs) ≡ (if is_taken t x.role x.name then Some x else first_taken t (drop (i + 1) xs))
  at_next xs i x h is = ap (first_taken t) (drop_next xs i x h is)

  pub taken_next : (xs : List Mention) (i : ℕ) (x : Mention) → i < length xs → x ≡ get_or xs i x → is_taken t x.role x.name ≡ false →
      first_taken t (drop (i + 1) xs) ≡ first_taken t (drop i xs)
  taken_next xs i x h is free =
      sym (at_next xs i x h is ∙ ap (λ (b : Bool). if b then Some x else first_taken t (drop (i + 1) xs)) free)

  pub taken_found : (xs : List Mention) (i : ℕ) (x : Mention) → i < length xs → x ≡ get_or xs i x → is_taken t x.role x.name ≡ true →
      first_taken t (drop i xs) ≡ Some x
  taken_found xs i x h is found =
      at_next xs i x h is ∙ ap (λ (b : Bool). if b then Some x else first_taken t (drop (i + 1) xs)) found

  pub taken_end : (xs : List Mention) (i : ℕ) → length xs ≤ i → first_taken t (drop i xs) ≡ None
  taken_end xs i h = ap (first_taken t) (drop_end xs i h)

pub noted_next : (xs : List Mention) (i : ℕ) (x : Mention) (t more : Taken) → i < length xs → x ≡ get_or xs i x → more ≡ with_role x.role x.name t →
    with_mentions (drop (i + 1) xs) more ≡ with_mentions (drop i xs) t
noted_next xs i x t more = next_is with_mentions (λ x t. with_role x.role x.name t) (λ x rest t. refl) xs i x t more

pub noted_end : (xs : List Mention) (i : ℕ) (t : Taken) → length xs ≤ i → with_mentions (drop i xs) t ≡ t
noted_end xs i t h = end_is with_mentions xs i t h
