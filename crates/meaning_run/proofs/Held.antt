-- Whether there is a holder.
use Rattle.std.proofs.Common.{◌≡◌, List, [], ◌∷◌, ◌++◌, true, false, is_some, refl}
use Rattle.hs_base.specs.declared.ends.Holder.{Holder}
use Rattle.object_meaning.specs.objects.Holding.{is_some_held, first_of}

pub held_is : (one : List Holder) → is_some_held one ≡ is_some (first_of one)
held_is [] = refl
held_is (first ∷ rest) = refl

pub held_first : (one other : List Holder) → is_some (first_of one) ≡ true → is_some_held (one ++ other) ≡ true
held_first [] other h = absurd (cc)
held_first (first ∷ rest) other h = refl

pub held_later : (one other : List Holder) → is_some (first_of one) ≡ false → is_some_held (one ++ other) ≡ is_some (first_of other)
held_later [] other h = held_is other
held_later (first ∷ rest) other h = absurd (cc)
