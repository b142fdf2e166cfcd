-- Events that neither write nor read a byte.
use Rattle.std.proofs.Common.{◌≡◌, ℕ, List, [], ◌∷◌, ◌++◌, map, refl}
use Rattle.hs_base.specs.Trace.{Event, Out, In, New, Gone, Enter, Leave, bytes_out, bytes_in}
use Rattle.std.specs.Prelude.{Some, None}

none_out : (births : List ℕ) → bytes_out (map Gone births) ≡ []
none_out [] = refl
none_out (birth ∷ births) = none_out births

none_in : (births : List ℕ) → bytes_in (map Gone births) ≡ []
none_in [] = refl
none_in (birth ∷ births) = none_in births

pub out_gone : (events : List Event) (births : List ℕ) → bytes_out events ≡ [] → bytes_out (events ++ map Gone births) ≡ []
out_gone [] births h = none_out births
out_gone (Out byte ∷ events) births h = absurd (cc)
out_gone (In byte ∷ events) births h = out_gone events births h
out_gone (New birth size line ∷ events) births h = out_gone events births h
out_gone (Gone birth ∷ events) births h = out_gone events births h
out_gone (Enter cost line ∷ events) births h = out_gone events births h
out_gone (Leave ∷ events) births h = out_gone events births h

pub in_gone : (events : List Event) (births : List ℕ) → bytes_in events ≡ [] → bytes_in (events ++ map Gone births) ≡ []
in_gone [] births h = none_in births
in_gone (Out byte ∷ events) births h = in_gone events births h
in_gone (In (Some byte) ∷ events) births h = absurd (cc)
in_gone (In None ∷ events) births h = in_gone events births h
in_gone (New birth size line ∷ events) births h = in_gone events births h
in_gone (Gone birth ∷ events) births h = in_gone events births h
in_gone (Enter cost line ∷ events) births h = in_gone events births h
in_gone (Leave ∷ events) births h = in_gone events births h
