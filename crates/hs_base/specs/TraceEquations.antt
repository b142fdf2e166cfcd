-- The bytes that traces write and read. Equations, proved from `Trace`.
use Rattle.std.proofs.Common.{◌≡◌, ℕ, List, [], ◌∷◌, ◌++◌, map, Some, None, refl, ap}
use Rattle.hs_base.specs.Trace.{Event, Out, In, New, Gone, Enter, Leave, bytes_out, bytes_in}

pub out_append : (a b : List Event) → bytes_out (a ++ b) ≡ bytes_out a ++ bytes_out b
out_append [] b = refl
out_append (Out byte ∷ a) b = ap (λ bs. byte ∷ bs) (out_append a b)
out_append (In byte ∷ a) b = out_append a b
out_append (New birth size line ∷ a) b = out_append a b
out_append (Gone birth ∷ a) b = out_append a b
out_append (Enter cost line ∷ a) b = out_append a b
out_append (Leave ∷ a) b = out_append a b

pub in_append : (a b : List Event) → bytes_in (a ++ b) ≡ bytes_in a ++ bytes_in b
in_append [] b = refl
in_append (Out byte ∷ a) b = in_append a b
in_append (In (Some byte) ∷ a) b = ap (λ bs. byte ∷ bs) (in_append a b)
in_append (In None ∷ a) b = in_append a b
in_append (New birth size line ∷ a) b = in_append a b
in_append (Gone birth ∷ a) b = in_append a b
in_append (Enter cost line ∷ a) b = in_append a b
in_append (Leave ∷ a) b = in_append a b

-- events that write bytes
pub out_bytes : (bytes : List ℕ) → bytes_out (map Out bytes) ≡ bytes
out_bytes [] = refl
out_bytes (byte ∷ bytes) = ap (λ bs. byte ∷ bs) (out_bytes bytes)

pub in_bytes : (bytes : List ℕ) → bytes_in (map Out bytes) ≡ []
in_bytes [] = refl
in_bytes (byte ∷ bytes) = in_bytes bytes
