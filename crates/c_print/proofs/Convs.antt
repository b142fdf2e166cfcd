-- Lengths and conversions.
use Rattle.std.proofs.Common.{◌≡◌, ◌≢◌, ℕ, Bool, true, false, cond, List, [], ◌∷◌, ◌++◌, ◌&&◌, take, length, nat_eq, Some, None, refl, sym, ap, ◌∙◌, subst, codes}
use Rattle.std.specs.List.{starts_with}
use Rattle.std.specs.Option.{unwrap_or}
use lib.Pointwise.{pointwise}
use Rattle.std.proofs.lemmas.List.{append_cancel_left}
use Rattle.std.proofs.lemmas.Bool.{ne_eqb}
use Rattle.hs_base.specs.declared.ends.IntKind.{IntKind}
use Rattle.c_print.specs.declared.length.Length.{Length}
use Rattle.c_print.specs.declared.length.Length.TheVariants.{Absent, Hh, H, L, Ll, Z}
use Rattle.c_print.specs.Length.{length_bytes, kind_of}
use Rattle.c_print.specs.Pieces.{length_at}
use Rattle.c_print.specs.Item.{ReadsConversion}

-- and no letter of a length
pub conv_is_not : (length : Length) (conv : ℕ) (kind : IntKind) → kind_of length conv ≡ Some kind →
    (conv ≢ 104) × (conv ≢ 108) × (conv ≢ 122)
conv_is_not length conv kind is = (
  λ e. is_none (subst (λ b. kind_of length b ≡ Some kind) e is),
  λ e. is_none (subst (λ b. kind_of length b ≡ Some kind) e is),
  λ e. is_none (subst (λ b. kind_of length b ≡ Some kind) e is),
) where
  is_none : None ≡ Some kind → ⊥
  is_none e = cc

-- a byte that is not its first starts no text
not_starts : (a conv : ℕ) (more rest : List ℕ) → conv ≢ a → starts_with nat_eq (conv ∷ rest) (a ∷ more) ≡ false
not_starts a conv more rest other = ap (λ here. here && pointwise nat_eq more (take (length more) rest)) (ne_eqb a conv (λ e. other (sym e)))

abbrev first_of_these : Bool → Bool → Bool → Bool → Bool → Length
first_of_these hh h ll l z =
    unwrap_or (cond hh (Some Hh) (cond h (Some H) (cond ll (Some Ll) (cond l (Some L) (cond z (Some Z) None))))) Absent

-- the length at the front, where a conversion follows it
pub length_at_is : (length : Length) (conv : ℕ) (rest : List ℕ) → (conv ≢ 104) × (conv ≢ 108) × (conv ≢ 122) →
    length_at (length_bytes length ++ conv ∷ rest) ≡ length
length_at_is Absent conv rest not =
    let hh = not_starts 104 conv (codes "h") rest not.0 in
    let h = not_starts 104 conv [] rest not.0 in
    let ll = not_starts 108 conv (codes "l") rest not.1 in
    let l = not_starts 108 conv [] rest not.1 in
    let z = not_starts 122 conv [] rest not.2 in
    λ i. first_of_these (hh i) (h i) (ll i) (l i) (z i)
length_at_is Hh conv rest not = refl
length_at_is H conv rest not = let hh = not_starts 104 conv [] rest not.0 in λ i. first_of_these (hh i) true false false false
length_at_is L conv rest not = let ll = not_starts 108 conv [] rest not.1 in λ i. first_of_these false false (ll i) true false
length_at_is Ll conv rest not = refl
length_at_is Z conv rest not = refl

-- there is one length and one conversion at the front
pub one_conversion : (bytes : List ℕ) (conv conv' : ℕ) (kind kind' : IntKind) (rest rest' : List ℕ) →
    ReadsConversion bytes conv kind rest → ReadsConversion bytes conv' kind' rest' →
    (conv ≡ conv') × (kind ≡ kind') × (rest ≡ rest')
one_conversion bytes conv conv' kind kind' rest rest' one other =
    let first = length_at_is one.length conv rest (conv_is_not one.length conv kind one.kind_is) in
    let second = length_at_is other.length conv' rest' (conv_is_not other.length conv' kind' other.kind_is) in
    let same : one.length ≡ other.length = sym first ∙ ap length_at (sym one.written ∙ other.written) ∙ second in
    let behind : length_bytes other.length ++ conv ∷ rest ≡ length_bytes other.length ++ conv' ∷ rest' =
    ap (λ l. length_bytes l ++ conv ∷ rest) (sym same) ∙ sym one.written ∙ other.written in
    let tails = append_cancel_left (length_bytes other.length) _ _ behind in
    let conv_same : conv ≡ conv' = cc in
    let kinds : Some kind ≡ Some kind' = sym one.kind_is ∙ (λ i. kind_of (same i) (conv_same i)) ∙ other.kind_is in
    (conv_same, cc, cc)
