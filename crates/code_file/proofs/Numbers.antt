-- Numbers and their bytes.
use Rattle.std.proofs.Common.{◌≡◌, ◌<◌, ◌^◌, ℕ, ℤ, pos, negsuc, List, [], ◌∷◌, ◌++◌, length, get_or, refl, sym, ap, ◌∙◌, FitsSigned, arith}
use Rattle.std.specs.Int.{cast_signed, cast_unsigned, from_le_bytes, w32, w64}
use Rattle.std.proofs.lemmas.Int.{of_z-to_z, to_z-of_z}
use Rattle.std.proofs.lemmas.Nat.{le_bytes_4, le_bytes_8, from_le_bytes-to_le_bytes_4, from_le_bytes-to_le_bytes_8}
use Rattle.code_file.specs.Spelling.{number, signed}

pub length-number : (n : ℕ) → length (number n) ≡ 4
unfolding number
length-number n = refl

pub number_of_bytes : (bytes : List ℕ) (n : ℕ) → length bytes ≡ 4 → ((i : ℕ) → get_or bytes i 0 < 256) → n ≡ from_le_bytes w32 bytes → number n ≡ bytes
unfolding number
number_of_bytes bytes n long fits is = le_bytes_4 bytes n long fits is

pub number_once : (m n : ℕ) → m < 2 ^ 32 → n < 2 ^ 32 → number m ≡ number n → m ≡ n
unfolding number
number_once m n small other same =
    sym (from_le_bytes-to_le_bytes_4 m small) ∙ ap (from_le_bytes w32) same ∙ from_le_bytes-to_le_bytes_4 n other

-- two fronts of one length are the same
pub same_fronts : {X : Type 0} (a b s t : List X) → length a ≡ length b → a ++ s ≡ b ++ t → (a ≡ b) × (s ≡ t)
same_fronts [] [] s t long same = (refl, same)
same_fronts [] (y ∷ b) s t long same = absurd (omega arith)
same_fronts (x ∷ a) [] s t long same = absurd (omega arith)
same_fronts (x ∷ a) (y ∷ b) s t long same =
    let rest = same_fronts a b s t (omega arith) (cc) in
    let first : x ≡ y = cc in
    ((cc), rest.1)

pub length-signed : (n : ℤ) → length (signed n) ≡ 8
unfolding signed
length-signed n = refl

word_of_bytes : (bytes : List ℕ) → ((i : ℕ) → get_or bytes i 0 < 256) → from_le_bytes w64 bytes < 2 ^ 64
word_of_bytes bytes fits =
    omega (arith, fits 0, fits 1, fits 2, fits 3, fits 4, fits 5, fits 6, fits 7)

pub signed_of_bytes : (bytes : List ℕ) (n : ℤ) → length bytes ≡ 8 → ((i : ℕ) → get_or bytes i 0 < 256) → n ≡ cast_signed w64 (from_le_bytes w64 bytes) → signed n ≡ bytes
unfolding signed
signed_of_bytes bytes n long fits is =
    let small : from_le_bytes w64 bytes < 2 ^ 64 = word_of_bytes bytes fits in
    le_bytes_8 bytes (cast_unsigned w64 n) long fits (ap (cast_unsigned w64) is ∙ of_z-to_z w64 (from_le_bytes w64 bytes) small)

bits_small : (n : ℤ) → FitsSigned w64 n → cast_unsigned w64 n < 2 ^ 64
bits_small (pos n) fits = omega (arith, fits.sfits)
bits_small (negsuc n) fits = omega (arith, fits.sfits)

pub signed_once : (m n : ℤ) → FitsSigned w64 m → FitsSigned w64 n → signed m ≡ signed n → m ≡ n
unfolding signed
signed_once m n small other same =
    let bits : cast_unsigned w64 m ≡ cast_unsigned w64 n =
    sym (from_le_bytes-to_le_bytes_8 (cast_unsigned w64 m) (bits_small m small)) ∙ ap (from_le_bytes w64) same ∙ from_le_bytes-to_le_bytes_8 (cast_unsigned w64 n) (bits_small n other) in
    sym (to_z-of_z w64 m small) ∙ ap (cast_signed w64) bits ∙ to_z-of_z w64 n other

-- a number with a sign, as code passes it
pub passed : (n : ℤ) → FitsSigned w64 n → cast_signed w64 (cast_unsigned w64 n) ≡ n
passed n fits = to_z-of_z w64 n fits
