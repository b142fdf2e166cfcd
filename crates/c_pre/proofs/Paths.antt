-- The names of included texts are text.
use Rattle.std.proofs.Common.{◌≡◌, ℕ, ◌<◌, true, List, get_or, arith}
use Rattle.std.specs.List.{list_all}
use Rattle.std.specs.Str.{IsUtf8}
use Rattle.std.proofs.lemmas.Str.{IsUtf8-from_ascii}
use Rattle.std.proofs.lemmas.Str.Ascii.{IsAscii-from_all}
use Rattle.std.proofs.lemmas.List.Sums.{AllPass-from_list_all}
use Rattle.std.proofs.lemmas.Bool.Decides.{nat_tests}
use Rattle.c_lexer.specs.Bytes.{is_letter, is_digit, is_name_byte}
use Rattle.c_pre.specs.Directives.{is_path_byte}

is_low : (b : ℕ) → is_path_byte b ≡ true → b < 128
unfolding is_letter is_digit is_name_byte
is_low b is = grind (arith, nat_tests)

pub path_is_utf8 : (path : List ℕ) → list_all is_path_byte path ≡ true → IsUtf8 path
path_is_utf8 path all =
    let pass = AllPass-from_list_all is_path_byte path all in
    IsUtf8-from_ascii path (IsAscii-from_all path (λ k d within. is_low (get_or path k d) (pass k d within)))
