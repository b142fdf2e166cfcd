-- The forms of directives, one step at a time.
use Rattle.std.proofs.Common.{◌≡◌, ℕ, ◌-◌, ◌≤◌, true, false, List, [], ◌∷◌, ◌++◌, length, take, drop, get_or, refl, sym, arith}
use Rattle.std.proofs.lemmas.List.{take_all}
use Rattle.c_lexer.specs.declared.token.Token.{Token}
use Rattle.c_pre.specs.Directives.{is_name, is_among, is_sign, names_from}

-- a name, a comma, and what stands behind them
pub names_turn : (names : List (List ℕ)) (rest : List Token) (name sign : Token) → 2 ≤ length rest → name ≡ get_or rest 0 name → sign ≡ get_or rest 1 sign → is_sign 46 name ≡ false → is_name name ≡ true → is_among names name.bytes ≡ false → is_sign 41 sign ≡ false → is_sign 44 sign ≡ true → names_from names rest ≡ names_from (names ++ name.bytes ∷ []) (take (length rest - 2) (drop 2 rest))
names_turn names [] name sign long is are dots named new closes goes = absurd (omega (arith, long))
names_turn names (a ∷ []) name sign long is are dots named new closes goes = absurd (omega (arith, long))
names_turn names (a ∷ b ∷ behind) name sign long is are dots named new closes goes =
    let whole : take (length (a ∷ b ∷ behind) - 2) (drop 2 (a ∷ b ∷ behind)) ≡ behind = take_all (length (a ∷ b ∷ behind) - 2) behind (omega arith) in
    rw (whole, sym is, sym are, dots, named, new, closes, goes) refl
