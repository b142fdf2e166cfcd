-- The loop over the characters of a literal: the values so far, in front of those of the rest, are those of the text.
use Rattle.std.proofs.Common.{◌≡◌, ◌≢◌, ℕ, zero, suc, ◌+◌, ◌-◌, ◌≤◌, List, [], ◌∷◌, ◌++◌, length, take, drop, refl, ap, sym, ◌∙◌, arith}
use Rattle.std.proofs.lemmas.Bool.{ne_eqb}
use Rattle.std.proofs.lemmas.List.{drop-drop, drop_all, append_assoc, append-nil, length-drop}
use Rattle.c_lexer.specs.Literals.{character_length, character_value, values_from}

-- the loop has come to a place
abbrev pub AtValues : ℕ → List ℕ → ℕ → List ℕ → Type 0
AtValues quote text at made = made ++ values_from quote 0 (drop at text) ≡ values_from quote 0 text

values_skip : (q k : ℕ) (t : List ℕ) → k ≤ length t → values_from q k t ≡ values_from q 0 (drop k t)
unfolding values_from
values_skip q zero t h = refl
values_skip q (suc k) [] h = absurd (omega (arith, h))
values_skip q (suc k) (b ∷ w) h = values_skip q k w (omega (arith, h))

values_none : (q : ℕ) (t : List ℕ) → character_length q t ≡ 0 → values_from q 0 t ≡ []
unfolding values_from
values_none q [] e = refl
values_none q (b ∷ w) e = rw e refl

values_more : (q : ℕ) (t : List ℕ) (n : ℕ) → character_length q t ≡ n → n ≢ 0 → n ≤ length t → values_from q 0 t ≡ character_value (take n t) ∷ values_from q 0 (drop n t)
unfolding values_from
values_more q t zero e some le = absurd (some refl)
values_more q [] (suc n) e some le = absurd (omega (arith, le))
values_more q (b ∷ w) (suc n) e some le =
    let less : suc n - 1 ≡ n = omega arith in
    rw (e, ne_eqb (suc n) 0 some, less) (ap (λ l. character_value (b ∷ take n w) ∷ l) (values_skip q n w (omega (arith, le))))

pub values_end : (q : ℕ) (text : List ℕ) (at : ℕ) (made : List ℕ) → AtValues q text at made → length text ≤ at → made ≡ values_from q 0 text
unfolding values_from
values_end q text at made reached le = sym (append-nil made) ∙ (ap (λ t. made ++ values_from q 0 t) (sym (drop_all at text le)) ∙ reached)

pub values_stop : (q : ℕ) (text : List ℕ) (at : ℕ) (made : List ℕ) → AtValues q text at made → character_length q (drop at text) ≡ 0 → made ≡ values_from q 0 text
values_stop q text at made reached e = sym (append-nil made) ∙ (ap (λ l. made ++ l) (sym (values_none q (drop at text) e)) ∙ reached)

pub values_on : (q : ℕ) (text : List ℕ) (at n : ℕ) (made : List ℕ) → AtValues q text at made → character_length q (drop at text) ≡ n → n ≢ 0 → at + n ≤ length text → AtValues q text (at + n) (made ++ character_value (take n (drop at text)) ∷ [])
values_on q text at n made reached e some le =
    let rest = length-drop at text in
    let here = values_more q (drop at text) n e some (omega (arith, rest, le)) in
    append_assoc made (character_value (take n (drop at text)) ∷ []) (values_from q 0 (drop (at + n) text))
    ∙ (ap (λ t. made ++ character_value (take n (drop at text)) ∷ values_from q 0 t) (sym (drop-drop n at text))
    ∙ (ap (λ l. made ++ l) (sym here) ∙ reached))
