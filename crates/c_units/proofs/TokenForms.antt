-- Each sign and each keyword has the form of its kind.
use Rattle.c_units.proofs.Words.Std.{List, [], bytes_eq, bytes_eq-Decides, codes, eqb-true, inl, inr, list_any, or_cases, refl, subst, sym, true, ℕ, ◌==◌, ◌||◌, ◌∷◌, ◌≡◌}
use Rattle.c_units.proofs.Words.Trees.{IsToken, TokenKind, class_of, double_signs, is_digit, is_double_sign, is_keyword, is_letter, is_mark, is_name_byte, is_sign, is_single_sign, is_space, is_triple_sign, keywords, kind_of, triple_signs}
use Rattle.c_lexer.specs.declared.token.TokenKind.TheVariants.{Keyword, Sign}

-- each of these words is a token of the kind
AllTokens : TokenKind → List (List ℕ) → Type 0
AllTokens kind [] = Unit {0}
AllTokens kind (word ∷ words) = IsToken kind word × AllTokens kind words

among : (kind : TokenKind) (words : List (List ℕ)) (w : List ℕ) → AllTokens kind words → list_any (bytes_eq w) words ≡ true → IsToken kind w
unfolding AllTokens
among kind [] w all e = absurd (cc)
among kind (word ∷ words) w all e = elim (or_cases (bytes_eq w word) _ e) [
  | inl h ↦ subst (IsToken kind) (sym ((bytes_eq-Decides w word).0 h)) all.0
  | inr h ↦ among kind words w all.1 h
]

keyword_forms : AllTokens Keyword keywords
unfolding AllTokens kind_of class_of is_space is_letter is_digit is_name_byte is_keyword
keyword_forms = (refl, (refl, (refl, (refl, (refl, (refl, (refl, (refl, (refl, (refl, (refl, (refl, (refl, (refl, (refl, (refl, (refl, (refl, (refl, (refl, (refl, (refl, (refl, (refl, (refl, (refl, (refl, (refl, (refl, (refl, (refl, (refl, (refl, (refl, (refl, (refl, (refl, (refl, tt))))))))))))))))))))))))))))))))))))))

-- a keyword is a token
pub keyword_token : (w : List ℕ) → is_keyword w ≡ true → IsToken Keyword w
unfolding is_keyword
keyword_token w e = among Keyword keywords w keyword_forms e

double_forms : AllTokens Sign double_signs
unfolding AllTokens kind_of class_of is_space is_letter is_digit is_mark is_double_sign is_triple_sign
double_forms = (refl, (refl, (refl, (refl, (refl, (refl, (refl, (refl, (refl, (refl, (refl, (refl, (refl, (refl, (refl, (refl, (refl, (refl, (refl, tt)))))))))))))))))))

triple_forms : AllTokens Sign triple_signs
unfolding AllTokens kind_of class_of is_space is_letter is_digit is_mark is_double_sign is_triple_sign
triple_forms = (refl, (refl, tt))

-- each of these bytes is a sign by itself
AllMarks : List ℕ → Type 0
AllMarks [] = Unit {0}
AllMarks (c ∷ cs) = IsToken Sign (c ∷ []) × AllMarks cs

among_marks : (cs : List ℕ) (b : ℕ) → AllMarks cs → list_any (λ c. c == b) cs ≡ true → IsToken Sign (b ∷ [])
unfolding AllMarks
among_marks [] b all e = absurd (cc)
among_marks (c ∷ cs) b all e = elim (or_cases (c == b) _ e) [
  | inl h ↦ let P : ℕ → Type 0 = λ n. IsToken Sign (n ∷ []) in subst P (eqb-true c b h) all.0
  | inr h ↦ among_marks cs b all.1 h
]

mark_forms : AllMarks (codes "[](){}.&*+-~!%<>^|?:;=,")
unfolding AllMarks kind_of class_of is_space is_letter is_digit is_mark is_double_sign is_triple_sign
mark_forms = (refl, (refl, (refl, (refl, (refl, (refl, (refl, (refl, (refl, (refl, (refl, (refl, (refl, (refl, (refl, (refl, (refl, (refl, (refl, (refl, (refl, (refl, (refl, tt)))))))))))))))))))))))

slash_form : IsToken Sign (47 ∷ [])
unfolding kind_of class_of is_space is_letter is_digit is_mark
slash_form = refl

single_form : (w : List ℕ) → is_single_sign w ≡ true → IsToken Sign w
unfolding is_mark
single_form [] e = absurd (cc)
single_form (a ∷ []) e = elim (or_cases (list_any (λ c. c == a) (codes "[](){}.&*+-~!%<>^|?:;=,")) (a == 47) e) [
  | inl h ↦ among_marks _ a mark_forms h
  | inr h ↦ let P : ℕ → Type 0 = λ n. IsToken Sign (n ∷ []) in subst P (sym (eqb-true a 47 h)) slash_form
]
single_form (a ∷ b ∷ w) e = absurd (cc)

-- a sign is a token
pub sign_token : (w : List ℕ) → is_sign w ≡ true → IsToken Sign w
unfolding is_double_sign is_triple_sign
sign_token w e = elim (or_cases (is_single_sign w || is_double_sign w) (is_triple_sign w) e) [
  | inl h ↦ (elim (or_cases (is_single_sign w) (is_double_sign w) h) [
    | inl k ↦ single_form w k
    | inr k ↦ among Sign double_signs w double_forms k
  ])
  | inr h ↦ among Sign triple_signs w triple_forms h
]
