-- The lines of a text, one at a time.
use Rattle.std.proofs.Common.{◌≡◌, ℕ, suc, ◌+◌, ◌-◌, ◌<◌, ◌≤◌, ◌==◌, ltb, Bool, true, false, cond, List, [], ◌∷◌, length, take, drop, refl, sym, ap, ◌∙◌, subst, arith, length-drop}
use Rattle.std.specs.List.{prefix_len}
use Rattle.std.proofs.lemmas.List.{at_drop_all, drop-drop, take_all}
use Rattle.std.proofs.lemmas.Bool.Decides.{nat_tests}
use Rattle.c_lexer.specs.Gaps.{is_on_line}
use Rattle.c_pre.specs.Lines.{line_length, with_byte, lines_of}

-- how long the first line is behind one more byte
at_end : (m : ℕ) → cond (ltb 0 (suc m)) (0 + 1) 0 ≡ 1
at_end m = grind (arith, nat_tests)

ending : (b : ℕ) (w : List ℕ) → (b == 10) ≡ true → line_length (b ∷ w) ≡ 1
ending b w is = rw is (at_end (length w))

one_more : (n m : ℕ) → cond (ltb (1 + n) (suc m)) (1 + n + 1) (1 + n) ≡ suc (cond (ltb n m) (n + 1) n)
one_more n m = grind (arith, nat_tests)

going_on : (b : ℕ) (w : List ℕ) → (b == 10) ≡ false → line_length (b ∷ w) ≡ suc (line_length w)
going_on b w is = rw is (one_more (prefix_len is_on_line w) (length w))

-- the first line has this length
abbrev FirstLine : List ℕ → ℕ → Type 0
FirstLine text n = lines_of text ≡ take n text ∷ lines_of (drop n text)

first_alone : (b : ℕ) (x : Bool) → (b == 10) ≡ x → FirstLine (b ∷ []) (line_length (b ∷ []))
unfolding lines_of
first_alone b true is = subst (FirstLine (b ∷ [])) (sym (ending b [] is)) refl
first_alone b false is = subst (FirstLine (b ∷ [])) (sym (going_on b [] is)) refl

first_more : (b c : ℕ) (w : List ℕ) (x : Bool) → (b == 10) ≡ x → FirstLine (c ∷ w) (line_length (c ∷ w)) → FirstLine (b ∷ c ∷ w) (line_length (b ∷ c ∷ w))
unfolding lines_of
first_more b c w true is whole =
    subst (FirstLine (b ∷ c ∷ w)) (sym (ending b (c ∷ w) is)) (ap (with_byte b) whole ∙ (rw is (ap (λ t. (b ∷ []) ∷ t) (sym whole))))
first_more b c w false is whole =
    subst (FirstLine (b ∷ c ∷ w)) (sym (going_on b (c ∷ w) is)) (ap (with_byte b) whole ∙ (rw is refl))

pub lines_first : (text : List ℕ) → 0 < length text → FirstLine text (line_length text)
lines_first [] some = absurd (omega (arith, some))
lines_first (b ∷ []) some = first_alone b (b == 10) refl
lines_first (b ∷ c ∷ w) some = first_more b c w (b == 10) refl (lines_first (c ∷ w) (omega arith))

-- the lines from a place on, one line further and at the end
pub lines_turn : (text line rest : List ℕ) (at : ℕ) → at < length text → rest ≡ take (length text - at) (drop at text) → line ≡ take (line_length rest) rest → length line ≡ line_length rest → lines_of (drop at text) ≡ line ∷ lines_of (drop (at + length line) text)
lines_turn text line rest at some here is long =
    let all : rest ≡ drop at text = here ∙ take_all (length text - at) (drop at text) (omega (arith, length-drop at text)) in
    let P : List ℕ → Type 0 = λ t. lines_of t ≡ line ∷ lines_of (drop (at + length line) text) in
    subst P all (lines_first rest (omega (arith, ap length all, length-drop at text))
    ∙ (ap (λ l. l ∷ lines_of (drop (line_length rest) rest)) (sym is)
    ∙ ap (λ t. line ∷ lines_of t) (ap (λ n. drop n rest) (sym long) ∙ (ap (λ t. drop (length line) t) all ∙ drop-drop (length line) at text))))

pub lines_end : (text : List ℕ) (at : ℕ) → length text ≤ at → lines_of (drop at text) ≡ []
unfolding lines_of
lines_end text at end = at_drop_all lines_of text at end
