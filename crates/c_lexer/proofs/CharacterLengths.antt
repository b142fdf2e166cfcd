-- The length that is read of a character is that of the longest character.
use Rattle.std.proofs.Common.{◌≡◌, ◌≢◌, ℕ, zero, suc, ◌+◌, ◌<◌, ◌≤◌, min, Bool, true, false, not, cond, ◌||◌, ◌&&◌, inl, inr, List, [], ◌∷◌, length, take, refl, ap, subst, sym, ◌∙◌, arith}
use Rattle.std.proofs.lemmas.Bool.{eqb-true, eqb-false, eq-eqb, ne_eqb, or_cases, or_from, or_left, or_right, and_left, and_right, and_from, and_parts, lt-leb, le-leb, cond-true, cond-false, cases_order, cases_lt, false≢true, not_from_false, not_from_true}
use Rattle.std.proofs.lemmas.List.{length-take-le}
use Rattle.std.specs.Prelude.{◌==◌, nat_le, codes}
use Rattle.std.specs.List.{list_all, list_any, prefix_len}
use Rattle.c_lexer.specs.Bytes.{is_octal_digit, is_hexadecimal_digit}
use Rattle.c_lexer.specs.Literals.{is_simple_escape, hexadecimal_length, escape_length, escape_value, character_length}
use Rattle.c_lexer.specs.Pieces.{is_empty}
use Rattle.c_lexer.specs.Characters.{is_escape, is_character, is_byte_character, HasCharacter}
use Rattle.c_lexer.proofs.Fronts.{prefix_len_within, prefix_len_all, prefix_len_more}

-- Classes of bytes behind a backslash lie apart.

-- what holds at each of some bytes
Each : (ℕ → Type 0) → List ℕ → Type 0
Each P [] = Unit {0}
Each P (c ∷ cs) = P c × Each P cs

among : (P : ℕ → Type 0) (cs : List ℕ) (b : ℕ) → Each P cs → list_any (λ c. c == b) cs ≡ true → P b
unfolding Each
among P [] b each e = absurd (cc)
among P (c ∷ cs) b each e = elim (or_cases (c == b) _ e) [ inl h ↦ subst P (eqb-true c b h) each.0 | inr h ↦ among P cs b each.1 h ]

simple_apart : (b : ℕ) → is_simple_escape b ≡ true → (is_octal_digit b ≡ false) × ((b == 120) ≡ false)
unfolding is_simple_escape is_octal_digit Each
simple_apart b e = among (λ n. (is_octal_digit n ≡ false) × ((n == 120) ≡ false)) (codes "'\"?\\abfnrtv") b
    ((refl, refl), ((refl, refl), ((refl, refl), ((refl, refl), ((refl, refl), ((refl, refl), ((refl, refl), ((refl, refl), ((refl, refl), ((refl, refl), ((refl, refl), tt))))))))))) e

octal_apart : (b : ℕ) → is_octal_digit b ≡ true → (b == 120) ≡ false
unfolding is_octal_digit
octal_apart b e = let p = and_parts (nat_le 48 b) (nat_le b 55) e in ne_eqb b 120 (λ h. below (rw h at p.1)) where
  below : nat_le 120 55 ≡ true → ⊥
  below h = cc

-- The longest of a form, or none.

-- this many bytes at the front have the form, no more do, and 0 says that none do
pub record Reads (form : List ℕ → Bool) (text : List ℕ) (n : ℕ) : Type 0 where
  pub within : n ≤ length text
  pub formed : 0 < n → form (take n text) ≡ true
  pub longest : (m : ℕ) → n < m → m ≤ length text → form (take m text) ≡ false

-- no other length is the longest
pub reads_one : (form : List ℕ → Bool) (text : List ℕ) (n m : ℕ) → Reads form text n → m ≤ length text → form (take m text) ≡ true → ((k : ℕ) → m < k → k ≤ length text → form (take k text) ≡ false) → m ≡ n
reads_one form text n m reads within formed longest = elim (cases_order m n) [
  | inl e ↦ e
  | inr (inl lt) ↦ absurd (false≢true (sym (longest n lt reads.within) ∙ reads.formed (omega (arith, lt))))
  | inr (inr lt) ↦ absurd (false≢true (sym (reads.longest m lt within) ∙ formed))
]

-- Escapes.

not_empty : (t : List ℕ) (m : ℕ) → 0 < m → m ≤ length t → is_empty (take m t) ≡ false
not_empty t zero some le = absurd (omega (arith, some))
not_empty [] (suc m) some le = absurd (omega (arith, le))
not_empty (b ∷ w) (suc m) some le = refl

-- the three forms of an escape
simple_form : ℕ → List ℕ → Bool
simple_form b w = is_simple_escape b && is_empty w

octal_form : ℕ → List ℕ → Bool
octal_form b w = is_octal_digit b && list_all is_octal_digit w && nat_le (length w) 2

hexadecimal_form : ℕ → List ℕ → Bool
hexadecimal_form b w = b == 120 && list_all is_hexadecimal_digit w && not (is_empty w)

forms : (b : ℕ) (w : List ℕ) → is_escape (b ∷ w) ≡ (simple_form b w || octal_form b w || hexadecimal_form b w)
unfolding simple_form octal_form hexadecimal_form
forms b w = refl

none_of : (b : ℕ) (w : List ℕ) → simple_form b w ≡ false → octal_form b w ≡ false → hexadecimal_form b w ≡ false → is_escape (b ∷ w) ≡ false
none_of b w s o h = forms b w ∙ or_from (simple_form b w || octal_form b w) (hexadecimal_form b w) (or_from (simple_form b w) (octal_form b w) s o) h

no_simple : (b : ℕ) (w : List ℕ) → is_simple_escape b ≡ false → simple_form b w ≡ false
unfolding simple_form
no_simple b w e = and_left (is_simple_escape b) (is_empty w) e

no_octal : (b : ℕ) (w : List ℕ) → is_octal_digit b ≡ false → octal_form b w ≡ false
unfolding octal_form
no_octal b w e = and_left (is_octal_digit b && list_all is_octal_digit w) (nat_le (length w) 2) (and_left (is_octal_digit b) (list_all is_octal_digit w) e)

no_hexadecimal : (b : ℕ) (w : List ℕ) → (b == 120) ≡ false → hexadecimal_form b w ≡ false
unfolding hexadecimal_form
no_hexadecimal b w e = and_left (b == 120 && list_all is_hexadecimal_digit w) (not (is_empty w)) (and_left (b == 120) (list_all is_hexadecimal_digit w) e)

-- the length behind the first byte
record ReadsOne (b : ℕ) (w : List ℕ) (n : ℕ) : Type 0 where
  within : n ≤ length w
  formed : is_escape (b ∷ take n w) ≡ true
  longest : (m : ℕ) → n < m → m ≤ length w → is_escape (b ∷ take m w) ≡ false

reads_from : (b : ℕ) (w : List ℕ) (n : ℕ) → ReadsOne b w n → Reads is_escape (b ∷ w) (suc n)
reads_from b w n h = record { within = omega (arith, h.within); formed = λ some. h.formed; longest = over } where
  over : (m : ℕ) → suc n < m → m ≤ suc (length w) → is_escape (take m (b ∷ w)) ≡ false
  over zero lt le = absurd (omega (arith, lt))
  over (suc m) lt le = h.longest m (omega (arith, lt)) (omega (arith, le))

reads_none : (b : ℕ) (w : List ℕ) → ((m : ℕ) → m ≤ length w → is_escape (b ∷ take m w) ≡ false) → Reads is_escape (b ∷ w) 0
reads_none b w h = record { within = omega arith; formed = λ some. absurd (omega (arith, some)); longest = over } where
  over : (m : ℕ) → 0 < m → m ≤ suc (length w) → is_escape (take m (b ∷ w)) ≡ false
  over zero lt le = absurd (omega (arith, lt))
  over (suc m) lt le = h m (omega (arith, le))

simple_reads : (b : ℕ) (w : List ℕ) → is_simple_escape b ≡ true → ReadsOne b w 0
unfolding simple_form
simple_reads b w e = record {
  within = omega arith;
  formed = forms b [] ∙ or_left (simple_form b [] || octal_form b []) (hexadecimal_form b []) (or_left (simple_form b []) (octal_form b []) (and_from (is_simple_escape b) true e refl));
  longest = λ m lt le. none_of b (take m w) (and_right (is_simple_escape b) (is_empty (take m w)) (not_empty w m lt le)) (no_octal b (take m w) (simple_apart b e).0) (no_hexadecimal b (take m w) (simple_apart b e).1);
}

-- a shorter front passes too
all_front : (p : ℕ → Bool) (w : List ℕ) (n : ℕ) → n ≤ prefix_len p w → list_all p (take n w) ≡ true
all_front p w zero h = refl
all_front p [] (suc n) h = refl
all_front p (x ∷ w) (suc n) h = by (p x) refl h (λ k. all_front p w n k) where
  by : (c : Bool) → p x ≡ c → suc n ≤ cond c (1 + prefix_len p w) 0 → (n ≤ prefix_len p w → list_all p (take n w) ≡ true) → (p x && list_all p (take n w)) ≡ true
  by true e h ih = and_from (p x) _ e (ih (omega (arith, h)))
  by false e h ih = absurd (omega (arith, h))

octal_reads : (b : ℕ) (w : List ℕ) → is_simple_escape b ≡ false → is_octal_digit b ≡ true → ReadsOne b w (min 2 (prefix_len is_octal_digit w))
unfolding octal_form
octal_reads b w simple e = record { within = within; formed = formed; longest = over } where
  n : ℕ
  n = min 2 (prefix_len is_octal_digit w)

  within : min 2 (prefix_len is_octal_digit w) ≤ length w
  within = let h = prefix_len_within is_octal_digit w in omega (arith, h)

  formed : is_escape (b ∷ take (min 2 (prefix_len is_octal_digit w)) w) ≡ true
  formed =
      let t = take (min 2 (prefix_len is_octal_digit w)) w in
      let long : length t ≡ min 2 (prefix_len is_octal_digit w) = length-take-le _ w within in
      let all : list_all is_octal_digit t ≡ true = all_front is_octal_digit w _ (omega arith) in
      let octal : octal_form b t ≡ true = and_from (is_octal_digit b && list_all is_octal_digit t) (nat_le (length t) 2) (and_from (is_octal_digit b) (list_all is_octal_digit t) e all) (le-leb (length t) 2 (omega (arith, long))) in
      forms b t ∙ or_left (simple_form b t || octal_form b t) (hexadecimal_form b t) (or_right (simple_form b t) (octal_form b t) octal)

  short : (m : ℕ) → min 2 (prefix_len is_octal_digit w) < m → m ≤ length w → (is_octal_digit b && list_all is_octal_digit (take m w) && nat_le (length (take m w)) 2) ≡ false
  short m lt le = elim (cases_lt (prefix_len is_octal_digit w) m) [
    | inl h ↦ and_left (is_octal_digit b && list_all is_octal_digit (take m w)) _ (and_right (is_octal_digit b) _ (prefix_len_more is_octal_digit w m h le))
    | inr h ↦ and_right (is_octal_digit b && list_all is_octal_digit (take m w)) _ (lt-leb (length (take m w)) 2 (let long = length-take-le m w le in omega (arith, long, lt, h)))
  ]

  over : (m : ℕ) → min 2 (prefix_len is_octal_digit w) < m → m ≤ length w → is_escape (b ∷ take m w) ≡ false
  over m lt le = none_of b (take m w) (no_simple b (take m w) simple) (short m lt le) (no_hexadecimal b (take m w) (octal_apart b e))

hexadecimal_reads : (b : ℕ) (w : List ℕ) → is_simple_escape b ≡ false → is_octal_digit b ≡ false → (b == 120) ≡ true → Reads is_escape (b ∷ w) (hexadecimal_length (prefix_len is_hexadecimal_digit w))
unfolding hexadecimal_form
hexadecimal_reads b w simple octal e = by (prefix_len is_hexadecimal_digit w == 0) refl where
  more : (m : ℕ) → prefix_len is_hexadecimal_digit w < m → m ≤ length w → is_escape (b ∷ take m w) ≡ false
  more m lt le = none_of b (take m w) (no_simple b (take m w) simple) (no_octal b (take m w) octal)
      (and_left (b == 120 && list_all is_hexadecimal_digit (take m w)) _ (and_right (b == 120) _ (prefix_len_more is_hexadecimal_digit w m lt le)))

  alone : is_escape (b ∷ []) ≡ false
  alone = none_of b [] (no_simple b [] simple) (no_octal b [] octal) (and_right (b == 120 && true) false refl)

  none : prefix_len is_hexadecimal_digit w ≡ 0 → (m : ℕ) → m ≤ length w → is_escape (b ∷ take m w) ≡ false
  none h zero le = alone
  none h (suc m) le = more (suc m) (omega (arith, h)) le

  formed : 0 < prefix_len is_hexadecimal_digit w → is_escape (b ∷ take (prefix_len is_hexadecimal_digit w) w) ≡ true
  formed some =
      let t = take (prefix_len is_hexadecimal_digit w) w in
      let full : is_empty t ≡ false = not_empty w (prefix_len is_hexadecimal_digit w) some (prefix_len_within is_hexadecimal_digit w) in
      let hexadecimal : hexadecimal_form b t ≡ true = and_from (b == 120 && list_all is_hexadecimal_digit t) (not (is_empty t)) (and_from (b == 120) (list_all is_hexadecimal_digit t) e (prefix_len_all is_hexadecimal_digit w)) (not_from_false (is_empty t) full) in
      forms b t ∙ or_right (simple_form b t || octal_form b t) (hexadecimal_form b t) hexadecimal

  by : (c : Bool) → (prefix_len is_hexadecimal_digit w == 0) ≡ c → Reads is_escape (b ∷ w) (cond c 0 (1 + prefix_len is_hexadecimal_digit w))
  by true h = reads_none b w (none (eqb-true _ 0 h))
  by false h =
      let one : 1 + prefix_len is_hexadecimal_digit w ≡ suc (prefix_len is_hexadecimal_digit w) = omega arith in
      let P : ℕ → Type 0 = Reads is_escape (b ∷ w) in
      subst P (sym one) (reads_from b w (prefix_len is_hexadecimal_digit w) (record {
        within = prefix_len_within is_hexadecimal_digit w;
        formed = formed (let ne = eqb-false (prefix_len is_hexadecimal_digit w) 0 h in omega (arith, ne));
        longest = more;
      }))

-- the length of an escape is that of the longest one
pub escape_reads : (w : List ℕ) → Reads is_escape w (escape_length w)
unfolding escape_length
escape_reads [] = record { within = omega arith; formed = λ some. absurd (omega (arith, some)); longest = λ m lt le. absurd (omega (arith, lt, le)) }
escape_reads (b ∷ w) = by (is_simple_escape b) refl (is_octal_digit b) refl (b == 120) refl where
  nothing : is_simple_escape b ≡ false → is_octal_digit b ≡ false → (b == 120) ≡ false → Reads is_escape (b ∷ w) 0
  nothing s o h = reads_none b w (λ m le. none_of b (take m w) (no_simple b (take m w) s) (no_octal b (take m w) o) (no_hexadecimal b (take m w) h))

  octal : is_simple_escape b ≡ false → is_octal_digit b ≡ true → Reads is_escape (b ∷ w) (1 + min 2 (prefix_len is_octal_digit w))
  octal s o =
      let one : 1 + min 2 (prefix_len is_octal_digit w) ≡ suc (min 2 (prefix_len is_octal_digit w)) = omega arith in
      let P : ℕ → Type 0 = Reads is_escape (b ∷ w) in
      subst P (sym one) (reads_from b w _ (octal_reads b w s o))

  by : (s : Bool) → is_simple_escape b ≡ s → (o : Bool) → is_octal_digit b ≡ o → (x : Bool) → (b == 120) ≡ x → Reads is_escape (b ∷ w) (cond s 1 (cond o (1 + min 2 (prefix_len is_octal_digit w)) (cond x (hexadecimal_length (prefix_len is_hexadecimal_digit w)) 0)))
  by true e o h x k = reads_from b w 0 (simple_reads b w e)
  by false e true h x k = octal e h
  by false e false h true k = hexadecimal_reads b w e h k
  by false e false h false k = nothing e h k

-- Characters.

-- the length of a character, whatever its value
form_length : ℕ → List ℕ → ℕ
form_length q [] = 0
form_length q (b ∷ w) = cond (b == 92) (cond (escape_length w == 0) 0 (1 + escape_length w)) (cond (b == q || b == 10) 0 1)

-- an escape behind its backslash
backslash_reads : (q : ℕ) (b : ℕ) (w : List ℕ) → (b == 92) ≡ true → Reads (is_character q) (b ∷ w) (cond (escape_length w == 0) 0 (1 + escape_length w))
backslash_reads q b w e = by (escape_length w == 0) refl where
  reads : Reads is_escape w (escape_length w)
  reads = escape_reads w

  at : (t : List ℕ) → is_character q (b ∷ t) ≡ is_escape t
  at t = cond-true (b == 92) (is_escape t) (is_empty t && not (b == q || b == 10)) e

  over : (n : ℕ) → n ≡ suc (escape_length w) → (m : ℕ) → n < m → m ≤ suc (length w) → is_character q (take m (b ∷ w)) ≡ false
  over n is zero lt le = absurd (omega (arith, lt))
  over n is (suc m) lt le = at (take m w) ∙ reads.longest m (omega (arith, is, lt)) (omega (arith, le))

  none : escape_length w ≡ 0 → (m : ℕ) → 0 < m → m ≤ suc (length w) → is_character q (take m (b ∷ w)) ≡ false
  none is zero lt le = absurd (omega (arith, lt))
  none is (suc zero) lt le = at []
  none is (suc (suc m)) lt le = at (take (suc m) w) ∙ reads.longest (suc m) (omega (arith, is)) (omega (arith, le))

  some : (n : ℕ) → n ≡ suc (escape_length w) → 0 < escape_length w → Reads (is_character q) (b ∷ w) n
  some n is lt = record {
    within = let h = reads.within in omega (arith, is, h);
    formed = λ any. ap (λ k. is_character q (take k (b ∷ w))) is ∙ (at (take (escape_length w) w) ∙ reads.formed lt);
    longest = over n is;
  }

  by : (c : Bool) → (escape_length w == 0) ≡ c → Reads (is_character q) (b ∷ w) (cond c 0 (1 + escape_length w))
  by true h = record { within = omega arith; formed = λ any. absurd (omega (arith, any)); longest = none (eqb-true _ 0 h) }
  by false h = some (1 + escape_length w) (omega arith) (let ne = eqb-false (escape_length w) 0 h in omega (arith, ne))

-- a byte that is no backslash
plain_reads : (q : ℕ) (b : ℕ) (w : List ℕ) → (b == 92) ≡ false → Reads (is_character q) (b ∷ w) (cond (b == q || b == 10) 0 1)
plain_reads q b w e = by (b == q || b == 10) refl where
  at : (t : List ℕ) → is_character q (b ∷ t) ≡ (is_empty t && not (b == q || b == 10))
  at t = cond-false (b == 92) (is_escape t) (is_empty t && not (b == q || b == 10)) e

  more : (m : ℕ) → 1 < m → m ≤ suc (length w) → is_character q (take m (b ∷ w)) ≡ false
  more zero lt le = absurd (omega (arith, lt))
  more (suc m) lt le = at (take m w) ∙ and_left (is_empty (take m w)) _ (not_empty w m (omega (arith, lt)) (omega (arith, le)))

  none : (b == q || b == 10) ≡ true → (m : ℕ) → 0 < m → m ≤ suc (length w) → is_character q (take m (b ∷ w)) ≡ false
  none h zero lt le = absurd (omega (arith, lt))
  none h (suc m) lt le = at (take m w) ∙ and_right (is_empty (take m w)) _ (not_from_true (b == q || b == 10) h)

  by : (c : Bool) → (b == q || b == 10) ≡ c → Reads (is_character q) (b ∷ w) (cond c 0 1)
  by true h = record { within = omega arith; formed = λ any. absurd (omega (arith, any)); longest = none h }
  by false h = record { within = omega arith; formed = λ any. at [] ∙ not_from_false (b == q || b == 10) h; longest = more }

form_reads : (q : ℕ) (text : List ℕ) → Reads (is_character q) text (form_length q text)
unfolding form_length
form_reads q [] = record { within = omega arith; formed = λ some. absurd (omega (arith, some)); longest = λ m lt le. absurd (omega (arith, lt, le)) }
form_reads q (b ∷ w) = by (b == 92) refl where
  by : (c : Bool) → (b == 92) ≡ c → Reads (is_character q) (b ∷ w) (cond c (cond (escape_length w == 0) 0 (1 + escape_length w)) (cond (b == q || b == 10) 0 1))
  by true e = backslash_reads q b w e
  by false e = plain_reads q b w e

-- the length that is read is that of the form, where the value fits
length_is : (q : ℕ) (text : List ℕ) → character_length q text ≡ cond (is_byte_character (take (form_length q text) text)) (form_length q text) 0
unfolding form_length character_length
length_is q [] = refl
length_is q (b ∷ w) = by (b == 92) refl (escape_length w == 0) refl where
  one : 1 + escape_length w ≡ suc (escape_length w)
  one = omega arith

  fits : (b == 92) ≡ true → is_byte_character (b ∷ take (escape_length w) w) ≡ nat_le (escape_value (take (escape_length w) w)) 255
  fits e = cond-true (b == 92) _ true e

  plain : (b == 92) ≡ false → (t : List ℕ) → is_byte_character (b ∷ t) ≡ true
  plain e t = cond-false (b == 92) _ true e

  by : (x : Bool) → (b == 92) ≡ x → (z : Bool) → (escape_length w == 0) ≡ z → ◌≡◌ {A = ℕ} (cond x (cond (not z && nat_le (escape_value (take (escape_length w) w)) 255) (1 + escape_length w) 0) (cond (b == q || b == 10) 0 1)) (cond (is_byte_character (take (cond x (cond z 0 (1 + escape_length w)) (cond (b == q || b == 10) 0 1)) (b ∷ w))) (cond x (cond z 0 (1 + escape_length w)) (cond (b == q || b == 10) 0 1)) 0)
  by true e true h = refl
  by true e false h = rw (one, fits e) refl
  by false e z h = other (b == q || b == 10) where
    other : (c : Bool) → ◌≡◌ {A = ℕ} (cond c 0 1) (cond (is_byte_character (take (cond c 0 1) (b ∷ w))) (cond c 0 1) 0)
    other true = refl
    other false = sym (cond-true (is_byte_character (b ∷ [])) 1 0 (plain e []))

-- what is read is a character, the longest
pub character_of : (q : ℕ) (text : List ℕ) → character_length q text ≢ 0 → HasCharacter q text (character_length q text)
character_of q text some = by (is_byte_character (take (form_length q text) text)) refl (length_is q text) where
  reads : Reads (is_character q) text (form_length q text)
  reads = form_reads q text

  by : (c : Bool) → is_byte_character (take (form_length q text) text) ≡ c → character_length q text ≡ cond c (form_length q text) 0 → HasCharacter q text (character_length q text)
  by false e is = absurd (some is)
  by true e is =
      let P : ℕ → Type 0 = HasCharacter q text in
      let lt : 0 < form_length q text = omega (arith, some, is) in
      subst P (sym is) (record { within = reads.within; formed = reads.formed lt; longest = reads.longest; fits = e })

-- a character, the longest, is read
pub character_from : (q : ℕ) (text : List ℕ) (n : ℕ) → HasCharacter q text n → character_length q text ≡ n
character_from q text n has =
    let is : n ≡ form_length q text = reads_one (is_character q) text (form_length q text) n (form_reads q text) has.within has.formed has.longest in
    let fits : is_byte_character (take (form_length q text) text) ≡ true = ap (λ k. is_byte_character (take k text)) (sym is) ∙ has.fits in
    length_is q text ∙ (cond-true (is_byte_character (take (form_length q text) text)) (form_length q text) 0 fits ∙ sym is)

no_character : (q : ℕ) (text : List ℕ) → is_character q (take 0 text) ≡ true → ⊥
no_character q text e = cc

-- a character has a byte
pub character_some : (q : ℕ) (text : List ℕ) (n : ℕ) → HasCharacter q text n → 0 < n
character_some q text zero has = absurd (no_character q text has.formed)
character_some q text (suc n) has = omega arith

-- a character does not begin with the quote
pub character_no_quote : (q : ℕ) (b : ℕ) (w : List ℕ) (n : ℕ) → (q == 92) ≡ false → HasCharacter q (b ∷ w) (suc n) → b ≢ q
character_no_quote q b w n no_backslash has same =
    let P : ℕ → Type 0 = λ c. is_character q (c ∷ take n w) ≡ true in
    false≢true (sym (quoted (take n w)) ∙ subst P same has.formed) where
      quoted : (t : List ℕ) → is_character q (q ∷ t) ≡ false
      quoted t = cond-false (q == 92) (is_escape t) (is_empty t && not (q == q || q == 10)) no_backslash ∙ and_right (is_empty t) _ (not_from_true (q == q || q == 10) (or_left (q == q) (q == 10) (eq-eqb q q refl)))
