-- Readers that find an end, and depend on nothing behind it: comments, literals and include lines.
use Rattle.std.proofs.Common.{◌≡◌, ℕ, zero, suc, ◌+◌, ◌-◌, ◌<◌, ◌≤◌, min, Bool, true, false, not, cond, ◌&&◌, List, [], ◌∷◌, ◌++◌, length, take, drop, lit<, refl, ap, subst, sym, ◌∙◌, arith}
use Rattle.std.proofs.lemmas.List.{length-drop, length-append, take_at}
use Rattle.std.proofs.lemmas.Bool.{eqb-false, and_parts, not-true, cond-true}
use Rattle.std.proofs.lemmas.Bool.Decides.{Decides-eqb}
use Rattle.std.proofs.lemmas.Slice.Eq.{starts_is}
use Rattle.std.proofs.Math.Seq.{take-append-add}
use Rattle.std.specs.Prelude.{Option, Some, None, option_map, ◌==◌, ◌||◌, nat_eq, nat_le, codes}
use Rattle.std.specs.List.{prefix_len, starts_with}
use Rattle.c_lexer.specs.Bytes.{is_blank, is_octal_digit, is_hexadecimal_digit}
use Rattle.c_lexer.specs.Gaps.{comment_end, front_of, headers, header_end, word_end, include_end, blanks, behind_blanks}
use Rattle.c_lexer.specs.Literals.{is_simple_escape, hexadecimal_length, escape_length, escape_value, escaped_length, character_length, begins_with, constant_end, string_end}
use Rattle.c_lexer.specs.Pieces.{literal_end}
use Rattle.c_lexer.proofs.Fronts.{map_suc_some, prefix_len_within, prefix_len_kept, prefix_len_over, drop_front, take_front}

-- an end is behind at least one byte, within the text, and stays where anything else follows it
pub record Ends (f : List ℕ → Option ℕ) : Type 0 where
  pub some : (t : List ℕ) (n : ℕ) → f t ≡ Some n → 0 < n
  pub within : (t : List ℕ) (n : ℕ) → f t ≡ Some n → n ≤ length t
  pub kept : (t : List ℕ) (n : ℕ) (rest : List ℕ) → f t ≡ Some n → f (take n t ++ rest) ≡ Some n

some_of : (m n : ℕ) → Some m ≡ Some n → m ≡ n
some_of m n e = cc

-- Comments.

comment_some : (star : Bool) (t : List ℕ) (n : ℕ) → comment_end star t ≡ Some n → 0 < n
unfolding comment_end
comment_some star [] n e = absurd (cc)
comment_some star (b ∷ w) n e = by (star && b == 47) e where
  by : (c : Bool) → cond c (Some 1) (option_map suc (comment_end (b == 42) w)) ≡ Some n → 0 < n
  by true e = let h = some_of 1 n e in omega (arith, h)
  by false e = let p = map_suc_some (comment_end (b == 42) w) n e in omega (arith, p.1.1)

comment_within : (star : Bool) (t : List ℕ) (n : ℕ) → comment_end star t ≡ Some n → n ≤ length t
unfolding comment_end
comment_within star [] n e = absurd (cc)
comment_within star (b ∷ w) n e = by (star && b == 47) e (λ m h. comment_within (b == 42) w m h) where
  by : (c : Bool) → cond c (Some 1) (option_map suc (comment_end (b == 42) w)) ≡ Some n → ((m : ℕ) → comment_end (b == 42) w ≡ Some m → m ≤ length w) → n ≤ suc (length w)
  by true e ih = let h = some_of 1 n e in omega (arith, h)
  by false e ih = let p = map_suc_some (comment_end (b == 42) w) n e in let h = ih p.0 p.1.0 in omega (arith, p.1.1, h)

comment_kept : (star : Bool) (t : List ℕ) (n : ℕ) (rest : List ℕ) → comment_end star t ≡ Some n → comment_end star (take n t ++ rest) ≡ Some n
unfolding comment_end
comment_kept star [] n rest e = absurd (cc)
comment_kept star (b ∷ w) n rest e = by (star && b == 47) refl e (λ m h. comment_kept (b == 42) w m rest h) where
  by : (c : Bool) → (star && b == 47) ≡ c → cond c (Some 1) (option_map suc (comment_end (b == 42) w)) ≡ Some n → ((m : ℕ) → comment_end (b == 42) w ≡ Some m → comment_end (b == 42) (take m w ++ rest) ≡ Some m) → comment_end star (take n (b ∷ w) ++ rest) ≡ Some n
  by true h e ih = rw (← some_of 1 n e, h) refl
  by false h e ih = let p = map_suc_some (comment_end (b == 42) w) n e in rw (p.1.1, h, ih p.0 p.1.0) refl

pub comment_ends : (star : Bool) → Ends (comment_end star)
comment_ends star = record { some = comment_some star; within = comment_within star; kept = comment_kept star }

-- Characters of literals.

min_front : (m n a b : ℕ) → min 2 a < n → (a < n → b ≡ a) → (n ≤ a → n ≤ b) → 1 + min 2 b ≡ 1 + min 2 a
min_front m n a b h below above = grind arith

hexadecimal_below : (h n : ℕ) → 0 < hexadecimal_length h → hexadecimal_length h < suc n → h < n
hexadecimal_below h n some lt = by (h == 0) some lt where
  by : (c : Bool) → 0 < cond c 0 (1 + h) → cond c 0 (1 + h) < suc n → h < n
  by true some lt = absurd (omega (arith, some))
  by false some lt = omega (arith, lt)

-- the length of an escape depends on nothing behind it
module _ (b : ℕ) (w : List ℕ) (n : ℕ) (rest : List ℕ) (le : n ≤ length w) where
  octal : List ℕ → ℕ
  octal t = 1 + min 2 (prefix_len is_octal_digit t)

  hexadecimal : List ℕ → ℕ
  hexadecimal t = hexadecimal_length (prefix_len is_hexadecimal_digit t)

  kept_x : (c : Bool) → 0 < cond c (hexadecimal w) 0 → cond c (hexadecimal w) 0 < suc n → cond c (hexadecimal (take n w ++ rest)) 0 ≡ cond c (hexadecimal w) 0
  unfolding hexadecimal
  kept_x true some lt = ap hexadecimal_length (prefix_len_kept is_hexadecimal_digit w n rest (hexadecimal_below _ n some lt) le)
  kept_x false some lt = refl

  kept_octal : (c d : Bool) → 0 < cond c (octal w) (cond d (hexadecimal w) 0) → cond c (octal w) (cond d (hexadecimal w) 0) < suc n → cond c (octal (take n w ++ rest)) (cond d (hexadecimal (take n w ++ rest)) 0) ≡ cond c (octal w) (cond d (hexadecimal w) 0)
  unfolding octal
  kept_octal true d some lt = min_front 0 n _ _ (omega (arith, lt)) (λ h. prefix_len_kept is_octal_digit w n rest h le) (λ h. prefix_len_over is_octal_digit w n rest h)
  kept_octal false d some lt = kept_x d some lt

  kept_simple : (c o d : Bool) → 0 < cond c 1 (cond o (octal w) (cond d (hexadecimal w) 0)) → cond c 1 (cond o (octal w) (cond d (hexadecimal w) 0)) < suc n → cond c 1 (cond o (octal (take n w ++ rest)) (cond d (hexadecimal (take n w ++ rest)) 0)) ≡ cond c 1 (cond o (octal w) (cond d (hexadecimal w) 0))
  kept_simple true o d some lt = refl
  kept_simple false o d some lt = kept_octal o d some lt

escape_kept : (w : List ℕ) (n : ℕ) (rest : List ℕ) → 0 < escape_length w → escape_length w < n → n ≤ length w → escape_length (take n w ++ rest) ≡ escape_length w
unfolding escape_length octal hexadecimal
escape_kept [] n rest some lt le = absurd (omega arith)
escape_kept (b ∷ w) zero rest some lt le = absurd (omega (arith, lt))
escape_kept (b ∷ w) (suc n) rest some lt le = kept_simple b w n rest (omega (arith, le)) (is_simple_escape b) (is_octal_digit b) (b == 120) some lt

-- the length of a character depends on nothing behind it
escaped_kept : (w u : List ℕ) (n : ℕ) → 0 < escaped_length w (escape_length w) → escaped_length w (escape_length w) < suc n → (0 < escape_length w → escape_length w < n → (escape_length u ≡ escape_length w) × (take (escape_length w) u ≡ take (escape_length w) w)) → escaped_length u (escape_length u) ≡ escaped_length w (escape_length w)
escaped_kept w u n some lt same = by (not (escape_length w == 0) && nat_le (escape_value (take (escape_length w) w)) 255) refl some lt where
  by : (c : Bool) → (not (escape_length w == 0) && nat_le (escape_value (take (escape_length w) w)) 255) ≡ c → 0 < cond c (1 + escape_length w) 0 → cond c (1 + escape_length w) 0 < suc n → escaped_length u (escape_length u) ≡ escaped_length w (escape_length w)
  by false e some lt = absurd (omega (arith, some))
  by true e some lt =
      let zero_not : escape_length w ≡ 0 → ⊥ = eqb-false (escape_length w) 0 (not-true (escape_length w == 0) ((and_parts (not (escape_length w == 0)) _ e).0)) in
      let p = same (omega (arith, zero_not)) (omega (arith, lt)) in
      rw (p.0, p.1) refl

pub character_kept : (q : ℕ) (t : List ℕ) (n : ℕ) (rest : List ℕ) → 0 < character_length q t → character_length q t < n → n ≤ length t → character_length q (take n t ++ rest) ≡ character_length q t
unfolding character_length
character_kept q [] n rest some lt le = absurd (omega arith)
character_kept q (b ∷ w) zero rest some lt le = absurd (omega (arith, lt))
character_kept q (b ∷ w) (suc n) rest some lt le = by (b == 92) some lt where
  by : (c : Bool) → 0 < cond c (escaped_length w (escape_length w)) (cond (b == q || b == 10) 0 1) → cond c (escaped_length w (escape_length w)) (cond (b == q || b == 10) 0 1) < suc n → cond c (escaped_length (take n w ++ rest) (escape_length (take n w ++ rest))) (cond (b == q || b == 10) 0 1) ≡ cond c (escaped_length w (escape_length w)) (cond (b == q || b == 10) 0 1)
  by true some lt = escaped_kept w (take n w ++ rest) n some lt (λ p h. (escape_kept w n rest p h (omega (arith, le)), take_front w (escape_length w) n rest (omega (arith, h)) (omega (arith, le))))
  by false some lt = refl

-- String literals.

-- the bytes of a character that began before stand before the end
string_inner : (k : ℕ) (t : List ℕ) (n : ℕ) → string_end k t ≡ Some n → k < n
unfolding string_end
string_inner k [] n e = absurd (cc)
string_inner (suc k) (b ∷ w) n e = let p = map_suc_some (string_end k w) n e in let h = string_inner k w p.0 p.1.0 in omega (arith, p.1.1, h)
string_inner zero (b ∷ w) n e = by (b == 34) (character_length 34 (b ∷ w) == 0) e where
  by : (c d : Bool) → cond c (Some 1) (cond d None (option_map suc (string_end (character_length 34 (b ∷ w) - 1) w))) ≡ Some n → 0 < n
  by true d e = let h = some_of 1 n e in omega (arith, h)
  by false true e = absurd (cc)
  by false false e = let p = map_suc_some (string_end (character_length 34 (b ∷ w) - 1) w) n e in omega (arith, p.1.1)

string_within : (k : ℕ) (t : List ℕ) (n : ℕ) → string_end k t ≡ Some n → n ≤ length t
unfolding string_end
string_within k [] n e = absurd (cc)
string_within (suc k) (b ∷ w) n e = let p = map_suc_some (string_end k w) n e in let h = string_within k w p.0 p.1.0 in omega (arith, p.1.1, h)
string_within zero (b ∷ w) n e = by (b == 34) (character_length 34 (b ∷ w) == 0) e (λ k m h. string_within k w m h) where
  by : (c d : Bool) → cond c (Some 1) (cond d None (option_map suc (string_end (character_length 34 (b ∷ w) - 1) w))) ≡ Some n → ((k m : ℕ) → string_end k w ≡ Some m → m ≤ length w) → n ≤ suc (length w)
  by true d e ih = let h = some_of 1 n e in omega (arith, h)
  by false true e ih = absurd (cc)
  by false false e ih =
      let p = map_suc_some (string_end (character_length 34 (b ∷ w) - 1) w) n e in
      let h = ih (character_length 34 (b ∷ w) - 1) p.0 p.1.0 in omega (arith, p.1.1, h)

string_kept : (k : ℕ) (t : List ℕ) (n : ℕ) (rest : List ℕ) → string_end k t ≡ Some n → string_end k (take n t ++ rest) ≡ Some n
unfolding string_end
string_kept k [] n rest e = absurd (cc)
string_kept (suc k) (b ∷ w) n rest e = let p = map_suc_some (string_end k w) n e in rw (p.1.1, string_kept k w p.0 rest p.1.0) refl
string_kept zero (b ∷ w) n rest e = by (b == 34) refl (character_length 34 (b ∷ w) == 0) refl e (λ k m h. string_kept k w m rest h) where
  by : (c : Bool) → (b == 34) ≡ c → (d : Bool) → (character_length 34 (b ∷ w) == 0) ≡ d → cond c (Some 1) (cond d None (option_map suc (string_end (character_length 34 (b ∷ w) - 1) w))) ≡ Some n → ((k m : ℕ) → string_end k w ≡ Some m → string_end k (take m w ++ rest) ≡ Some m) → string_end zero (take n (b ∷ w) ++ rest) ≡ Some n
  by true quote d zero_length e ih = rw (← some_of 1 n e, quote) refl
  by false quote true zero_length e ih = absurd (cc)
  by false quote false zero_length e ih =
      let p = map_suc_some (string_end (character_length 34 (b ∷ w) - 1) w) n e in
      let some : 0 < character_length 34 (b ∷ w) = omega (arith, eqb-false (character_length 34 (b ∷ w)) 0 zero_length) in
      let inner = string_inner (character_length 34 (b ∷ w) - 1) w p.0 p.1.0 in
      let within = string_within (character_length 34 (b ∷ w) - 1) w p.0 p.1.0 in
      let here : character_length 34 (b ∷ (take p.0 w ++ rest)) ≡ character_length 34 (b ∷ w) = character_kept 34 (b ∷ w) (suc p.0) rest some (omega (arith, inner)) (omega (arith, within)) in
      rw (p.1.1, quote, here, zero_length, ih (character_length 34 (b ∷ w) - 1) p.0 p.1.0) refl

pub string_ends : Ends (string_end 0)
string_ends = record { some = λ t n e. string_inner 0 t n e; within = string_within 0; kept = string_kept 0 }

-- Character constants.

begins_some : (q : ℕ) (t : List ℕ) (n : ℕ) → begins_with q (drop n t) ≡ true → n < length t
begins_some q [] zero e = absurd (cc)
begins_some q [] (suc n) e = absurd (cc)
begins_some q (b ∷ w) zero e = omega arith
begins_some q (b ∷ w) (suc n) e = let h = begins_some q w n e in omega (arith, h)

begins_front : (q : ℕ) (t : List ℕ) (n : ℕ) (rest : List ℕ) → begins_with q (drop n t) ≡ true → begins_with q (drop n (take (suc n) t ++ rest)) ≡ true
begins_front q [] zero rest e = absurd (cc)
begins_front q [] (suc n) rest e = absurd (cc)
begins_front q (b ∷ w) zero rest e = e
begins_front q (b ∷ w) (suc n) rest e = begins_front q w n rest e

-- what an answer of `constant_end` says
constant_of : (t : List ℕ) (n : ℕ) → constant_end t ≡ Some n → (n ≡ suc (character_length 39 t)) × ((character_length 39 t == 0) ≡ false) × (begins_with 39 (drop (character_length 39 t) t) ≡ true)
unfolding constant_end
constant_of t n e = by (not (character_length 39 t == 0) && begins_with 39 (drop (character_length 39 t) t)) refl e where
  by : (c : Bool) → (not (character_length 39 t == 0) && begins_with 39 (drop (character_length 39 t) t)) ≡ c → cond c (Some (1 + character_length 39 t)) None ≡ Some n → (n ≡ suc (character_length 39 t)) × ((character_length 39 t == 0) ≡ false) × (begins_with 39 (drop (character_length 39 t) t) ≡ true)
  by false h e = absurd (cc)
  by true h e =
      let p = and_parts (not (character_length 39 t == 0)) _ h in
      let s = some_of (1 + character_length 39 t) n e in
      (omega (arith, s), not-true (character_length 39 t == 0) p.0, p.1)

constant_from : (t : List ℕ) (n : ℕ) → character_length 39 t ≡ n → (n == 0) ≡ false → begins_with 39 (drop n t) ≡ true → constant_end t ≡ Some (suc n)
unfolding constant_end
constant_from t n e some closes = let s : 1 + n ≡ suc n = omega arith in rw (e, some, closes, s) refl

constant_kept : (t : List ℕ) (n : ℕ) (rest : List ℕ) → constant_end t ≡ Some n → constant_end (take n t ++ rest) ≡ Some n
constant_kept t n rest e =
    let p = constant_of t n e in
    let closes = begins_some 39 t (character_length 39 t) p.2 in
    let some : 0 < character_length 39 t = omega (arith, eqb-false (character_length 39 t) 0 p.1) in
    let same = character_kept 39 t (suc (character_length 39 t)) rest some (omega arith) (omega (arith, closes)) in
    rw p.0 (constant_from (take (suc (character_length 39 t)) t ++ rest) (character_length 39 t) same p.1 (begins_front 39 t (character_length 39 t) rest p.2))

pub constant_ends : Ends constant_end
constant_ends = record {
  some = λ t n e. let p = constant_of t n e in omega (arith, p.0);
  within = λ t n e. let p = constant_of t n e in let h = begins_some 39 t (character_length 39 t) p.2 in omega (arith, p.0, h);
  kept = constant_kept;
}

pub literal_ends : (quote : ℕ) → Ends (literal_end quote)
literal_ends quote = by (quote == 39) where
  by : (c : Bool) → Ends (λ text. cond c (constant_end text) (string_end 0 text))
  by true = constant_ends
  by false = string_ends

-- Include lines.

map_some : (k : ℕ) (o : Option ℕ) (n : ℕ) → option_map (λ end. k + end) o ≡ Some n → (m : ℕ) × ((o ≡ Some m) × (n ≡ k + m))
map_some k None n e = absurd (cc)
map_some k (Some m) n e = (m, (refl, sym (some_of (k + m) n e)))

blanks_end : (f : List ℕ → Option ℕ) → Ends f → Ends (behind_blanks f)
blanks_end f ends = record { some = some; within = within; kept = kept } where
  some : (t : List ℕ) (n : ℕ) → behind_blanks f t ≡ Some n → 0 < n
  some t n e = let p = map_some (blanks t) (f (drop (blanks t) t)) n e in let h = ends.some (drop (blanks t) t) p.0 p.1.0 in omega (arith, p.1.1, h)

  within : (t : List ℕ) (n : ℕ) → behind_blanks f t ≡ Some n → n ≤ length t
  within t n e =
      let p = map_some (blanks t) (f (drop (blanks t) t)) n e in
      let h = rw length-drop at (ends.within (drop (blanks t) t) p.0 p.1.0) in
      omega (arith, p.1.1, h, prefix_len_within is_blank t)

  kept_at : (t : List ℕ) (n m : ℕ) (rest : List ℕ) → f (drop (blanks t) t) ≡ Some m → n ≡ blanks t + m → n ≤ length t → behind_blanks f (take n t ++ rest) ≡ Some n
  kept_at t n m rest e is long =
      let h = ends.some (drop (blanks t) t) m e in
      let same : blanks (take n t ++ rest) ≡ blanks t = prefix_len_kept is_blank t n rest (omega (arith, is, h)) long in
      let left : n - blanks t ≡ m = omega (arith, is) in
      rw (same, drop_front t (blanks t) n rest (omega (arith, is)) long, left, ends.kept (drop (blanks t) t) m rest e) (ap Some (sym is))

  kept : (t : List ℕ) (n : ℕ) (rest : List ℕ) → behind_blanks f t ≡ Some n → behind_blanks f (take n t ++ rest) ≡ Some n
  kept t n rest e = let p = map_some (blanks t) (f (drop (blanks t) t)) n e in kept_at t n p.0 rest p.1.0 p.1.1 (within t n e)

-- the text begins with the word
begins_is : (t word : List ℕ) → starts_with nat_eq t word ≡ true → t ≡ word ++ drop (length word) t
begins_is t word e = (starts_is Decides-eqb t word (starts_with nat_eq t word) refl).0 e

begins_from : (word rest : List ℕ) → starts_with nat_eq (word ++ rest) word ≡ true
begins_from word rest = (starts_is Decides-eqb (word ++ rest) word (starts_with nat_eq (word ++ rest) word) refl).1 rest refl

-- a word with an end of its own, whatever follows
pub record IsOwn (words : List (List ℕ)) (word : List ℕ) : Type 0 where
  some : 0 < length word
  found : (rest : List ℕ) → front_of words (word ++ rest) ≡ Some (length word)

AllOwn : List (List ℕ) → List (List ℕ) → Type 0
AllOwn words [] = Unit {0}
AllOwn words (word ∷ rest) = IsOwn words word × AllOwn words rest

-- a word that `front_of` finds
record Found (words : List (List ℕ)) (t : List ℕ) (n : ℕ) : Type 0 where
  word : List ℕ
  own : IsOwn words word
  front : t ≡ word ++ drop n t
  long : n ≡ length word

found_of : (all words : List (List ℕ)) → AllOwn all words → (t : List ℕ) (n : ℕ) → front_of words t ≡ Some n → Found all t n
unfolding AllOwn
found_of all [] own t n e = absurd (cc)
found_of all (word ∷ words) own t n e = by (starts_with nat_eq t word) refl e (λ h. found_of all words own.1 t n h) where
  by : (c : Bool) → starts_with nat_eq t word ≡ c → cond c (Some (length word)) (front_of words t) ≡ Some n → (front_of words t ≡ Some n → Found all t n) → Found all t n
  by true h e ih = let s = some_of (length word) n e in record { word = word; own = own.0; front = rw (← s) (begins_is t word h); long = sym s }
  by false h e ih = ih e

header_own : AllOwn headers headers
unfolding AllOwn
header_own = (
  record { some = lit< tt; found = λ rest. refl },
  (
    record { some = lit< tt; found = λ rest. refl },
    (
      record { some = lit< tt; found = λ rest. refl },
      (
        record { some = lit< tt; found = λ rest. refl },
        (record { some = lit< tt; found = λ rest. refl }, tt),
      ),
    ),
  ),
)

headers_end : Ends (front_of headers)
headers_end = record { some = some; within = within; kept = kept } where
  some : (t : List ℕ) (n : ℕ) → front_of headers t ≡ Some n → 0 < n
  some t n e = let p = found_of headers headers header_own t n e in rw p.long p.own.some

  within : (t : List ℕ) (n : ℕ) → front_of headers t ≡ Some n → n ≤ length t
  within t n e =
      let p = found_of headers headers header_own t n e in
      let h = ap length p.front ∙ length-append p.word (drop n t) in omega (arith, p.long, h)

  kept : (t : List ℕ) (n : ℕ) (rest : List ℕ) → front_of headers t ≡ Some n → front_of headers (take n t ++ rest) ≡ Some n
  kept t n rest e =
      let p = found_of headers headers header_own t n e in
      let front : take n t ≡ p.word = ap (take n) p.front ∙ take_at p.word (drop n t) n (sym p.long) in
      ap (λ u. front_of headers (u ++ rest)) front ∙ (p.own.found rest ∙ ap Some (sym p.long))

header_ends : Ends header_end
unfolding header_end
header_ends = blanks_end (front_of headers) headers_end

-- what an answer of `word_end` says
word_of_end : (t : List ℕ) (n : ℕ) → word_end t ≡ Some n → (starts_with nat_eq t (codes "include") ≡ true) × ((m : ℕ) × ((header_end (drop 7 t) ≡ Some m) × (n ≡ 7 + m)))
unfolding word_end
word_of_end t n e = by (starts_with nat_eq t (codes "include")) refl e where
  by : (c : Bool) → starts_with nat_eq t (codes "include") ≡ c → cond c (option_map (λ end. 7 + end) (header_end (drop 7 t))) None ≡ Some n → (starts_with nat_eq t (codes "include") ≡ true) × ((m : ℕ) × ((header_end (drop 7 t) ≡ Some m) × (n ≡ 7 + m)))
  by true h e = (h, map_some 7 (header_end (drop 7 t)) n e)
  by false h e = absurd (cc)

word_from : (u : List ℕ) (m : ℕ) → header_end u ≡ Some m → word_end (codes "include" ++ u) ≡ Some (7 + m)
unfolding word_end
word_from u m e = cond-true (starts_with nat_eq (codes "include" ++ u) (codes "include")) (option_map (λ end. 7 + end) (header_end u)) None (begins_from (codes "include") u) ∙ ap (option_map (λ end. 7 + end)) e

word_ends : Ends word_end
word_ends = record { some = some; within = within; kept = kept } where
  some : (t : List ℕ) (n : ℕ) → word_end t ≡ Some n → 0 < n
  some t n e = let p = word_of_end t n e in omega (arith, p.1.1.1)

  within : (t : List ℕ) (n : ℕ) → word_end t ≡ Some n → n ≤ length t
  within t n e =
      let p = word_of_end t n e in
      let h = header_ends.within (drop 7 t) p.1.0 p.1.1.0 in
      let whole = ap length (begins_is t (codes "include") p.0) ∙ length-append (codes "include") (drop 7 t) in
      omega (arith, p.1.1.1, h, whole)

  kept_at : (t : List ℕ) (m : ℕ) (rest : List ℕ) → starts_with nat_eq t (codes "include") ≡ true → header_end (drop 7 t) ≡ Some m → word_end (take (7 + m) t ++ rest) ≡ Some (7 + m)
  kept_at t m rest h e =
      let front : take (7 + m) t ≡ codes "include" ++ take m (drop 7 t) = ap (take (7 + m)) (begins_is t (codes "include") h) ∙ take-append-add (codes "include") (drop 7 t) m in
      ap (λ u. word_end (u ++ rest)) front ∙ word_from (take m (drop 7 t) ++ rest) m (header_ends.kept (drop 7 t) m rest e)

  kept : (t : List ℕ) (n : ℕ) (rest : List ℕ) → word_end t ≡ Some n → word_end (take n t ++ rest) ≡ Some n
  kept t n rest e =
      let p = word_of_end t n e in
      let P : ℕ → Type 0 = λ k. word_end (take k t ++ rest) ≡ Some k in
      subst P (sym p.1.1.1) (kept_at t p.1.0 rest p.0 p.1.1.0)

pub include_ends : Ends include_end
unfolding include_end
include_ends = blanks_end word_end word_ends
