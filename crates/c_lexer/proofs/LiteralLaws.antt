-- A literal is characters in turn, each the longest at its place, and the closing quote.
use Rattle.std.proofs.Common.{◌≡◌, ℕ, zero, suc, ◌+◌, ◌-◌, ◌≤◌, Bool, true, false, not, cond, ◌&&◌, List, [], ◌∷◌, length, drop, refl, ap, subst, sym, ◌∙◌, arith}
use Rattle.std.proofs.lemmas.Bool.{eqb-true, eqb-false, ne_eqb, and_parts, and_from, not-true, not_from_false, cond-true}
use Rattle.std.proofs.lemmas.List.Sums.{sum_by-cons}
use Rattle.std.specs.Prelude.{◌==◌, Some, None, option_map, sum}
use Rattle.c_lexer.specs.Literals.{character_length, begins_with, constant_end, string_end}
use Rattle.c_lexer.specs.Characters.{HasCharacter, HasCharacters, StringsAreCharacters, ConstantsAreCharacters}
use Rattle.c_lexer.proofs.Fronts.{map_suc_some}
use Rattle.c_lexer.proofs.Ends.{shifted, string_end_quote, string_end_character}
use Rattle.c_lexer.proofs.CharacterLengths.{character_of, character_from, character_some, character_no_quote}

some_of : (m n : ℕ) → Some m ≡ Some n → m ≡ n
some_of m n e = cc

sum_cons : (n : ℕ) (ns : List ℕ) → sum (n ∷ ns) ≡ n + sum ns
sum_cons n ns = sum_by-cons (λ x. x) n ns

-- characters up to the end that is found, behind the bytes of a character that began before
record Cut (k : ℕ) (text : List ℕ) (n : ℕ) : Type 0 where
  lengths : List ℕ
  characters : HasCharacters 34 (drop k text) lengths
  total : k + (sum lengths + 1) ≡ n

string_cut : (k : ℕ) (text : List ℕ) (n : ℕ) → k ≤ length text → string_end k text ≡ Some n → Cut k text n
unfolding string_end
string_cut k [] n le e = absurd (cc)
string_cut zero (b ∷ w) n le e = by (b == 34) refl (character_length 34 (b ∷ w) == 0) refl e (λ k m le h. string_cut k w m le h) where
  at : (x : ℕ) → x ≡ character_length 34 (b ∷ w) → HasCharacter 34 (b ∷ w) x → (m : ℕ) → n ≡ suc m → ((k : ℕ) → suc k ≡ x → Cut k w m) → Cut 0 (b ∷ w) n
  at zero is has m more later = absurd (let h = character_some 34 (b ∷ w) 0 has in omega (arith, h))
  at (suc x) is has m more later =
      let c = later x refl in
      record {
        lengths = suc x ∷ c.lengths;
        characters = (has, c.characters);
        total = let t = c.total in let s = sum_cons (suc x) c.lengths in omega (arith, t, s, more);
      }

  by : (q : Bool) → (b == 34) ≡ q → (z : Bool) → (character_length 34 (b ∷ w) == 0) ≡ z → cond q (Some 1) (cond z None (option_map suc (string_end (character_length 34 (b ∷ w) - 1) w))) ≡ Some n → ((k m : ℕ) → k ≤ length w → string_end k w ≡ Some m → Cut k w m) → Cut 0 (b ∷ w) n
  by true quote z zeros e ih = record { lengths = []; characters = quote; total = some_of 1 n e }
  by false quote true zeros e ih = absurd (cc)
  by false quote false zeros e ih =
      let p = map_suc_some (string_end (character_length 34 (b ∷ w) - 1) w) n e in
      let has = character_of 34 (b ∷ w) (eqb-false (character_length 34 (b ∷ w)) 0 zeros) in
      let within = has.within in
      at (character_length 34 (b ∷ w)) refl has p.0 p.1.1
      (λ k is. let less : character_length 34 (b ∷ w) - 1 ≡ k = omega (arith, is) in ih k p.0 (omega (arith, is, within)) (ap (λ j. string_end j w) (sym less) ∙ p.1.0))
string_cut (suc k) (b ∷ w) n le e =
    let p = map_suc_some (string_end k w) n e in
    let c = string_cut k w p.0 (omega (arith, le)) p.1.0 in
    record { lengths = c.lengths; characters = c.characters; total = let t = c.total in omega (arith, t, p.1.1) }

string_from : (text : List ℕ) (lengths : List ℕ) → HasCharacters 34 text lengths → string_end 0 text ≡ Some (sum lengths + 1)
string_from [] [] has = absurd (cc)
string_from (b ∷ w) [] has = string_end_quote b w (eqb-true b 34 has)
string_from [] (n ∷ ns) has = absurd (let h = character_some 34 [] n has.0 in let k = has.0.within in omega (arith, h, k))
string_from (b ∷ w) (zero ∷ ns) has = absurd (let h = character_some 34 (b ∷ w) 0 has.0 in omega (arith, h))
string_from (b ∷ w) (suc n ∷ ns) has =
    let within = has.0.within in
    let step = string_end_character b w n (character_no_quote 34 b w n refl has.0) (sym (character_from 34 (b ∷ w) (suc n) has.0)) (omega (arith, within)) in
    let total : suc n + (sum ns + 1) ≡ sum (suc n ∷ ns) + 1 = let s = sum_cons (suc n) ns in omega (arith, s) in
    step ∙ (ap (shifted (suc n)) (string_from (drop n w) ns has.1) ∙ ap Some total)

pub strings_are_characters : StringsAreCharacters
strings_are_characters text n = (there, back) where
  there : string_end 0 text ≡ Some n → (lengths : List ℕ) × (HasCharacters 34 text lengths × (sum lengths + 1 ≡ n))
  there e = let c = string_cut 0 text n (omega arith) e in (c.lengths, (c.characters, let t = c.total in omega (arith, t)))

  back : (lengths : List ℕ) × (HasCharacters 34 text lengths × (sum lengths + 1 ≡ n)) → string_end 0 text ≡ Some n
  back h = string_from text h.0 h.1.0 ∙ ap Some h.1.1

pub constants_are_characters : ConstantsAreCharacters
unfolding constant_end
constants_are_characters text n = (there, back) where
  there : constant_end text ≡ Some n → (long : ℕ) × (HasCharacter 39 text long × (begins_with 39 (drop long text) ≡ true) × (long + 1 ≡ n))
  there e = by (not (character_length 39 text == 0) && begins_with 39 (drop (character_length 39 text) text)) refl e where
    by : (c : Bool) → (not (character_length 39 text == 0) && begins_with 39 (drop (character_length 39 text) text)) ≡ c → cond c (Some (1 + character_length 39 text)) None ≡ Some n → (long : ℕ) × (HasCharacter 39 text long × (begins_with 39 (drop long text) ≡ true) × (long + 1 ≡ n))
    by false h e = absurd (cc)
    by true h e =
        let p = and_parts (not (character_length 39 text == 0)) _ h in
        let has = character_of 39 text (eqb-false (character_length 39 text) 0 (not-true (character_length 39 text == 0) p.0)) in
        (character_length 39 text, (has, p.1, let s = some_of (1 + character_length 39 text) n e in omega (arith, s)))

  back : (long : ℕ) × (HasCharacter 39 text long × (begins_with 39 (drop long text) ≡ true) × (long + 1 ≡ n)) → constant_end text ≡ Some n
  back h =
      let is = character_from 39 text h.0 h.1.0 in
      let some = character_some 39 text h.0 h.1.0 in
      let full : (h.0 == 0) ≡ false = ne_eqb h.0 0 (omega (arith, some)) in
      let P : ℕ → Type 0 = λ k. cond (not (k == 0) && begins_with 39 (drop k text)) (Some (1 + k)) None ≡ Some n in
      subst P (sym is) (cond-true (not (h.0 == 0) && begins_with 39 (drop h.0 text)) (Some (1 + h.0)) None (and_from (not (h.0 == 0)) _ (not_from_false (h.0 == 0) full) h.1.1) ∙ ap Some (let t = h.1.2 in omega (arith, t)))
