-- Readers that look for an end: what they answer for a whole text, from what they answer further on.
use Rattle.std.proofs.Common.{◌≡◌, ◌≢◌, ℕ, zero, suc, ◌+◌, ◌-◌, ◌<◌, ◌≤◌, Bool, true, false, ◌&&◌, List, [], ◌∷◌, length, get_or, drop, refl, ap, sym, ◌∙◌, arith}
use Rattle.std.proofs.lemmas.List.{drop_more, drop-drop, length-drop, drop_all}
use Rattle.std.proofs.lemmas.Bool.{ne_eqb}
use Rattle.std.specs.Prelude.{Option, Some, None, option_map, ◌==◌}
use Rattle.c_lexer.specs.Gaps.{comment_end}
use Rattle.c_lexer.specs.Literals.{character_length, string_end}

-- an end, so many bytes further on
abbrev pub shifted : ℕ → Option ℕ → Option ℕ
shifted n o = option_map (λ end. n + end) o

pub shifted_none : (o : Option ℕ) → o ≡ shifted 0 o
shifted_none None = refl
shifted_none (Some n) = ap Some (omega arith)

pub shifted_twice : (m n : ℕ) (o : Option ℕ) → shifted m (shifted n o) ≡ shifted (m + n) o
shifted_twice m n None = refl
shifted_twice m n (Some end) = ap Some (omega arith)

pub shifted_suc : (n : ℕ) (o : Option ℕ) → option_map suc (shifted n o) ≡ shifted (suc n) o
shifted_suc n None = refl
shifted_suc n (Some end) = ap Some (omega arith)

pub suc_shifted : (o : Option ℕ) → option_map suc o ≡ shifted 1 o
suc_shifted None = refl
suc_shifted (Some end) = ap Some (omega arith)

-- bytes of a character that began before belong to no other
pub string_end_skip : (k : ℕ) (t : List ℕ) → k ≤ length t → string_end k t ≡ shifted k (string_end 0 (drop k t))
unfolding string_end
string_end_skip zero t h = shifted_none (string_end 0 t)
string_end_skip (suc k) [] h = absurd (omega arith)
string_end_skip (suc k) (b ∷ w) h = ap (option_map suc) (string_end_skip k w (omega arith)) ∙ shifted_suc k (string_end 0 (drop k w))

pub string_end_quote : (b : ℕ) (w : List ℕ) → b ≡ 34 → string_end 0 (b ∷ w) ≡ Some 1
unfolding string_end
string_end_quote b w e = rw e refl

string_end_wrong : (b : ℕ) (w : List ℕ) → b ≢ 34 → 0 ≡ character_length 34 (b ∷ w) → string_end 0 (b ∷ w) ≡ None
unfolding string_end
string_end_wrong b w ne e = rw (ne_eqb b 34 ne, ← e) refl

pub string_end_character : (b : ℕ) (w : List ℕ) (n : ℕ) → b ≢ 34 → suc n ≡ character_length 34 (b ∷ w) → n ≤ length w → string_end 0 (b ∷ w) ≡ shifted (suc n) (string_end 0 (drop n w))
unfolding string_end
string_end_character b w n ne e h =
    let some : suc n ≢ 0 = omega arith in
    let less : suc n - 1 ≡ n = omega arith in
    rw (ne_eqb b 34 ne, ← e, ne_eqb (suc n) 0 some, less) (ap (option_map suc) (string_end_skip n w h) ∙ shifted_suc n (string_end 0 (drop n w)))

-- the loop over a string has come to a place
abbrev pub AtString : List ℕ → ℕ → Type 0
AtString text at = string_end 0 text ≡ shifted at (string_end 0 (drop at text))

pub string_closes : (text : List ℕ) (at : ℕ) → AtString text at → at < length text → get_or text at 0 ≡ 34 → Some (1 + at) ≡ string_end 0 text
string_closes text at reached h e =
    let here : string_end 0 (drop at text) ≡ Some 1 = ap (string_end 0) (drop_more text at 0 h) ∙ string_end_quote (get_or text at 0) (drop (at + 1) text) e in
    sym (reached ∙ (ap (shifted at) here ∙ ap Some (omega arith)))

pub string_fails : (text : List ℕ) (at : ℕ) → AtString text at → at < length text → get_or text at 0 ≢ 34 → 0 ≡ character_length 34 (drop at text) → None ≡ string_end 0 text
string_fails text at reached h ne e =
    let cons = drop_more text at 0 h in
    let here : string_end 0 (drop at text) ≡ None = ap (string_end 0) cons ∙ string_end_wrong (get_or text at 0) (drop (at + 1) text) ne (e ∙ ap (character_length 34) cons) in
    sym (reached ∙ ap (shifted at) here)

pub string_ends : (text : List ℕ) (at : ℕ) → AtString text at → length text ≤ at → None ≡ string_end 0 text
unfolding string_end
string_ends text at reached e = sym (reached ∙ ap (λ t. shifted at (string_end 0 t)) (drop_all at text e))

pub string_goes_on : (text : List ℕ) (at n : ℕ) → AtString text at → at < length text → get_or text at 0 ≢ 34 → n ≡ character_length 34 (drop at text) → n ≢ 0 → at + n ≤ length text → AtString text (at + n)
string_goes_on text at zero reached h ne e some within = absurd (some refl)
string_goes_on text at (suc n) reached h ne e some within =
    let cons = drop_more text at 0 h in
    let here : string_end 0 (drop at text) ≡ shifted (suc n) (string_end 0 (drop n (drop (at + 1) text))) =
    ap (string_end 0) cons ∙ string_end_character (get_or text at 0) (drop (at + 1) text) n ne (e ∙ ap (character_length 34) cons) (rw length-drop (omega arith)) in
    let place : at + 1 + n ≡ at + suc n = omega arith in
    reached ∙ (ap (shifted at) here ∙ (shifted_twice at (suc n) _ ∙ ap (λ t. shifted (at + suc n) (string_end 0 t)) (drop-drop n (at + 1) text ∙ ap (λ k. drop k text) place)))

-- the loop over a comment has come to a place
abbrev pub AtComment : List ℕ → Bool → ℕ → Type 0
AtComment text star at = comment_end false text ≡ shifted at (comment_end star (drop at text))

comment_end_slash : (b : ℕ) (w : List ℕ) → b ≡ 47 → comment_end true (b ∷ w) ≡ Some 1
unfolding comment_end
comment_end_slash b w e = rw e refl

comment_end_other : (star : Bool) (b : ℕ) (w : List ℕ) → (star && b == 47) ≡ false → comment_end star (b ∷ w) ≡ shifted 1 (comment_end (b == 42) w)
unfolding comment_end
comment_end_other star b w e = rw e (suc_shifted (comment_end (b == 42) w))

pub comment_closes : (text : List ℕ) (at : ℕ) → AtComment text true at → at < length text → get_or text at 0 ≡ 47 → Some (1 + at) ≡ comment_end false text
comment_closes text at reached h e =
    let here : comment_end true (drop at text) ≡ Some 1 = ap (comment_end true) (drop_more text at 0 h) ∙ comment_end_slash (get_or text at 0) (drop (at + 1) text) e in
    sym (reached ∙ (ap (shifted at) here ∙ ap Some (omega arith)))

pub comment_ends : (text : List ℕ) (star : Bool) (at : ℕ) → AtComment text star at → length text ≤ at → None ≡ comment_end false text
unfolding comment_end
comment_ends text star at reached e = sym (reached ∙ ap (λ t. shifted at (comment_end star t)) (drop_all at text e))

pub comment_goes_on : (text : List ℕ) (star : Bool) (at : ℕ) → AtComment text star at → at < length text → (star && get_or text at 0 == 47) ≡ false → AtComment text (get_or text at 0 == 42) (at + 1)
comment_goes_on text star at reached h e =
    reached ∙ (ap (λ t. shifted at (comment_end star t)) (drop_more text at 0 h) ∙ (ap (shifted at) (comment_end_other star (get_or text at 0) (drop (at + 1) text) e) ∙ shifted_twice at 1 _))
