-- Lines that go on, one at a time.
use Rattle.std.proofs.Common.{◌≡◌, ℕ, ◌+◌, ◌-◌, ◌<◌, ◌≤◌, ◌==◌, if◌then◌else◌, Bool, true, false, List, [], ◌∷◌, ◌++◌, length, take, drop, replicate, Option, Some, None, refl, sym, ap, ◌∙◌, arith, append_assoc, length-drop}
use Rattle.std.proofs.lemmas.Bool.{false≢true, eqb-true}
use Rattle.std.proofs.lemmas.List.{take_all}
use Rattle.c_pre.specs.Lines.{line_length, lines_of}
use Rattle.c_pre.specs.Splices.{before_backslash, going_on, may_follow, joined_by, joined}
use Rattle.c_pre.proofs.LinesOf.{lines_first, lines_turn, lines_end}

-- no line stands behind a part
pub nothing_follows : (o : Option (List ℕ)) (text : List ℕ) → (length text == 0) ≡ true → None ≡ going_on o (lines_of text)
unfolding lines_of
nothing_follows None text h = refl
nothing_follows (Some part) [] h = refl
nothing_follows (Some part) (b ∷ w) h = absurd (omega (arith, eqb-true (length (b ∷ w)) 0 h))

-- a line stands behind it
pub follows : (o : Option (List ℕ)) (part text next : List ℕ) (b : Bool) → o ≡ Some part → (length text == 0) ≡ false → next ≡ take (line_length text) text → may_follow part next ≡ b → (if b then Some part else None) ≡ going_on o (lines_of text)
follows o part [] next b is some first h = absurd (false≢true (sym some))
follows o part (c ∷ w) next b is some first h =
    sym (ap (λ x. going_on x (lines_of (c ∷ w))) is
    ∙ (ap (going_on (Some part)) (lines_first (c ∷ w) (omega arith))
    ∙ (ap (λ (l : List ℕ). if may_follow part l then Some part else None) (sym first)
    ∙ ap (λ (x : Bool). if x then Some part else None) h)))

-- a line and those behind it
joined_more : (taken : ℕ) (line : List ℕ) (lines : List (List ℕ)) → joined taken (line ∷ lines) ≡ joined_by (going_on (before_backslash line) lines) taken line (λ n. joined n lines)
unfolding joined
joined_more taken line lines = refl

joined_none : (taken : ℕ) → joined taken [] ≡ replicate taken 10
unfolding joined
joined_none taken = refl

-- the lines of a text from a place on, where the first goes on by this part or does not
turned : (o : Option (List ℕ)) (text line rest behind : List ℕ) (taken at : ℕ) → at < length text → rest ≡ take (length text - at) (drop at text) → line ≡ take (line_length rest) rest → length line ≡ line_length rest → behind ≡ take (length text - (at + length line)) (drop (at + length line) text) → o ≡ going_on (before_backslash line) (lines_of behind) → joined taken (lines_of (drop at text)) ≡ joined_by o taken line (λ n. joined n (lines_of (drop (at + length line) text)))
turned o text line rest behind taken at within these is long after goes =
    let n = at + length line in
    let all : behind ≡ drop n text = after ∙ take_all (length text - n) (drop n text) (omega (arith, length-drop n text)) in
    let lines = lines_of (drop n text) in
    ap (joined taken) (lines_turn text line rest at within these is long)
    ∙ (joined_more taken line lines
    ∙ ap (λ (p : Option (List ℕ)). joined_by p taken line (λ m. joined m lines)) (sym (goes ∙ ap (λ (w : List ℕ). going_on (before_backslash line) (lines_of w)) all)))

-- behind a line that goes on
pub part_joined : (text line rest behind whole part all : List ℕ) (taken at : ℕ) → at < length text → rest ≡ take (length text - at) (drop at text) → line ≡ take (line_length rest) rest → length line ≡ line_length rest → behind ≡ take (length text - (at + length line)) (drop (at + length line) text) → Some part ≡ going_on (before_backslash line) (lines_of behind) → whole ++ joined taken (lines_of (drop at text)) ≡ all → ((whole ++ part) ++ 32 ∷ []) ++ joined (taken + 1) (lines_of (drop (at + length line) text)) ≡ all
part_joined text line rest behind whole part all taken at within these is long after goes h =
    let last = joined (taken + 1) (lines_of (drop (at + length line) text)) in
    append_assoc (whole ++ part) (32 ∷ []) last
    ∙ (append_assoc whole part (32 ∷ last)
    ∙ (ap (λ (w : List ℕ). whole ++ w) (sym (turned (Some part) text line rest behind taken at within these is long after goes)) ∙ h))

-- behind one that does not
pub line_joined : (text line rest behind whole all : List ℕ) (taken at : ℕ) → at < length text → rest ≡ take (length text - at) (drop at text) → line ≡ take (line_length rest) rest → length line ≡ line_length rest → behind ≡ take (length text - (at + length line)) (drop (at + length line) text) → None ≡ going_on (before_backslash line) (lines_of behind) → whole ++ joined taken (lines_of (drop at text)) ≡ all → ((whole ++ line) ++ replicate taken 10) ++ joined 0 (lines_of (drop (at + length line) text)) ≡ all
line_joined text line rest behind whole all taken at within these is long after goes h =
    let last = joined 0 (lines_of (drop (at + length line) text)) in
    ap (λ (w : List ℕ). w ++ last) (append_assoc whole line (replicate taken 10))
    ∙ (append_assoc whole (line ++ replicate taken 10) last
    ∙ (ap (λ (w : List ℕ). whole ++ w) (sym (turned None text line rest behind taken at within these is long after goes)) ∙ h))

-- behind the last line
pub all_joined : (text whole all : List ℕ) (taken at : ℕ) → length text ≤ at → whole ++ joined taken (lines_of (drop at text)) ≡ all → whole ++ replicate taken 10 ≡ all
all_joined text whole all taken at end h =
    ap (λ (w : List ℕ). whole ++ w) (sym (ap (joined taken) (lines_end text at end) ∙ joined_none taken)) ∙ h
