-- What is left of a text, one line further.
use Rattle.std.proofs.Common.{◌≡◌, ℕ, zero, suc, ◌+◌, ◌-◌, ◌<◌, ◌≤◌, List, [], ◌∷◌, length, take, drop, Option, Some, Result, Ok, Err, refl, sym, ap, ◌∙◌}
use Rattle.c_pre.specs.Lines.{line_length, lines_of}
use Rattle.c_pre.specs.After.{and_then}
use Rattle.c_pre.specs.Reading.{first_of, Step, line_read, text_ended}
use Rattle.c_pre.specs.Texts.{Including, place, refused, placed, with_text, included, next_line, lines_read, entered, source_read, text_read, below}
use Rattle.c_pre.specs.declared.answer.PreKind.TheVariants.{Depth}
use Rattle.c_pre.specs.declared.answer.PreError.{PreError}
use Rattle.c_pre.specs.declared.answer.PreError.TheVariants.{Bad, Lex, Fault, TooLong, NoMemory}
use Rattle.c_pre.specs.declared.answer.Refusal.{Refusal}
use Rattle.c_pre.specs.declared.answer.Refusal.TheVariants as refusal
use Rattle.c_pre.specs.declared.here.Here.{Here}
use Rattle.c_pre.specs.declared.preprocessor.Source.{Source}
use Rattle.c_pre.specs.declared.progress.Progress.{Progress}
use Rattle.c_pre.proofs.LinesOf.{lines_turn, lines_end}
use Rattle.c_pre.specs.Answering.{Leaves, Steps, Comes, Enters}

-- a text that is opened
pub opened_text : (include : Including) (name text : List ℕ) (p new : Progress) (s : Source) → Enters (entered name text p) (with_text name text p) new (Ok s) → text_read include name text p ≡ source_read include s new
unfolding text_read
opened_text include name text p new s h =
    ap (λ e. and_then e (λ t. source_read include t (with_text name text p))) h.0 ∙ ap (λ q. source_read include s q) (sym h.1)

refused_text : (include : Including) (name text : List ℕ) (p : Progress) (e : PreError) → entered name text p ≡ Err e → text_read include name text p ≡ Err e
unfolding text_read
refused_text include name text p e h = ap (λ r. and_then r (λ t. source_read include t (with_text name text p))) h

-- a text that is not opened
pub not_opened : (T : Type 0) (include : Including) (name text : List ℕ) (p new : Progress) (e : PreError) → Enters (entered name text p) (with_text name text p) new (Err e) → Comes {T = T} (text_read include name text p) new (Err e)
not_opened T include name text p new (Bad kind at) h = refused_text include name text p (Bad kind at) h
not_opened T include name text p new (Lex kind at) h = refused_text include name text p (Lex kind at) h
not_opened T include name text p new (TooLong n) h = refused_text include name text p (TooLong n) h
not_opened T include name text p new (Fault n) h = tt
not_opened T include name text p new NoMemory h = tt

-- before its first line
pub source_start : (include : Including) (s : Source) (here : Here) (p : Progress) → here ≡ first_of s.base → lines_read include s (lines_of s.plain) here p ≡ source_read include s p
unfolding source_read
source_start include s here p is = ap (λ h. lines_read include s (lines_of s.plain) h p) is

-- from a line on
abbrev from_line : Including → Source → List (List ℕ) → Result Step Refusal → Result Progress PreError
from_line include s lines answer =
    and_then (placed s answer) (λ step.
    and_then (included include (place s step.here.line) step.include step.progress) (λ q.
    lines_read include s lines (next_line step.here) q))

lines_cons : (include : Including) (s : Source) (line : List ℕ) (lines : List (List ℕ)) (here : Here) (p : Progress) → lines_read include s (line ∷ lines) here p ≡ from_line include s lines (line_read line here p)
unfolding lines_read
lines_cons include s line lines here p = refl

-- from a place on, one line further and at the end
pub reached : (include : Including) (s : Source) (line rest : List ℕ) (at : ℕ) (here : Here) (p : Progress) (whole : Result Progress PreError) → at < length s.plain → rest ≡ take (length s.plain - at) (drop at s.plain) → line ≡ take (line_length rest) rest → length line ≡ line_length rest → lines_read include s (lines_of (drop at s.plain)) here p ≡ whole → lines_read include s (line ∷ lines_of (drop (at + length line) s.plain)) here p ≡ whole
reached include s line rest at here p whole within these is long h =
    ap (λ ls. lines_read include s ls here p) (sym (lines_turn s.plain line rest at within these is long)) ∙ h

pub ended : (include : Including) (s : Source) (at : ℕ) (here : Here) (p : Progress) (whole : Result Progress PreError) → length s.plain ≤ at → lines_read include s (lines_of (drop at s.plain)) here p ≡ whole → lines_read include s [] here p ≡ whole
ended include s at here p whole end h = ap (λ ls. lines_read include s ls here p) (sym (lines_end s.plain at end)) ∙ h

-- a line that is refused
pub line_refused : (T : Type 0) (include : Including) (s : Source) (line : List ℕ) (lines : List (List ℕ)) (here new : Here) (p after last : Progress) (whole : Result Progress PreError) (e : Refusal) → lines_read include s (line ∷ lines) here p ≡ whole → Steps (line_read line here p) new after (Err e) → Comes {T = T} whole last (Err (refused s e))
line_refused T include s line lines here new p after last whole (refusal.Bad kind at) is h =
    sym is ∙ (lines_cons include s line lines here p ∙ ap (from_line include s lines) h)
line_refused T include s line lines here new p after last whole (refusal.Lex kind at) is h =
    sym is ∙ (lines_cons include s line lines here p ∙ ap (from_line include s lines) h)
line_refused T include s line lines here new p after last whole refusal.NoMemory is h = tt

-- behind a line that is not refused
pub line_done : (include : Including) (s : Source) (line : List ℕ) (lines : List (List ℕ)) (here new : Here) (p after : Progress) (whole : Result Progress PreError) (name : Option (List ℕ)) → lines_read include s (line ∷ lines) here p ≡ whole → Steps (line_read line here p) new after (Ok name) → and_then (included include (place s new.line) name after) (λ q. lines_read include s lines (next_line new) q) ≡ whole
line_done include s line lines here new p after whole name is h =
    sym (sym is ∙ (lines_cons include s line lines here p ∙ ap (from_line include s lines) h))

below_none : (told : List ℕ → List ℕ) (s : Source) (at : ℕ) (name : List ℕ) (p : Progress) → below told zero (place s at) name p ≡ Err (refused s (refusal.Bad Depth at))
unfolding below
below_none told s at name p = refl

below_more : (told : List ℕ → List ℕ) (left : ℕ) (s : Source) (at : ℕ) (name : List ℕ) (p : Progress) → below told (suc left) (place s at) name p ≡ text_read (below told left) name (told name) p
unfolding below
below_more told left s at name p = refl

abbrev behind : Including → Source → List (List ℕ) → Here → Result Progress PreError → Result Progress PreError
behind include s lines here answer = and_then answer (λ q. lines_read include s lines here q)

-- an include at the greatest depth
pub too_deep : (T : Type 0) (told : List ℕ → List ℕ) (left : ℕ) (s : Source) (lines : List (List ℕ)) (new : Here) (after last : Progress) (whole : Result Progress PreError) (name : List ℕ) → left ≡ 0 → and_then (included (below told left) (place s new.line) (Some name) after) (λ q. lines_read (below told left) s lines (next_line new) q) ≡ whole → Comes {T = T} whole last (Err (refused s (refusal.Bad Depth new.line)))
too_deep T told left s lines new after last whole name none is =
    let e : below told left (place s new.line) name after ≡ Err (refused s (refusal.Bad Depth new.line)) = ap (λ k. below told k (place s new.line) name after) none ∙ below_none told s new.line name after in
    sym is ∙ ap (behind (below told left) s lines (next_line new)) e

-- an include that is refused
pub include_refused : (T U : Type 0) (told : List ℕ → List ℕ) (left less : ℕ) (s : Source) (lines : List (List ℕ)) (new : Here) (after last : Progress) (whole : Result Progress PreError) (name : List ℕ) (e : PreError) → left ≡ suc less → and_then (included (below told left) (place s new.line) (Some name) after) (λ q. lines_read (below told left) s lines (next_line new) q) ≡ whole → Comes {T = U} (text_read (below told less) name (told name) after) last (Err e) → Comes {T = T} whole last (Err e)
include_refused T U told left less s lines new after last whole name e more is h = by e h where
  one : below told left (place s new.line) name after ≡ text_read (below told less) name (told name) after
  one = ap (λ k. below told k (place s new.line) name after) more ∙ below_more told less s new.line name after

  err : (f : PreError) → text_read (below told less) name (told name) after ≡ Err f → whole ≡ Err f
  err f k = sym is ∙ ap (behind (below told left) s lines (next_line new)) (one ∙ k)

  by : (f : PreError) → Comes {T = U} (text_read (below told less) name (told name) after) last (Err f) → Comes {T = T} whole last (Err f)
  by (Bad kind at) k = err (Bad kind at) k
  by (Lex kind at) k = err (Lex kind at) k
  by (TooLong n) k = err (TooLong n) k
  by (Fault n) k = tt
  by NoMemory k = tt

-- an include that is read
pub include_done : (told : List ℕ → List ℕ) (left less : ℕ) (s : Source) (lines : List (List ℕ)) (new : Here) (after last : Progress) (whole : Result Progress PreError) (name : List ℕ) → left ≡ suc less → and_then (included (below told left) (place s new.line) (Some name) after) (λ q. lines_read (below told left) s lines (next_line new) q) ≡ whole → text_read (below told less) name (told name) after ≡ Ok last → lines_read (below told left) s lines (next_line new) last ≡ whole
include_done told left less s lines new after last whole name more is h =
    let one : below told left (place s new.line) name after ≡ Ok last = ap (λ k. below told k (place s new.line) name after) more ∙ (below_more told less s new.line name after ∙ h) in
    sym (sym is ∙ ap (behind (below told left) s lines (next_line new)) one)

-- behind the last line
lines_none : (include : Including) (s : Source) (here : Here) (p : Progress) → lines_read include s [] here p ≡ placed s (text_ended here p)
unfolding lines_read
lines_none include s here p = refl

pub text_done : (include : Including) (s : Source) (here : Here) (p last : Progress) (whole : Result Progress PreError) → lines_read include s [] here p ≡ whole → text_ended here p ≡ Ok last → whole ≡ Ok last
text_done include s here p last whole is h = sym is ∙ (lines_none include s here p ∙ ap (placed s) h)

pub text_refused : (T U : Type 0) (include : Including) (s : Source) (here : Here) (p last : Progress) (whole : Result Progress PreError) (e : Refusal) → lines_read include s [] here p ≡ whole → Leaves {T = U} (text_ended here p) last (Err e) → Comes {T = T} whole last (Err (refused s e))
text_refused T U include s here p last whole (refusal.Bad kind at) is h = sym is ∙ (lines_none include s here p ∙ ap (placed s) h)
text_refused T U include s here p last whole (refusal.Lex kind at) is h = sym is ∙ (lines_none include s here p ∙ ap (placed s) h)
text_refused T U include s here p last whole refusal.NoMemory is h = tt
