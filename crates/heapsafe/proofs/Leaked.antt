-- The leaks of a program, one after the other.
use Rattle.std.proofs.Common.{◌≡◌, ◌<◌, ◌∙◌, ℕ, List, [], ◌∷◌, ◌++◌, Option, Some, None, option_map, Bool, true, false, inl, inr, Result, Ok, Err, IsErr, refl, sym, ap, subst, arith}
use Rattle.std.specs.Prelude.{All, IfOk, filter, fold, min, nat_lt}
use Rattle.std.specs.List.{reduce}
use Rattle.std.proofs.lemmas.Bool.{cases_lt, lt-ltb, ltb-true}
use Rattle.std.proofs.lemmas.List.{append_assoc, append-nil}
use Rattle.std.proofs.lemmas.List.Elements.{All-head, All-tail, filter_passes}
use Rattle.hs_base.specs.Object.{Object}
use Rattle.hs_base.specs.Outside.{CountsFaults}
use Rattle.hs_base.specs.PutAll.{PutsAll}
use Rattle.hs_base.specs.declared.outside.Failed.{Failed}
use Rattle.hs_base.specs.declared.ends.Leak.{Leak}
use Rattle.flat_objects.specs.Leaks.{leak_after, leak_of, lines_left, next_line}
use Rattle.hs_base.specs.declared.ends.End.TheVariants.{Exit}
use Rattle.bad_free_report.specs.declared.form.Form.{Form}
use Rattle.bad_free_report.specs.Notice.{said}
use Rattle.bad_free_report.specs.Parts.{leak_said, leaks_said}
use Rattle.c_pre.specs.declared.answer.Opened.{Opened}
use Rattle.heapsafe.specs.Leaks.{AreLeaks}
use Rattle.heapsafe.specs.Places.{told_leak, told_leaks}
use Rattle.heapsafe.specs.Saying.{SaysLeaks, TakesAll, Telling, tells}
use Rattle.heapsafe.specs.Sight.{Sight}
use Rattle.std.proofs.lemmas.List.{map-append}

-- The line of a leak is above the one behind which it was asked for

abbrev IsAbove : ℕ → ℕ → Type 0
IsAbove above n = nat_lt above n ≡ true

fold_above : (above first : ℕ) (rest : List ℕ) → above < first → All (IsAbove above) rest → above < fold min first rest
fold_above above first [] low all = low
fold_above above first (x ∷ rest) low all =
    let high = ltb-true above x (All-head (IsAbove above) x rest all) in
    let least : above < min first x = elim (cases_lt x first) [ inl h ↦ omega arith | inr h ↦ omega arith ] in
    fold_above above (min first x) rest least (All-tail (IsAbove above) x rest all)

reduce_above : (above : ℕ) (xs : List ℕ) (least : ℕ) → All (IsAbove above) xs → reduce min xs ≡ Some least → above < least
reduce_above above [] least all is = absurd cc
reduce_above above (x ∷ xs) least all is =
    let same : fold min x xs ≡ least = cc in
    let high = ltb-true above x (All-head (IsAbove above) x xs all) in
    subst (λ n. above < n) same (fold_above above x xs high (All-tail (IsAbove above) x xs all))

some_leak : (objects : List Object) (above : ℕ) (found : Option ℕ) (leak : Leak) → ((line : ℕ) → found ≡ Some line → above < line) → option_map (leak_of objects) found ≡ Some leak → above < leak.line
some_leak objects above None leak high is = absurd cc
some_leak objects above (Some line) leak high is =
    let same : leak_of objects line ≡ leak = cc in
    subst (λ (l : Leak). above < l.line) same (high line refl)

pub leak_is_above : (objects : List Object) (above : ℕ) (leak : Leak) → leak_after above objects ≡ Some leak → above < leak.line
leak_is_above objects above leak is =
    some_leak objects above (next_line above objects) leak
    (λ line found. reduce_above above (filter (nat_lt above) (lines_left objects)) line (filter_passes (nat_lt above) (lines_left objects)) found)
    is

-- Leaks that are said behind others

-- whether some stand before what follows
abbrev behind : Bool → List Leak → Bool
behind later [] = later
behind later (leak ∷ rest) = true

behind_true : (leaks : List Leak) → behind true leaks ≡ true
behind_true [] = refl
behind_true (leak ∷ rest) = refl

behind_more : (leaks : List Leak) (leak : Leak) → behind false (leaks ++ leak ∷ []) ≡ true
behind_more [] leak = refl
behind_more (first ∷ rest) leak = refl

said_append : (f : Form) (later : Bool) (some more : List Leak) → leaks_said f later (some ++ more) ≡ leaks_said f later some ++ leaks_said f (behind later some) more
said_append f later [] more = refl
said_append f later (leak ∷ some) more =
    ap (λ l. leak_said f later leak ++ l) (said_append f true some more ∙ ap (λ (b : Bool). leaks_said f true some ++ leaks_said f b more) (behind_true some))
    ∙ sym (append_assoc (leak_said f later leak) (leaks_said f true some) (leaks_said f true more))

module _ (f : Form) (opened : List Opened) where
  -- what is said of leaks, with lines of their texts
  abbrev told_text : List Leak → List ℕ
  told_text leaks = leaks_said f false (told_leaks opened leaks)

  told_append : (some more : List Leak) → told_text (some ++ more) ≡ told_text some ++ leaks_said f (behind false (told_leaks opened some)) (told_leaks opened more)
  told_append some more =
      ap (leaks_said f false) (map-append (told_leak opened) some more) ∙ said_append f false (told_leaks opened some) (told_leaks opened more)

  -- Some leaks are told of, and the others come behind a line; that is 0 where none is told of
  pub record AreBegun (objects : List Object) (leaks : List Leak) (above : ℕ) (before after : Option (List ℕ)) : Type 0 where
    pub told : List Leak
    pub more : List Leak
    pub is : leaks ≡ told ++ more
    pub come : AreLeaks objects above more
    pub later : behind false (told_leaks opened told) ≡ nat_lt 0 above
    pub taken : (bytes : List ℕ) → before ≡ Some bytes → after ≡ Some (bytes ++ told_text told)

  pub none_begun : (objects : List Object) (leaks : List Leak) (taken : Option (List ℕ)) → AreLeaks objects 0 leaks → AreBegun objects leaks 0 taken taken
  none_begun objects leaks taken are = record {
    told = [];
    more = leaks;
    is = refl;
    come = are;
    later = refl;
    taken = λ bytes h. h ∙ ap Some (sym (append-nil bytes));
  }

  -- what is said of one leak more
  text_more : (told : List Leak) (leak : Leak) (above : ℕ) → behind false (told_leaks opened told) ≡ nat_lt 0 above → told_text (told ++ leak ∷ []) ≡ told_text told ++ leak_said f (nat_lt 0 above) (told_leak opened leak)
  text_more told leak above later =
      told_append told (leak ∷ [])
      ∙ ap (λ (b : List ℕ). told_text told ++ b) (append-nil (leak_said f (behind false (told_leaks opened told)) (told_leak opened leak)) ∙ ap (λ (b : Bool). leak_said f b (told_leak opened leak)) later)

  -- one leak more was told of
  pub one_begun : (objects : List Object) (leaks : List Leak) (above : ℕ) (leak : Leak) (before between after : Option (List ℕ)) → leak_after above objects ≡ Some leak → ((bytes : List ℕ) → between ≡ Some bytes → after ≡ Some (bytes ++ leak_said f (nat_lt 0 above) (told_leak opened leak))) → AreBegun objects leaks above before between → AreBegun objects leaks leak.line before after
  one_begun objects leaks above leak before between after found puts begun = next begun.more begun.come begun.is where
    next : (more : List Leak) → AreLeaks objects above more → leaks ≡ begun.told ++ more → AreBegun objects leaks leak.line before after
    next [] none is = absurd cc
    next (first ∷ rest) come is =
        let same : first ≡ leak = cc in
        let high = leak_is_above objects above leak found in
        let some : told_leaks opened (begun.told ++ leak ∷ []) ≡ told_leaks opened begun.told ++ told_leak opened leak ∷ [] = map-append (told_leak opened) begun.told (leak ∷ []) in
        record {
          told = begun.told ++ leak ∷ [];
          more = rest;
          is = is ∙ ap (λ (l : Leak). begun.told ++ l ∷ rest) same ∙ sym (append_assoc begun.told (leak ∷ []) rest);
          come = subst (λ (l : Leak). AreLeaks objects l.line rest) same come.1;
          later = ap (behind false) some ∙ behind_more (told_leaks opened begun.told) (told_leak opened leak) ∙ sym (lt-ltb 0 leak.line (omega (arith, high)));
          taken = λ bytes h. puts (bytes ++ told_text begun.told) (begun.taken bytes h) ∙ ap Some (append_assoc bytes (told_text begun.told) (leak_said f (nat_lt 0 above) (told_leak opened leak)) ∙ ap (λ (b : List ℕ). bytes ++ b) (sym (text_more begun.told leak above begun.later)));
        }

  -- all were told of
  pub all_begun : (objects : List Object) (leaks : List Leak) (above : ℕ) (before after : Option (List ℕ)) → leak_after above objects ≡ None → AreBegun objects leaks above before after → (bytes : List ℕ) → before ≡ Some bytes → after ≡ Some (bytes ++ told_text leaks)
  all_begun objects leaks above before after none begun bytes h = last begun.more begun.come begun.is where
    last : (more : List Leak) → AreLeaks objects above more → leaks ≡ begun.told ++ more → after ≡ Some (bytes ++ told_text leaks)
    last [] come is = begun.taken bytes h ∙ ap (λ (ls : List Leak). Some (bytes ++ told_text ls)) (sym (is ∙ append-nil begun.told))
    last (first ∷ rest) come is = absurd cc

  -- the last call failed: a prefix was taken
  prefix_begun : (objects : List Object) (leaks : List Leak) (above : ℕ) (leak : Leak) (before between after : Option (List ℕ)) → leak_after above objects ≡ Some leak → ((bytes : List ℕ) → between ≡ Some bytes → (put : List ℕ) × (rest : List ℕ) × (put ++ rest ≡ leak_said f (nat_lt 0 above) (told_leak opened leak)) × (after ≡ Some (bytes ++ put))) → AreBegun objects leaks above before between → (bytes : List ℕ) → before ≡ Some bytes → (put : List ℕ) × (rest : List ℕ) × (put ++ rest ≡ told_text leaks) × (after ≡ Some (bytes ++ put))
  prefix_begun objects leaks above leak before between after found puts begun bytes h = part begun.more begun.come begun.is where
    one : List ℕ
    one = leak_said f (nat_lt 0 above) (told_leak opened leak)

    p : (put : List ℕ) × (rest : List ℕ) × (put ++ rest ≡ one) × (after ≡ Some ((bytes ++ told_text begun.told) ++ put))
    p = puts (bytes ++ told_text begun.told) (begun.taken bytes h)

    part : (more : List Leak) → AreLeaks objects above more → leaks ≡ begun.told ++ more → (put : List ℕ) × (rest : List ℕ) × (put ++ rest ≡ told_text leaks) × (after ≡ Some (bytes ++ put))
    part [] come is = absurd cc
    part (first ∷ more) come is =
        let same : first ≡ leak = cc in
        let told = told_text begun.told in
        let rest = leaks_said f true (told_leaks opened more) in
        let all : told_text leaks ≡ told ++ (one ++ rest) = ap told_text (is ∙ ap (λ (l : Leak). begun.told ++ l ∷ more) same) ∙ told_append begun.told (leak ∷ more) ∙ ap (λ (b : Bool). told ++ (leak_said f b (told_leak opened leak) ++ rest)) begun.later in (
          told ++ p.0,
          p.1 ++ rest,
          append_assoc told p.0 (p.1 ++ rest)
              ∙ ap (λ (b : List ℕ). told ++ b) (sym (append_assoc p.0 p.1 rest) ∙ ap (λ (b : List ℕ). b ++ rest) p.2)
              ∙ sym all,
          p.3 ∙ ap Some (append_assoc bytes told p.0),
        )

  pub failed_begun : {T U : Type 0} (objects : List Object) (leaks : List Leak) (above : ℕ) (leak : Leak) (before between after : Option (List ℕ)) (told : Result T Failed) (answer : Result U Failed) → IsErr told → IsErr answer → leak_after above objects ≡ Some leak → PutsAll between after (leak_said f (nat_lt 0 above) (told_leak opened leak)) told → AreBegun objects leaks above before between → PutsAll before after (told_text leaks) answer
  failed_begun objects leaks above leak before between after (Err e) (Err e') is is' found puts begun =
      prefix_begun objects leaks above leak before between after found puts begun
  failed_begun objects leaks above leak before between after (Ok v) answer is is' found puts begun = absurd cc
  failed_begun objects leaks above leak before between after (Err e) (Ok v) is is' found puts begun = absurd cc

-- where no write failed, the error stream took no more than what is said of an exit
pub own_exit : {T : Type 0} (form : Form) (tell : Telling) (code : ℕ) (objects : List Object) (s t t' : Option (List ℕ)) (f f' : ℕ) (result : Result T Failed) → s ≡ t → CountsFaults f f' result → f' ≡ f → ((leaks : List Leak) → AreLeaks objects 0 leaks → PutsAll s t' (said form (tells tell (Exit code) leaks)) result) → IfOk result (λ _. (leaks : List Leak) × AreLeaks objects 0 leaks) → (leaks : List Leak) × TakesAll t t' (said form (tells tell (Exit code) leaks))
own_exit form tell code objects s t t' f f' (Ok v) is counts same puts all =
    (all.0, subst (λ o. TakesAll o t' (said form (tells tell (Exit code) all.0))) is (puts all.0 all.1))
own_exit form tell code objects s t t' f f' (Err e) is counts same puts all = absurd (omega (arith, counts, same))

-- the status of a program that ended so, or of a failed write
abbrev pub Answers : {T : Type 0} → Result T Failed → ℕ → ℕ → Type 0
Answers (Ok value) code result = result ≡ code
Answers (Err e) code result = result ≡ 133

-- what a sink took of an exit was said with that status
pub left_said : {T I O E : Type 0} (before after : Sight I O E) (tell : Telling) (objects : List Object) (code result : ℕ) (put : Result T Failed) → CountsFaults before.err_faults after.err_faults put → ((leaks : List Leak) → AreLeaks objects 0 leaks → PutsAll before.said after.said (said before.form (tells tell (Exit code) leaks)) put) → IfOk put (λ _. (leaks : List Leak) × AreLeaks objects 0 leaks) → Answers put code result → SaysLeaks tell objects before after code result
left_said before after tell objects code result (Ok value) counts puts all is = record { says = λ leaks are. inl (counts, is, puts leaks are); all = λ _. all }
left_said before after tell objects code result (Err e) counts puts all is =
    record { says = λ leaks are. inr (counts, is, puts leaks are); all = λ same. absurd (omega (arith, counts, same)) }
