-- A list that is read item by item.
use Rattle.std.proofs.Common.{◌≡◌, ◌<◌, ◌+◌, ◌^◌, ℕ, zero, suc, List, [], ◌∷◌, ◌++◌, length, take, drop, refl, sym, ap, ◌∙◌, append_assoc, add-one, arith}
use Rattle.std.specs.List.{All, flat_map}
use Rattle.std.proofs.lemmas.List.{append-nil, flat_map_more, length_push}
use Rattle.std.proofs.lemmas.List.Concat.{flat_map-append}
use Rattle.std.proofs.lemmas.List.Elements.{All-head, All-nil, All-push, All-tail}
use Rattle.code_file.specs.Spelling.{Begins, IsNumber, IsShortList, list_of, number}
use Rattle.code_file.proofs.Reading.{BeginsNone}

-- the item of a place, and what stands before and behind it
pub record At {X : Type 0} (P : X → Type 0) (xs : List X) (n : ℕ) : Type 0 where
  pub item : X
  pub behind : List X
  pub from : drop n xs ≡ item ∷ behind
  pub next : drop (n + 1) xs ≡ behind
  pub until : take (n + 1) xs ≡ take n xs ++ item ∷ []
  pub holds : P item

pub at : {X : Type 0} (P : X → Type 0) (xs : List X) (n : ℕ) → All P xs → n < length xs → At P xs n
at P [] n all inside = absurd (omega arith)
at P (x ∷ xs) zero all inside = record { item = x; behind = xs; from = refl; next = refl; until = refl; holds = All-head P x xs all }
at P (x ∷ xs) (suc n) all inside =
    let rest = at P xs n (All-tail P x xs all) (omega arith) in
    record {
      item = rest.item;
      behind = rest.behind;
      from = rest.from;
      next = ap (λ m. drop m (x ∷ xs)) (add-one (suc n)) ∙ ap (λ m. drop m xs) (sym (add-one n)) ∙ rest.next;
      until = ap (λ m. take m (x ∷ xs)) (add-one (suc n)) ∙ ap (λ m. x ∷ take m xs) (sym (add-one n)) ∙ ap (λ (ys : List _). x ∷ ys) rest.until;
      holds = rest.holds;
    }

-- so many items are read of a list of `count`
pub record Under {X : Type 0} (Fits : X → Type 0) (item : X → List ℕ) (count done : ℕ) (bytes left : List ℕ) (items : List X) : Type 0 where
  pub long : length items ≡ done
  pub fits : All Fits items
  pub spelled : bytes ≡ number count ++ (flat_map item items ++ left)
  pub only : (ys : List X) (others : List ℕ) → IsShortList Fits ys → bytes ≡ list_of item ys ++ others → (length ys ≡ count) × (take done ys ≡ items) × (flat_map item (drop done ys) ++ others ≡ left)

pub under_none : {X : Type 0} (Fits : X → Type 0) (item : X → List ℕ) (count : ℕ) (bytes left : List ℕ) →
    Begins IsNumber number bytes left count → Under Fits item count 0 bytes left []
unfolding list_of
under_none Fits item count bytes left first = record {
  long = refl;
  fits = All-nil Fits;
  spelled = first.spelled;
  only = λ ys others fit is.
      let one = first.only (length ys) (flat_map item ys ++ others) fit.0 (is ∙ append_assoc (number (length ys)) (flat_map item ys) others) in
      (one.0, refl, one.1);
}

pub under_more : {X : Type 0} (Fits : X → Type 0) (item : X → List ℕ) (count done : ℕ) (bytes left after : List ℕ) (items : List X) (x : X) → done < count →
    Under Fits item count done bytes left items → Begins Fits item left after x → Under Fits item count (done + 1) bytes after (items ++ x ∷ [])
under_more Fits item count done bytes left after items x inside under next = record {
  long = length_push items x ∙ ap (λ n. n + 1) under.long;
  fits = All-push Fits items x under.fits next.fits;
  spelled = under.spelled ∙ ap (λ (s : List ℕ). number count ++ s)
      (ap (λ (s : List ℕ). flat_map item items ++ s) next.spelled ∙ sym (append_assoc (flat_map item items) (item x) after)
      ∙ ap (λ (s : List ℕ). s ++ after) (flat_map_more item [] items x));
  only = λ ys others fit is.
      let so = under.only ys others fit is in
      let here = at Fits ys done fit.1 (omega arith) in
      let one = next.only here.item (flat_map item here.behind ++ others) here.holds
      (sym so.2 ∙ ap (λ (zs : List _). flat_map item zs ++ others) here.from ∙ append_assoc (item here.item) (flat_map item here.behind) others) in
      (so.0, here.until ∙ ap (λ (zs : List _). zs ++ here.item ∷ []) so.1 ∙ ap (λ y. items ++ y ∷ []) one.0, ap (λ (zs : List _). flat_map item zs ++ others) here.next ∙ one.1);
}

pub under_stops : {X : Type 0} (Fits : X → Type 0) (item : X → List ℕ) (count done : ℕ) (bytes left : List ℕ) (items : List X) → done < count →
    Under Fits item count done bytes left items → BeginsNone Fits item left → BeginsNone (IsShortList Fits) (list_of item) bytes
under_stops Fits item count done bytes left items inside under none ys others fit is =
    let so = under.only ys others fit is in
    let here = at Fits ys done fit.1 (omega arith) in
    none here.item (flat_map item here.behind ++ others) here.holds
    (sym so.2 ∙ ap (λ (zs : List _). flat_map item zs ++ others) here.from ∙ append_assoc (item here.item) (flat_map item here.behind) others)

pub take_whole : {X : Type 0} (n : ℕ) (xs : List X) → length xs ≡ n → take n xs ≡ xs
take_whole zero [] long = refl
take_whole zero (x ∷ xs) long = absurd (omega arith)
take_whole (suc n) [] long = refl
take_whole (suc n) (x ∷ xs) long = ap (λ (ys : List _). x ∷ ys) (take_whole n xs (omega arith))

pub drop_whole : {X : Type 0} (n : ℕ) (xs : List X) → length xs ≡ n → drop n xs ≡ []
drop_whole zero [] long = refl
drop_whole zero (x ∷ xs) long = absurd (omega arith)
drop_whole (suc n) [] long = refl
drop_whole (suc n) (x ∷ xs) long = drop_whole n xs (omega arith)

pub under_all : {X : Type 0} (Fits : X → Type 0) (item : X → List ℕ) (count : ℕ) (bytes left : List ℕ) (items : List X) → count < 2 ^ 32 →
    Under Fits item count count bytes left items → Begins (IsShortList Fits) (list_of item) bytes left items
unfolding list_of
under_all Fits item count bytes left items small under = record {
  fits = (omega (arith, under.long), under.fits);
  spelled = under.spelled ∙ ap (λ n. number n ++ (flat_map item items ++ left)) (sym under.long) ∙ sym (append_assoc (number (length items)) (flat_map item items) left);
  only = λ ys others fit is.
      let so = under.only ys others fit is in
      (sym (take_whole count ys so.0) ∙ so.1, ap (λ (zs : List _). flat_map item zs ++ others) (sym (drop_whole count ys so.0)) ∙ so.2);
}

pub no_count : {X : Type 0} (Fits : X → Type 0) (item : X → List ℕ) (bytes : List ℕ) →
    BeginsNone IsNumber number bytes → BeginsNone (IsShortList Fits) (list_of item) bytes
unfolding list_of
no_count Fits item bytes none ys others fit is =
    none (length ys) (flat_map item ys ++ others) fit.0 (is ∙ append_assoc (number (length ys)) (flat_map item ys) others)

-- A loop over registers

-- what it has gone through, and what is left
pub all_done : (all done left : List ℕ) → all ≡ done ++ left → left ≡ [] → all ≡ done
all_done all done left split none = split ∙ ap (λ rs. done ++ rs) none ∙ append-nil done

pub one_done : (all done left : List ℕ) (r : ℕ) (rest : List ℕ) → all ≡ done ++ left → left ≡ r ∷ rest → all ≡ (done ++ r ∷ []) ++ rest
one_done all done left r rest split first = split ∙ ap (λ rs. done ++ rs) first ∙ sym (append_assoc done (r ∷ []) rest)

-- what is written of one more
pub written_more : (start head done : List ℕ) (r : ℕ) (text new : List ℕ) → text ≡ start ++ (head ++ flat_map number done) → new ≡ text ++ number r → new ≡ start ++ (head ++ flat_map number (done ++ r ∷ []))
written_more start head done r text new so_far h =
    let bytes = flat_map number done in
    let more : flat_map number (done ++ r ∷ []) ≡ bytes ++ number r = flat_map-append number done (r ∷ []) ∙ ap (λ bs. bytes ++ bs) (append-nil (number r)) in
    h
    ∙ ap (λ t. t ++ number r) so_far
    ∙ append_assoc start (head ++ bytes) (number r)
    ∙ ap (λ bs. start ++ bs) (append_assoc head bytes (number r) ∙ ap (λ bs. head ++ bs) (sym more))
