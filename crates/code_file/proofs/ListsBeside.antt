-- A list that is read item by item, beside a list that is known.
use Rattle.std.proofs.Common.{◌≡◌, ◌<◌, ◌+◌, ◌^◌, ◌≢◌, ℕ, zero, suc, List, [], ◌∷◌, ◌++◌, length, get_or, take, drop, refl, sym, ap, ◌∙◌, subst, append_assoc, add-one, arith}
use Rattle.std.specs.List.{AllZip, flat_map}
use Rattle.std.proofs.lemmas.List.{flat_map_more, length_push, take_more}
use Rattle.std.proofs.lemmas.Slice.Zip.{AllZip-long}
use Rattle.code_file.specs.Spelling.{Begins, IsNumber, list_of, number}
use Rattle.code_file.specs.Parts.{IsShortBeside}
use Rattle.code_file.proofs.Lists.{At, drop_whole, take_whole}
use Rattle.code_file.proofs.Reading.{BeginsNone}

pub at_beside : {K X : Type 0} (R : K → X → Type 0) (ks : List K) (xs : List X) (n : ℕ) (k : K) → AllZip R ks xs → k ≡ get_or ks n k → n < length ks → At (R k) xs n
at_beside R [] xs n k zip is inside = absurd (omega arith)
at_beside R (c ∷ ks) [] n k zip is inside = absurd zip
at_beside R (c ∷ ks) (x ∷ xs) zero k zip is inside =
    record { item = x; behind = xs; from = refl; next = refl; until = refl; holds = subst (λ d. R d x) (sym is) zip.0 }
at_beside R (c ∷ ks) (x ∷ xs) (suc n) k zip is inside =
    let rest = at_beside R ks xs n k zip.1 is (omega arith) in
    record {
      item = rest.item;
      behind = rest.behind;
      from = rest.from;
      next = ap (λ m. drop m (x ∷ xs)) (add-one (suc n)) ∙ ap (λ m. drop m xs) (sym (add-one n)) ∙ rest.next;
      until = ap (λ m. take m (x ∷ xs)) (add-one (suc n)) ∙ ap (λ m. x ∷ take m xs) (sym (add-one n)) ∙ ap (λ (ys : List _). x ∷ ys) rest.until;
      holds = rest.holds;
    }

zip_push : {K X : Type 0} (R : K → X → Type 0) (ks : List K) (xs : List X) (k : K) (x : X) → AllZip R ks xs → R k x → AllZip R (ks ++ k ∷ []) (xs ++ x ∷ [])
zip_push R [] [] k x zip one = (one, tt)
zip_push R [] (y ∷ xs) k x zip one = absurd zip
zip_push R (c ∷ ks) [] k x zip one = absurd zip
zip_push R (c ∷ ks) (y ∷ xs) k x zip one = (zip.0, zip_push R ks xs k x zip.1 one)

-- so many items are read
pub record Along {K X : Type 0} (Fits : K → X → Type 0) (item : X → List ℕ) (known : List K) (done : ℕ) (bytes left : List ℕ) (items : List X) : Type 0 where
  pub long : length items ≡ done
  pub fits : AllZip Fits (take done known) items
  pub short : length known < 2 ^ 32
  pub spelled : bytes ≡ number (length known) ++ (flat_map item items ++ left)
  pub only : (ys : List X) (others : List ℕ) → IsShortBeside Fits known ys → bytes ≡ list_of item ys ++ others → (take done ys ≡ items) × (flat_map item (drop done ys) ++ others ≡ left)

pub along_none : {K X : Type 0} (Fits : K → X → Type 0) (item : X → List ℕ) (known : List K) (count : ℕ) (bytes left : List ℕ) → count ≡ length known →
    Begins IsNumber number bytes left count → Along Fits item known 0 bytes left []
unfolding list_of
along_none Fits item known count bytes left all first = record {
  long = refl;
  fits = tt;
  short = subst (λ n. n < 2 ^ 32) all first.fits;
  spelled = first.spelled ∙ ap (λ n. number n ++ left) all;
  only = λ ys others fit is.
      let one = first.only (length ys) (flat_map item ys ++ others) fit.0 (is ∙ append_assoc (number (length ys)) (flat_map item ys) others) in
      (refl, one.1);
}

pub along_more : {K X : Type 0} (Fits : K → X → Type 0) (item : X → List ℕ) (known : List K) (done : ℕ) (bytes left after : List ℕ) (items : List X) (k : K) (x : X) → done < length known → k ≡ get_or known done k →
    Along Fits item known done bytes left items → Begins (Fits k) item left after x → Along Fits item known (done + 1) bytes after (items ++ x ∷ [])
along_more Fits item known done bytes left after items k x inside is so_far next = record {
  long = length_push items x ∙ ap (λ n. n + 1) so_far.long;
  fits =
      subst (λ (ks : List _). AllZip Fits ks (items ++ x ∷ [])) (ap (λ c. take done known ++ c ∷ []) is ∙ sym (take_more known done k inside))
      (zip_push Fits (take done known) items k x so_far.fits next.fits);
  short = so_far.short;
  spelled = so_far.spelled ∙ ap (λ (s : List ℕ). number (length known) ++ s)
      (ap (λ (s : List ℕ). flat_map item items ++ s) next.spelled ∙ sym (append_assoc (flat_map item items) (item x) after)
      ∙ ap (λ (s : List ℕ). s ++ after) (flat_map_more item [] items x));
  only = λ ys others fit that.
      let so = so_far.only ys others fit that in
      let here = at_beside Fits known ys done k fit.1 is inside in
      let one = next.only here.item (flat_map item here.behind ++ others) here.holds
      (sym so.1 ∙ ap (λ (zs : List _). flat_map item zs ++ others) here.from ∙ append_assoc (item here.item) (flat_map item here.behind) others) in
      (here.until ∙ ap (λ (zs : List _). zs ++ here.item ∷ []) so.0 ∙ ap (λ y. items ++ y ∷ []) one.0, ap (λ (zs : List _). flat_map item zs ++ others) here.next ∙ one.1);
}

pub along_stops : {K X : Type 0} (Fits : K → X → Type 0) (item : X → List ℕ) (known : List K) (done : ℕ) (bytes left : List ℕ) (items : List X) (k : K) → done < length known → k ≡ get_or known done k →
    Along Fits item known done bytes left items → BeginsNone (Fits k) item left → BeginsNone (IsShortBeside Fits known) (list_of item) bytes
along_stops Fits item known done bytes left items k inside is so_far none ys others fit that =
    let so = so_far.only ys others fit that in
    let here = at_beside Fits known ys done k fit.1 is inside in
    none here.item (flat_map item here.behind ++ others) here.holds
    (sym so.1 ∙ ap (λ (zs : List _). flat_map item zs ++ others) here.from ∙ append_assoc (item here.item) (flat_map item here.behind) others)

pub along_all : {K X : Type 0} (Fits : K → X → Type 0) (item : X → List ℕ) (known : List K) (done : ℕ) (bytes left : List ℕ) (items : List X) → length known ≡ done →
    Along Fits item known done bytes left items → Begins (IsShortBeside Fits known) (list_of item) bytes left items
unfolding list_of
along_all Fits item known done bytes left items all so_far = record {
  fits = (subst (λ n. n < 2 ^ 32) (all ∙ sym so_far.long) so_far.short, subst (λ (ks : List _). AllZip Fits ks items) (take_whole done known all) so_far.fits);
  spelled = so_far.spelled ∙ ap (λ n. number n ++ (flat_map item items ++ left)) (all ∙ sym so_far.long) ∙ sym (append_assoc (number (length items)) (flat_map item items) left);
  only = λ ys others fit that.
      let so = so_far.only ys others fit that in
      let long : length ys ≡ done = AllZip-long Fits known ys fit.1 ∙ all in
      (sym (take_whole done ys long) ∙ so.0, ap (λ (zs : List _). flat_map item zs ++ others) (sym (drop_whole done ys long)) ∙ so.1);
}

pub no_count_beside : {K X : Type 0} (Fits : K → X → Type 0) (item : X → List ℕ) (known : List K) (bytes : List ℕ) →
    BeginsNone IsNumber number bytes → BeginsNone (IsShortBeside Fits known) (list_of item) bytes
unfolding list_of
no_count_beside Fits item known bytes none ys others fit is =
    none (length ys) (flat_map item ys ++ others) fit.0 (is ∙ append_assoc (number (length ys)) (flat_map item ys) others)

pub other_count : {K X : Type 0} (Fits : K → X → Type 0) (item : X → List ℕ) (known : List K) (count : ℕ) (bytes left : List ℕ) → count ≢ length known →
    Begins IsNumber number bytes left count → BeginsNone (IsShortBeside Fits known) (list_of item) bytes
unfolding list_of
other_count Fits item known count bytes left differ first ys others fit is =
    let one = first.only (length ys) (flat_map item ys ++ others) fit.0 (is ∙ append_assoc (number (length ys)) (flat_map item ys) others) in
    differ (sym one.0 ∙ AllZip-long Fits known ys fit.1)
