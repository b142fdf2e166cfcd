-- A file, from its parts.
use Rattle.std.proofs.Common.{◌≡◌, ◌≢◌, ◌++◌, ℕ, List, [], Err, codes, sym, ap, ◌∙◌, subst, append_assoc}
use Rattle.std.proofs.lemmas.List.{append-nil}
use Rattle.core_tree.specs.declared.program.Core.{Core}
use Rattle.flat_code.specs.declared.program.Code.{Code}
use Rattle.code_file.specs.declared.file.CodeError.{CodeError}
use Rattle.code_file.specs.declared.file.CodeError.TheVariants as error
use Rattle.code_file.specs.declared.file.CodeFile.{CodeFile}
use Rattle.code_file.specs.Spelling.{Begins, Reads}
use Rattle.code_file.specs.CodeFile.{HasBytes, IsFileOf, code_bytes, spelling}
use Rattle.code_file.specs.Parts.{FitsCode, FitsFile, FitsNames, names_bytes}
use Rattle.code_file.proofs.Ranges.{file_fits, file_ranged, file_writable}
use Rattle.code_file.proofs.Reading.{BeginsNone}

abbrev pub IsMagic : Unit {0} → Type 0
IsMagic u = Unit {0}

abbrev pub magic : Unit {0} → List ℕ
magic u = codes "HSCODE01"

pub no_magic : (bytes : List ℕ) → BeginsNone IsMagic magic bytes → BeginsNone FitsFile spelling bytes
no_magic bytes none file others fits is = none tt ((code_bytes file.code ++ names_bytes file.names) ++ others) tt is

pub a_file : (bytes middle behind rest : List ℕ) (code : Code) (names : Core) → Begins IsMagic magic bytes middle tt → Begins FitsCode code_bytes middle behind code →
    Begins (FitsNames code) names_bytes behind rest names → Begins FitsFile spelling bytes rest (record { code = code; names = names })
a_file bytes middle behind rest code names first second third = record {
  fits = record { code = second.fits; names = third.fits };
  spelled = first.spelled ∙ ap (λ (s : List ℕ). codes "HSCODE01" ++ s)
      (second.spelled ∙ ap (λ (s : List ℕ). code_bytes code ++ s) third.spelled ∙ sym (append_assoc (code_bytes code) (names_bytes names) rest));
  only = λ file others fits is.
      let x = first.only tt ((code_bytes file.code ++ names_bytes file.names) ++ others) tt is in
      let y = second.only file.code (names_bytes file.names ++ others) fits.code (sym x.1 ∙ append_assoc (code_bytes file.code) (names_bytes file.names) others) in
      let z = third.only file.names others (subst (λ (c : Code). FitsNames c file.names) y.0 fits.names) (sym y.1) in
      let with_code : Code → CodeFile = λ c. record { code = c; names = file.names } in
      let with_names : Core → CodeFile = λ n. record { code = code; names = n } in
      (ap with_code y.0 ∙ ap with_names z.0, z.1);
}

-- the whole of the bytes

pub no_file : (bytes front rest : List ℕ) (e : CodeError) → front ≡ bytes → Reads FitsFile spelling front rest (Err e) → e ≡ error.Form →
    (file : CodeFile) → HasBytes bytes file → ⊥
no_file bytes front rest e all says is file has =
    let none : BeginsNone FitsFile spelling front = subst (λ a. Reads FitsFile spelling front rest (Err a)) is says in
    none file [] (file_fits file has.writable has.ranged) (all ∙ sym has.spelled ∙ sym (append-nil (spelling file)))

pub more_is_left : (bytes front rest : List ℕ) (read : CodeFile) → front ≡ bytes → Begins FitsFile spelling front rest read → rest ≢ [] →
    (file : CodeFile) → HasBytes bytes file → ⊥
more_is_left bytes front rest read all begins more file has =
    more (sym (begins.only file [] (file_fits file has.writable has.ranged) (all ∙ sym has.spelled ∙ sym (append-nil (spelling file)))).1)

pub nothing_is_left : (bytes front rest : List ℕ) (read : CodeFile) → front ≡ bytes → Begins FitsFile spelling front rest read → rest ≡ [] → IsFileOf bytes read
nothing_is_left bytes front rest read all begins none = record {
  has = record {
    writable = file_writable read begins.fits;
    ranged = file_ranged read begins.fits;
    spelled = sym (append-nil (spelling read)) ∙ ap (λ (s : List ℕ). spelling read ++ s) (sym none) ∙ sym begins.spelled ∙ all;
  };
  only = λ file has.
      (begins.only file [] (file_fits file has.writable has.ranged) (all ∙ sym has.spelled ∙ sym (append-nil (spelling file)))).0;
}
