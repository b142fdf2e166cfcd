-- What is answered for the bytes of a file that is executed.
use Rattle.std.proofs.Common.{◌≡◌, ◌≤◌, ◌<◌, ◌+◌, ℕ, List, [], ◌∷◌, Option, Some, None, cond, Err, inl, inr, refl, sym, ap, subst, arith, get_or, length}
use Rattle.std.specs.Prelude.{MatchBool}
use Rattle.std.proofs.lemmas.Bool.{le-ltb, lt-ltb}
use Rattle.hs_base.specs.declared.outside.Texts as reading
use Rattle.flat_code.specs.WellFormed.{IsWellFormed}
use Rattle.meaning_laws.specs.code.Laws.{HoldsBytes}
use Rattle.code_file.specs.declared.file.CodeFile.{CodeFile}
use Rattle.code_file.specs.CodeFile.{HasBytes, IsFileOf, IsRanged, IsRangedStatic}
use Rattle.heapsafe.specs.declared.executing.Asked.{Asked}
use Rattle.hs_base.specs.declared.reading.ReadError.{ReadError}
use Rattle.hs_base.specs.declared.reading.ReadError.TheVariants.{Fault, TooLong, NoMemory}
use Rattle.heapsafe.specs.Execution.{AnswersBytes, AnswersCode, AnswersExecution, AnswersVerified, asked_of, most_bytes}
use Rattle.heapsafe.specs.Program.{Input}
use Rattle.hs_base.specs.ReadAll.{ReadCounts, Reads}
use Rattle.heapsafe.specs.Saying.{SaysOnly, unread}
use Rattle.heapsafe.specs.Serving.{Obeys}
use Rattle.heapsafe.specs.Sight.{Sight}
use Rattle.heapsafe.proofs.Served.{IsLine, memory_line, obeys_fault, obeys_said}
use Rattle.heapsafe.proofs.Statuses.{no_fault}
use Rattle.heapsafe.specs.Shown.{Shown, bad_code, no_memory, text_too_long, unverified}

-- the numbers of a file are those of their types, and so its statics hold bytes
pub ranged_bytes : (file : CodeFile) → IsRanged file → HoldsBytes file.code
ranged_bytes file ranged = λ k d h. let one : IsRangedStatic (get_or file.code.statics k d) = ranged.code.statics k d h in one.1

module _ (name : List ℕ) (input : Input) (asked : Asked) (a : Shown) where
  -- code that is well formed, or not
  pub is_verified : (file : CodeFile) → IsWellFormed file.code → AnswersCode name file input asked a → AnswersVerified name file input asked a
  is_verified file formed is = record { refused = λ not. absurd (not formed); verified = λ _. is }

  pub is_unverified : (file : CodeFile) → (IsWellFormed file.code → ⊥) → a ≡ unverified name → AnswersVerified name file input asked a
  is_unverified file not is = record { refused = λ _. is; verified = λ formed. absurd (not formed) }

  -- bytes that a file has, or none
  pub is_read : (bytes : List ℕ) (file : CodeFile) → IsFileOf bytes file → AnswersVerified name file input asked a → AnswersBytes name bytes input asked a
  is_read bytes file of is = record {
    refused = λ none. absurd (none file of.has);
    read = λ other has. subst (λ (f : CodeFile). AnswersVerified name f input asked a) (sym (of.only other has)) is;
  }

  pub is_refused : (bytes : List ℕ) → ((file : CodeFile) → HasBytes bytes file → ⊥) → a ≡ bad_code name → AnswersBytes name bytes input asked a
  is_refused bytes none is = record { refused = λ _. is; read = λ file has. absurd (none file has) }

  -- as many bytes as may be, or too many
  pub is_short : (bytes : List ℕ) → length bytes ≤ most_bytes → AnswersBytes name bytes input asked a → AnswersExecution name bytes input asked a
  is_short bytes short is = subst (λ b. MatchBool b (a ≡ text_too_long name) (AnswersBytes name bytes input asked a)) (sym (le-ltb most_bytes (length bytes) short)) is

  pub short_is : (bytes : List ℕ) → length bytes ≤ most_bytes → AnswersExecution name bytes input asked a → AnswersBytes name bytes input asked a
  short_is bytes short is = subst (λ b. MatchBool b (a ≡ text_too_long name) (AnswersBytes name bytes input asked a)) (le-ltb most_bytes (length bytes) short) is

  pub is_long : (bytes : List ℕ) → most_bytes < length bytes → a ≡ text_too_long name → AnswersExecution name bytes input asked a
  is_long bytes long is = subst (λ b. MatchBool b (a ≡ text_too_long name) (AnswersBytes name bytes input asked a)) (sym (lt-ltb most_bytes (length bytes) long)) is

  pub long_is : (bytes : List ℕ) → most_bytes < length bytes → AnswersExecution name bytes input asked a → a ≡ text_too_long name
  long_is bytes long is = subst (λ b. MatchBool b (a ≡ text_too_long name) (AnswersBytes name bytes input asked a)) (lt-ltb most_bytes (length bytes) long) is

pub code_line : (name : List ℕ) → IsLine (bad_code name)
code_line name = record {
  silent = record { read = refl; out = refl };
  wants = λ h. absurd (omega (arith, h));
  fair = λ is. no_fault 136 (λ h. omega (arith, h)) (λ h. omega (arith, h)) (λ h. omega (arith, h)) is;
}

pub unverified_line : (name : List ℕ) → IsLine (unverified name)
unverified_line name = record {
  silent = record { read = refl; out = refl };
  wants = λ h. absurd (omega (arith, h));
  fair = λ is. no_fault 137 (λ h. omega (arith, h)) (λ h. omega (arith, h)) (λ h. omega (arith, h)) is;
}

pub long_line : (name : List ℕ) → IsLine (text_too_long name)
long_line name = record {
  silent = record { read = refl; out = refl };
  wants = λ h. absurd (omega (arith, h));
  fair = λ is. no_fault 122 (λ h. omega (arith, h)) (λ h. omega (arith, h)) (λ h. omega (arith, h)) is;
}

-- a file that was not read: its line was said
module _ {T I O E : Type 0} (of : reading.Ghosts T) (texts texts' : T) (before after : Sight I O E) (result : ℕ) (name : List ℕ) (asked : Asked) where
  pub unread_obeys : (error : ReadError) → ((told : List ℕ → List ℕ) → of.texts texts ≡ Some told → Reads (told name) most_bytes (Err error)) → ReadCounts {T = List ℕ} (of.faults texts) (of.faults texts') (Err error) →
      SaysOnly (unread error name) before after result → Obeys of (asked_of name asked) texts texts' before after result
  unread_obeys Fault reads counts said =
      obeys_fault of texts texts' before after result (asked_of name asked) name counts
      (ap (λ b. cond b (Some (name ∷ [])) None) (lt-ltb (of.faults texts) (of.faults texts') (omega (arith, counts)))) (inl (0, omega arith, refl)) said
  unread_obeys TooLong reads counts said =
      obeys_said of texts texts' before after result (asked_of name asked) (text_too_long name) (long_line name) counts
      (λ told k i. inl (is_long name i asked (text_too_long name) (told name) (reads told k) refl)) (λ told k i a is. inl (long_is name i asked a (told name) (reads told k) is)) said
  unread_obeys NoMemory reads counts said =
      obeys_said of texts texts' before after result (asked_of name asked) no_memory memory_line counts (λ told k i. inr refl) (λ told k i a is. inr refl) said
