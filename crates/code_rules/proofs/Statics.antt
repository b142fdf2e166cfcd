-- What a static holds first.
use Rattle.std.proofs.Common.{◌≡◌, ◌<◌, ◌≤◌, ◌+◌, ℕ, List, length, unwrap_or, sym, subst}
use Rattle.std.specs.List.{All, Contains, slice_get}
use Rattle.c_types.specs.declared.layouts.Layout.{Layout}
use Rattle.flat_code.specs.declared.program.Code.{Code}
use Rattle.flat_code.specs.declared.program.StaticInit.{StaticInit}
use Rattle.flat_code.specs.WellFormed.{IsFirst, IsTarget}
use Rattle.code_rules.proofs.Distinct.{AreDistinct}

abbrev pub AreZero : List ℕ → List ℕ → Type 0
AreZero bytes slots = All (λ slot. (k : ℕ) → k < 4 → unwrap_or (slice_get bytes (slot + k)) 0 ≡ 0) slots

abbrev pub AtSlots : List (ℕ × ℕ × ℕ) → List ℕ → Type 0
AtSlots pointers slots = All (λ (p : ℕ × ℕ × ℕ). Contains slots p.0) pointers

pub first_holds : (code : Code) (item : StaticInit) (l : Layout) (bytes slots : List ℕ) (pointers : List (ℕ × ℕ × ℕ)) → bytes ≡ item.bytes → slots ≡ l.slots → pointers ≡ item.pointers →
    length bytes ≤ l.size → AreZero bytes slots → AtSlots pointers slots → AreDistinct pointers → All (IsTarget code) pointers → IsFirst code item l
first_holds code item l bytes slots pointers bytes_is slots_is pointers_is inside zero at distinct targets = record {
  inside = subst (λ (b : List ℕ). length b ≤ l.size) bytes_is inside;
  zeros = subst (AreZero item.bytes) slots_is (subst (λ (b : List ℕ). AreZero b slots) bytes_is zero);
  slots = subst (AtSlots item.pointers) slots_is (subst (λ (p : List (ℕ × ℕ × ℕ)). AtSlots p slots) pointers_is at);
  distinct = subst AreDistinct pointers_is distinct;
  targets = subst (All (IsTarget code)) pointers_is targets;
}

pub first_slots : (code : Code) (item : StaticInit) (l : Layout) (slots : List ℕ) (pointers : List (ℕ × ℕ × ℕ)) → slots ≡ l.slots → pointers ≡ item.pointers → IsFirst code item l → AtSlots pointers slots
first_slots code item l slots pointers slots_is pointers_is first =
    subst (λ (p : List (ℕ × ℕ × ℕ)). AtSlots p slots) (sym pointers_is) (subst (AtSlots item.pointers) (sym slots_is) first.slots)

pub first_targets : (code : Code) (item : StaticInit) (l : Layout) (pointers : List (ℕ × ℕ × ℕ)) → pointers ≡ item.pointers → IsFirst code item l → All (IsTarget code) pointers
first_targets code item l pointers pointers_is first = subst (All (IsTarget code)) (sym pointers_is) first.targets
