-- A text whose types are refused.
use Rattle.std.proofs.Common.{◌≡◌, ◌⊎◌, inl, inr, ℕ, List, Ok, Err, refl, sym, subst, arith}
use Rattle.c_pre.specs.declared.answer.Opened.{Opened}
use Rattle.c_decls.specs.Refusals.{Checked, Meets, Refusal}
use Rattle.c_decls.specs.declared.refusal.TypeError.{TypeError}
use Rattle.c_decls.specs.declared.refusal.TypeError.TheVariants.{Bad, NoMemory}
use Rattle.heapsafe.specs.Shown.{Shown, bad_type, no_memory}
use Rattle.heapsafe.specs.Program.{Input}
use Rattle.heapsafe.specs.Saying.{SaysOnly, untyped}
use Rattle.heapsafe.specs.Serving.{Serves}
use Rattle.heapsafe.specs.Sight.{Sight}
use Rattle.heapsafe.proofs.Served.{IsLine, serves_none, serves_said}
use Rattle.heapsafe.proofs.Statuses.{no_fault}

type_line : (opened : List Opened) (refusal : Refusal) → IsLine (bad_type opened refusal)
type_line opened refusal = record {
  silent = record { read = refl; out = refl };
  wants = λ h. absurd (omega (arith, h));
  fair = λ is. no_fault 125 (λ h. omega (arith, h)) (λ h. omega (arith, h)) (λ h. omega (arith, h)) is;
}

-- the refusal is the only answer of such a text, or memory was wanted
pub serves_untyped : {A I O E : Type 0} (before after : Sight I O E) (result : ℕ) (One MeansNone RunsNone : Type 0) (error : TypeError) (opened : List Opened) (wanted : Checked A) (Is : Input → Checked A → Shown → Type 0) →
    ((i : Input) (refusal : Refusal) → Is i (Err refusal) (bad_type opened refusal)) →
    ((i : Input) (refusal : Refusal) (a : Shown) → Is i (Err refusal) a → a ≡ bad_type opened refusal) →
    Meets {A = A} (λ x. x) (Err error) wanted → SaysOnly (untyped error opened) before after result → Serves One MeansNone RunsNone (λ i a. Is i wanted a) before after result
serves_untyped {A = A} before after result One MeansNone RunsNone (Bad kind line) opened wanted Is to from meets said =
    let refusal : Refusal = record { kind = kind; line = line } in
    subst (λ (w : Checked A). Serves One MeansNone RunsNone (λ i a. Is i w a) before after result) (sym meets)
    (serves_said before after result One MeansNone RunsNone (λ i a. Is i (Err refusal) a) (bad_type opened refusal) (type_line opened refusal) (λ i. inl (to i refusal)) (λ i a is. inl (from i refusal a is)) said)
serves_untyped before after result One MeansNone RunsNone NoMemory opened wanted Is to from meets said =
    serves_none before after result One MeansNone RunsNone (λ i a. Is i wanted a) said
