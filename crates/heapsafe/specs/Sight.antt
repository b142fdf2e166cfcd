-- What is seen of three streams at a time, and in which form things are said on the error stream.
use Rattle.std.specs.Prelude.{◌≡◌, ◌+◌, ◌<◌, ◌^◌, ℕ, List, Option}
use Rattle.bad_free_report.specs.declared.form.Form.{Form}
use Rattle.hs_base.specs.declared.outside.Sink as sink
use Rattle.hs_base.specs.declared.outside.Source as source

-- the streams, what they tell, and how often each failed: of the input the bytes that are left, of the output and of the error stream
-- those that were taken; and the form
pub record Sight (I O E : Type 0) : Type 0 where
  pub input : I
  pub left : Option (List ℕ)
  pub input_faults : ℕ
  pub out : O
  pub taken : Option (List ℕ)
  pub out_faults : ℕ
  pub err : E
  pub said : Option (List ℕ)
  pub err_faults : ℕ
  pub form : Form

-- three streams as they are seen: of the traits that they meet come what each tells, and how often it failed
abbrev pub see : {I O E : Type 0} → Form → source.Ghosts I → sink.Ghosts O → sink.Ghosts E → I → O → E → Sight I O E
see form inputs outs errs input out err = record {
  input = input;
  left = inputs.left input;
  input_faults = inputs.faults input;
  out = out;
  taken = outs.taken out;
  out_faults = outs.faults out;
  err = err;
  said = errs.taken err;
  err_faults = errs.faults err;
  form = form;
}

-- the count of each has room for one failure more
pub record HasRoom {I O E : Type 0} (sight : Sight I O E) : Type 0 where
  pub input : sight.input_faults + 1 < 2 ^ 64
  pub out : sight.out_faults + 1 < 2 ^ 64
  pub err : sight.err_faults + 1 < 2 ^ 64

-- the input is as before
pub record KeepsInput {I O E : Type 0} (before after : Sight I O E) : Type 0 where
  pub input : after.input ≡ before.input
  pub left : after.left ≡ before.left
  pub faults : after.input_faults ≡ before.input_faults

-- the output is
pub record KeepsOut {I O E : Type 0} (before after : Sight I O E) : Type 0 where
  pub out : after.out ≡ before.out
  pub taken : after.taken ≡ before.taken
  pub faults : after.out_faults ≡ before.out_faults

-- both are, and so is the form
pub record KeepsBoth {I O E : Type 0} (before after : Sight I O E) : Type 0 where
  pub input : KeepsInput before after
  pub out : KeepsOut before after
  pub form : after.form ≡ before.form
