use Rattle.std.proofs.Common.{◌≡◌, ◌≤◌, ◌++◌, ℕ, List, length, sym, ap, ◌∙◌, subst}
use Rattle.std.specs.List.{flat_map, range_with_len}
use Rattle.generated_text.specs.Text.{head, main_line, ended, generated}
use Rattle.generated_text.proofs.Texts.{function_part, parts_are_whole, generated_length, generated_short}
use Rattle.generated_text.proofs.text.generate.Goals as goal

pub returns : goal.returns
returns c =
    let n = c.args.n in
    let text : c.from.result ≡ generated n =
    c.from.ensures ∙ c.in_ok-put_main.ensures
    ∙ ap (λ t. t ++ ended (main_line n)) (c.in_ok-put_functions.ensures
    ∙ ap (λ t. t ++ flat_map function_part (range_with_len 0 n)) (c.in_ok-put_head.ensures
    ∙ ap (λ t. t ++ flat_map ended head) c.new-text.ensures.items))
    ∙ parts_are_whole n in
    record {
      text = text;
      length = ap length text ∙ generated_length n;
      short = subst (λ (t : List ℕ). length t ≤ 1048576) (sym text) (generated_short n c.requires.1);
    }
