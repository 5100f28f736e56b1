use Rattle.std.proofs.Common.{◌++◌, string_bytes, ap, sym, ◌∙◌, append_assoc}
use Rattle.std.specs.Prelude.{codes}
use Rattle.json_response.specs.SliceJson.{response_text}
use Rattle.json_response.proofs.slices.response_text.Goals as goal

pub returns : goal.returns
unfolding response_text
returns c =
    c.in_ok-push_str.ensures.bytes
    ∙ sym (append_assoc (string_bytes c.in_ok-text.text) (codes "}") (codes "\n"))
    ∙ ap (λ s. s ++ codes "\n") c.in_ok-text.ensures
