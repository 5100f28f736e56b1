use Rattle.std.proofs.Common.{drop, true, false, sym, ap, ◌∙◌, arith, take_all, length-drop}
use Rattle.fast_float.specs.Text.{scan}
use Rattle.serde_json.specs.Read.{number_of, number_from}
use Rattle.json_trees.proofs.numbers.number_of.Goals as goal

pub returns-then-is_signed : goal.returns-then-is_signed
unfolding number_of
returns-then-is_signed c =
    let bytes = c.as_bytes-bytes.result.now in
    let behind = take_all _ (drop 1 bytes) (omega (arith, length-drop 1 bytes)) in
    rw (← c.as_bytes-bytes.ensures.value, sym c.if-is_signed.ensures.sign)
    (c.below_zero.ensures ∙ ap (number_from true) (c.scan.ensures.parts ∙ ap scan behind))

pub returns-else-is_signed : goal.returns-else-is_signed
unfolding number_of
returns-else-is_signed c =
    rw (← c.as_bytes-bytes.ensures.value, sym c.if-is_signed.ensures.sign)
    (c.from_zero.ensures ∙ ap (number_from false) c.scan-else-is_signed.ensures.parts)
