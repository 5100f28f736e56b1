use Rattle.json_response.proofs.Pieces.{slice_pieces}
use Rattle.json_response.proofs.slices.slice_text.Goals as goal

pub returns : goal.returns
returns c =
    rw (c.in_ok-push_str-2.ensures.bytes, c.in_ok-append_entities.ensures, c.in_ok-push_str.ensures.bytes)
    (slice_pieces c.args.response.now c.args.entities.now _ c.in_ok-text.ensures)
