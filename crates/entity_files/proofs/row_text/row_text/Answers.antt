use Rattle.entity_files.proofs.Floats.{row_written}
use Rattle.entity_files.proofs.row_text.row_text.Goals as goal

pub returns : goal.returns
returns c = row_written c.args.entity.now _ c.to_string.result c.in_ok-write_row.ensures c.to_string.ensures.text
