use Rattle.json_schema.proofs.Named.{extension_is_name}
use Rattle.json_schema.proofs.types.read_named.Goals as goal

pub read_extension-requires : goal.read_extension-requires
read_extension-requires c = extension_is_name c.args.text.now c.in-decimal.is
