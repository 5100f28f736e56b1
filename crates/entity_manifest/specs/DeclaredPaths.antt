-- Tries whose paths a schema declares.
use Rattle.std.specs.Prelude.{◌≡◌, Bool, true, false, IfSome, IsTrue}
use Rattle.schema_types.specs.Ty.{Ty, never, any_entity, entity, action}
use Rattle.schema_core.specs.EnvData.{EnvData}
use Rattle.schema_core.specs.Schema.{SchemaData}
use Rattle.access_tries.specs.Paths.{AccessPath, has_path, asks}
use Rattle.access_tries.specs.Table.{Table}
use Rattle.reads_spec.specs.PathTypes.{path_type, is_declared_path}

-- whether no value but an id is of the type
abbrev pub is_of_ids : Ty → Bool
is_of_ids never = true
is_of_ids any_entity = true
is_of_ids (entity ns) = true
is_of_ids (action n xs) = true
is_of_ids t = false

-- each path is declared in the environment, and ancestors are asked for only where a path leads to ids
pub record IsDeclaredTrie (schema : SchemaData) (env : EnvData) (t : Table) : Type 0 where
  pub paths : (p : AccessPath) → has_path t p ≡ true → is_declared_path schema env p ≡ true
  pub asked : (p r : AccessPath) → asks t p r ≡ true →
      IfSome (path_type schema env p) (λ u. IsTrue (is_of_ids u))
