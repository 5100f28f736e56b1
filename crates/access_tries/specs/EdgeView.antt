-- Edges that are borrowed.
use Rattle.access_tries.specs.declared.edge.Edge.{Edge}
use Rattle.access_tries.specs.declared.edge.Edge.TheVariants.{Field, AnyTag, Root}
use Rattle.access_tries.specs.declared.edge.EdgeRef.{EdgeRef}
use Rattle.access_tries.specs.declared.edge.EdgeRef.TheVariants as borrowed

abbrev pub edge_in : EdgeRef → Edge
edge_in (borrowed.Field n) = Field n.now
edge_in borrowed.AnyTag = AnyTag
edge_in (borrowed.Root r) = Root r.now
