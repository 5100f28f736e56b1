use Rattle.std.proofs.Common.{◌+◌, ◌*◌}
use Rattle.propositions.proofs.search.Search.+search.Given as goal

abbrev pub decreases-holds_either_way : goal.decreases-holds_either_way
decreases-holds_either_way l = 2 * l.depth + 1

abbrev pub decreases-holds_where_supposed : goal.decreases-holds_where_supposed
decreases-holds_where_supposed l = 2 * l.depth
