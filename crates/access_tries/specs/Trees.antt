-- What a table's nodes hold, as plain trees.
use Rattle.std.specs.Prelude.{ℕ, zero, suc, Bool, false, ◌&&◌, ◌||◌, List, [], ◌∷◌, length, slice_get}
use Rattle.access_tries.specs.declared.edge.Edge.{Edge}
use Rattle.access_tries.specs.declared.table.Link.{Link}
use Rattle.access_tries.specs.Edges.{Address, edge_eq}
use Rattle.access_tries.specs.Table.{Table, links_at, has_mark}

mutual
  -- a node: whether it is marked, and where it leads
  pub data Branch : Type 0 where
    branch : Bool → Branches → Branch

  pub data Branches : Type 0 where
    no_branches : Branches
    leading : Edge → Branch → Branches → Branches

-- where links lead, if f says what each node is
abbrev pub branches_by : (ℕ → Branch) → List Link → Branches
branches_by f [] = no_branches
branches_by f (l ∷ ls) = leading l.edge (f l.number) (branches_by f ls)

-- the node with this number, to this depth
abbrev pub branch_within : ℕ → Table → ℕ → Branch
branch_within zero ns i = branch false no_branches
branch_within (suc k) ns i =
    branch (has_mark (slice_get ns i)) (branches_by (branch_within k ns) (links_at ns i))

-- all of the node: as each link leads to a later node, none is deeper than there are nodes
unfoldable pub branch_at : Table → ℕ → Branch
branch_at ns i = branch_within (length ns) ns i

-- where the first node of a table leads
abbrev pub branches_of : Table → Branches
branches_of ns = branches_by (branch_at ns) (links_at ns 0)

-- whether the edges lead from a node, along one of these branches, to one whose mark passes the test
abbrev mutual
  pub passes : (Bool → Bool) → Branch → Address → Bool
  passes f (branch m bs) [] = f m
  passes f (branch m bs) (e ∷ es) = some_passes f bs e es

  pub some_passes : (Bool → Bool) → Branches → Edge → Address → Bool
  some_passes f no_branches e es = false
  some_passes f (leading x b bs) e es = (edge_eq x e && passes f b es) || some_passes f bs e es
