-- Tries that hold the same.
use Rattle.std.specs.Prelude.{Bool, true, false, ◌&&◌}
use Rattle.std.specs.Bool.{beq}
use Rattle.access_tries.specs.Edges.{edge_eq}
use Rattle.access_tries.specs.Table.{Table}
use Rattle.access_tries.specs.Trees.{Branch, branch, Branches, no_branches, leading, branch_at, branches_of}

-- the same mark, and the same edges in the same order, each with the same behind it
abbrev mutual
  pub same_branch : Branch → Branch → Bool
  same_branch (branch m bs) (branch n cs) = beq m n && same_branches bs cs

  pub same_branches : Branches → Branches → Bool
  same_branches no_branches no_branches = true
  same_branches no_branches (leading y c cs) = false
  same_branches (leading x b bs) no_branches = false
  same_branches (leading x b bs) (leading y c cs) = (edge_eq x y && same_branch b c) && same_branches bs cs

-- the first nodes lead to the same
abbrev pub same_roots : Table → Table → Bool
same_roots s t = same_branches (branches_of s) (branches_of t)

-- the first nodes are the same; without nodes it is one that leads nowhere
abbrev pub same_tries : Table → Table → Bool
same_tries s t = same_branch (branch_at s 0) (branch_at t 0)
