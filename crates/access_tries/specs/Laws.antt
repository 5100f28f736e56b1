-- What holds of all tries.
use Rattle.std.specs.Prelude.{◌≡◌}
use Rattle.access_tries.specs.Table.{Table, IsTable}
use Rattle.access_tries.specs.Trees.{branch_at, branches_of}
use Rattle.access_tries.specs.Paths.{IsSame, IsUnion}

-- unions in any order are the same
pub record UnionsAgree : Type 0 where
  pub commute : (a b t u : Table) → IsUnion a b t → IsUnion b a u → IsSame t u
  pub associate : (a b c ab bc t u : Table) → IsUnion a b ab →
      IsUnion ab c t → IsUnion b c bc → IsUnion a bc u → IsSame t u
  pub repeat : (a t : Table) → IsUnion a a t → IsSame t a

-- tables with the same paths and marks are equal tries
pub record SameTriesAreEqual : Type 0 where
  pub roots : (s t : Table) → IsTable s → IsTable t → IsSame s t → branches_of s ≡ branches_of t
  pub nodes : (s t : Table) → IsTable s → IsTable t → IsSame s t → branch_at s 0 ≡ branch_at t 0
