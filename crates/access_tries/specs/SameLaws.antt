-- Trees that pass for the same are equal.
use Rattle.std.proofs.Common.{◌≡◌, ◌↔◌, IsTrue, Bool, true, false, ◌&&◌, refl, sym, ap, ◌∙◌}
use Rattle.std.specs.Bool.{beq, Decides}
use Rattle.std.specs.Ordering.{is_eq}
use Rattle.std.specs.Cmp.{IsEquivalence, decided, on_equiv, tied_itself, booleans_Decides}
use Rattle.policy_values.specs.Ties.{equal_of}
use Rattle.access_tries.specs.declared.edge.Edge.{Edge}
use Rattle.access_tries.specs.Edges.{edge_cmp, edge_eq}
use Rattle.access_tries.specs.Trees.{Branch, branch, Branches, no_branches, leading, branch_at, branches_of}
use Rattle.access_tries.specs.Same.{same_branch, same_branches, same_roots, same_tries}
use Rattle.access_tries.specs.EdgeLaws.{edge_total, exact_edge}

first_of_two : (a b : Bool) → (a && b) ≡ true → a ≡ true
first_of_two true b h = refl
first_of_two false b h = h

second_of_two : (a b : Bool) → (a && b) ≡ true → b ≡ true
second_of_two true b h = h
second_of_two false b h = cc

two : (a b : Bool) → a ≡ true → b ≡ true → (a && b) ≡ true
two true b h k = k
two false b h k = h

pub edge_is : (x y : Edge) → edge_eq x y ≡ true → x ≡ y
edge_is x y h = exact_edge x y (equal_of (edge_cmp x y) h)

mutual
  branch_is : (b c : Branch) → same_branch b c ≡ true → b ≡ c
  branch_is (branch m bs) (branch n cs) h =
      let marks = (booleans_Decides m n).0 (first_of_two (beq m n) (same_branches bs cs) h) in
      let below = branches_are bs cs (second_of_two (beq m n) (same_branches bs cs) h) in
      λ i. branch (marks i) (below i)

  branches_are : (bs cs : Branches) → same_branches bs cs ≡ true → bs ≡ cs
  branches_are no_branches no_branches h = refl
  branches_are no_branches (leading y c cs) h = cc
  branches_are (leading x b bs) no_branches h = cc
  branches_are (leading x b bs) (leading y c cs) h =
      let here = first_of_two (edge_eq x y && same_branch b c) (same_branches bs cs) h in
      let edges = edge_is x y (first_of_two (edge_eq x y) (same_branch b c) here) in
      let behind = branch_is b c (second_of_two (edge_eq x y) (same_branch b c) here) in
      let more =
      branches_are bs cs (second_of_two (edge_eq x y && same_branch b c) (same_branches bs cs) h) in
      λ i. leading (edges i) (behind i) (more i)

mutual
  branch_itself : (b : Branch) → same_branch b b ≡ true
  branch_itself (branch m bs) =
      two (beq m m) (same_branches bs bs) ((booleans_Decides m m).1 refl) (branches_themselves bs)

  branches_themselves : (bs : Branches) → same_branches bs bs ≡ true
  branches_themselves no_branches = refl
  branches_themselves (leading x b bs) =
      two (edge_eq x x && same_branch b b) (same_branches bs bs)
      (two (edge_eq x x) (same_branch b b) (ap is_eq (tied_itself edge_total x)) (branch_itself b))
      (branches_themselves bs)

pub branch_decides : (b c : Branch) → Decides (same_branch b c) (b ≡ c)
branch_decides b c = (branch_is b c, λ e. ap (same_branch b) (sym e) ∙ branch_itself b)

pub branches_decide : (bs cs : Branches) → Decides (same_branches bs cs) (bs ≡ cs)
branches_decide bs cs = (branches_are bs cs, λ e. ap (same_branches bs) (sym e) ∙ branches_themselves bs)

pub same_roots_equiv : IsEquivalence same_roots
same_roots_equiv = on_equiv branches_of (decided same_branches branches_decide)

pub same_tries_equiv : IsEquivalence same_tries
same_tries_equiv = on_equiv (λ t. branch_at t 0) (decided same_branch branch_decides)

-- a test that decides a fact says it
pub says : {P : Type 0} (b c : Bool) → b ≡ c → Decides c P → IsTrue b ↔ P
says b c e d = (λ h. d.0 (sym e ∙ h), λ p. e ∙ d.1 p)
