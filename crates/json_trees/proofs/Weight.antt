-- How much a tree holds.
use Rattle.std.proofs.Common.{ℕ, ◌+◌, ◌≤◌, arith}
use Rattle.json.specs.Json.{Json, null, boolean, number, string, array, object, Items, no_items, item, Members, no_members, member}

-- the number of the values in it
abbrev mutual
  pub weight : Json → ℕ
  weight null = 1
  weight (boolean b) = 1
  weight (number s) = 1
  weight (string s) = 1
  weight (array js) = items_weight js + 1
  weight (object ms) = members_weight ms + 1

  pub items_weight : Items → ℕ
  items_weight no_items = 1
  items_weight (item j js) = weight j + items_weight js

  pub members_weight : Members → ℕ
  members_weight no_members = 1
  members_weight (member k j ms) = weight j + members_weight ms

pub one-le-members_weight : (ms : Members) → 1 ≤ members_weight ms
one-le-members_weight no_members = omega arith
one-le-members_weight (member k j ms) = omega (arith, one-le-members_weight ms)

pub one-le-items_weight : (js : Items) → 1 ≤ items_weight js
one-le-items_weight no_items = omega arith
one-le-items_weight (item j js) = omega (arith, one-le-items_weight js)
