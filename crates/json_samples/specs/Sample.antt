-- Documents that are made from a number.
use Rattle.std.specs.Prelude.{ℕ, ◌+◌, ◌*◌, ◌-◌, ◌/◌, ◌%◌, ◌^◌, List, [], ◌∷◌, ◌++◌, ◌==◌, if◌then◌else◌, codes, map}
use Rattle.std.specs.Fn.{iterate}
use Rattle.std.specs.Fmt.{decimal}
use Rattle.std.specs.List.{range_with_len, join_with_byte}

-- the state after x
abbrev pub next_state : ℕ → ℕ
next_state x = (x * 6364136223846793005 + 1442695040888963407) % 2 ^ 64

-- the draw number k from the state x, from 0 on: the high half of the state after k + 1 steps
abbrev pub draw : ℕ → ℕ → ℕ
draw x k = iterate next_state (k + 1) x / 2 ^ 32

-- the user number i with a level and a manager, both of them by number, in a group
unfoldable pub user_text : ℕ → ℕ → ℕ → ℕ → List ℕ
user_text i level manager group = codes "{\"id\":[\"User\",\"u" ++ (decimal i ++
    (codes "\"],\"attrs\":{\"level\":" ++ (decimal level ++ (codes ",\"manager\":{\"id\":[\"User\",\"u" ++
    (decimal manager ++ (codes "\"]}},\"parents\":[[\"Group\",\"g" ++ (decimal group ++ codes "\"]]}")))))))

-- the user number i of size users, with three draws from the state x
abbrev pub drawn_user : ℕ → ℕ → ℕ → List ℕ
drawn_user x size i = user_text i (draw x 2 % 100) (draw x 1 % size) (draw x 0 % 10)

-- so many users, the first drawn from the seed and each other from where the one before it ended
unfoldable pub users_text : ℕ → ℕ → ℕ → List ℕ
users_text seed size n =
    join_with_byte 44 (map (λ i. drawn_user (iterate next_state (3 * i) seed) size i) (range_with_len 0 n))

-- what stands before the user number i
abbrev pub comma : ℕ → List ℕ
comma i = if i == 0 then [] else 44 ∷ []

-- users in groups, each with a level and a manager
unfoldable pub sample_schema : List ℕ
sample_schema = codes "{\"schema\":{\"entityTypes\":{\"Group\":{},\"User\":{\"memberOf\":[\"Group\"],\"attributes\":{\"level\":\"Long\",\"manager\":{\"entity\":\"User\"}}}},\"actions\":[{\"id\":[\"Action\",\"view\"],\"principals\":[\"User\"],\"resources\":[\"User\"]}]}"

-- p0 permits what principal.manager.level <= resource.level; p1 forbids the users in one group
unfoldable pub sample_policies : List ℕ
sample_policies = codes ",\"policies\":[{\"id\":\"p0\",\"effect\":\"permit\",\"body\":[{\"when\":{\"<=\":[{\"get\":[{\"var\":\"principal\"},\"manager\",\"level\"]},{\"get\":[{\"var\":\"resource\"},\"level\"]}]}}]},{\"id\":\"p1\",\"effect\":\"forbid\",\"principal\":{\"in\":[\"Group\",\"g0\"]}}]"

-- the first user asks to view another
unfoldable pub sample_request : ℕ → List ℕ
sample_request other =
    codes ",\"request\":{\"principal\":[\"User\",\"u0\"],\"action\":[\"Action\",\"view\"],\"resource\":[\"User\",\"u" ++
    (decimal other ++ codes "\"],\"context\":{}}")

-- the document of a seed with size users: the first asks to view the last
abbrev pub sample_document : ℕ → ℕ → List ℕ
sample_document seed size = sample_schema ++ sample_policies ++ sample_request (size - 1) ++
    codes ",\"entities\":[" ++ users_text seed size size ++ codes "]}"
