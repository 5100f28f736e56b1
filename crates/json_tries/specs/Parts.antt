-- The places of a node, from those of its parts.
use Rattle.std.specs.Prelude.{Bool, List, [], ◌∷◌, ◌++◌, map, Option, Some}
use Rattle.std.specs.declared.vec.Vec.{Vec}
use Rattle.std.specs.declared.alloc.Global.{Global}
use Rattle.json_values.specs.Json.{◌>>=◌}
use Rattle.access_tries.specs.declared.edge.Edge.{Edge}
use Rattle.json_tries.specs.Places.{Place, behind}

-- what vectors of places hold
abbrev pub place_lists : Vec (Vec Place Global) Global → List (List Place)
place_lists vs = map (λ v. v.items) vs.items

-- each list behind its edge
abbrev pub led_places : List Edge → List (List Place) → List Place
led_places [] ps = []
led_places (e ∷ es) [] = []
led_places (e ∷ es) (p ∷ ps) = map (behind e) p ++ led_places es ps

-- the node itself, and then those of its parts
abbrev pub node_places : Option Bool → Option (List Place) →
    Option (List Place) → Option (List Place) → Option (List Place)
node_places mark fields tags roots = do
  m ← mark
  fs ← fields
  ts ← tags
  rs ← roots
  Some (([], m) ∷ (fs ++ (ts ++ rs)))
