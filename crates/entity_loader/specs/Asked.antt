-- What a request asks for.
use Rattle.std.specs.Prelude.{◌≡◌, ℕ, Bool, true, false, List, [], ◌∷◌, map}
use Rattle.std.specs.List.{list_any, AllByRecursion}
use Rattle.access_tries.specs.declared.edge.Edge.{Edge}
use Rattle.access_tries.specs.Edges.{Address}
use Rattle.access_tries.specs.Paths.{edge_of}
use Rattle.access_tries.specs.Table.{Table}
use Rattle.access_tries.specs.Views.{ViewData, view_leads}
use Rattle.reads_spec.specs.Paths.{Step, any_tag, Chain, steps_of}
use Rattle.reads_spec.specs.Restrict.{Keep}

-- whether the trie goes on with the steps
abbrev pub asks : ViewData → List Step → Bool
asks t ns = view_leads t (map edge_of ns)

-- chains of fields along the trie
abbrev pub along : ViewData → Chain → Bool
along t c = asks t (steps_of c)

-- chains of a tag and of fields below it, where the test is the same for each tag
abbrev pub by_tag : (Chain → Bool) → Chain → Bool
by_tag f [] = false
by_tag f (k ∷ c) = f c

-- the attributes, tags and fields along the trie, and no ancestors
abbrev pub asked : ViewData → Keep
asked t = record {
  chains = λ x. along t;
  ancestors = λ x y. false;
  tags = λ x. by_tag (λ c. asks t (any_tag ∷ steps_of c));
}

-- whether some of the nodes leads along the address
abbrev pub some_leads : Table → List ℕ → Address → Bool
some_leads ns is es = list_any (λ i. view_leads (record { nodes = ns; number = i }) es) is

-- whether some of them goes on with the steps
abbrev pub some_asks : Table → List ℕ → List Step → Bool
some_asks ns is steps = some_leads ns is (map edge_of steps)

abbrev pub some_along : Table → List ℕ → Chain → Bool
some_along ns is c = some_asks ns is (steps_of c)

-- the attributes, tags and fields along which some of the nodes leads, and no ancestors
abbrev pub asked_by : Table → List ℕ → Keep
asked_by ns is = record {
  chains = λ x. some_along ns is;
  ancestors = λ x y. false;
  tags = λ x. by_tag (λ c. some_asks ns is (any_tag ∷ steps_of c));
}

-- the nodes to which the edge leads from some of these
pub record AreBelow (e : Edge) (ns : Table) (is js : List ℕ) : Type 0 where
  pub leads : (es : Address) → some_leads ns js es ≡ some_leads ns is (e ∷ es)
  pub there : AllByRecursion (λ j. view_leads (record { nodes = ns; number = j }) [] ≡ true) js
