-- Steps of the first requests.
use Rattle.std.proofs.Common.{◌≡◌, ◌⊎◌, ℕ, Bool, true, [], ◌∷◌, map, inl, inr, arith, is_some}
use Rattle.std.specs.declared.option.Option.{Option}
use Rattle.policy_values.specs.Value.{Val, truth, long, string, entity, set, rec, decimal, ip, datetime, duration, Fields, no_fields, field}
use Rattle.entity_store.specs.declared.request.Request.{Request}
use Rattle.access_tries.specs.declared.edge.Edge.{Edge}
use Rattle.access_tries.specs.declared.edge.Edge.TheVariants.{Field, AnyTag, Root}
use Rattle.access_tries.specs.Edges.{Address}
use Rattle.access_tries.specs.Paths.{edge_of}
use Rattle.access_tries.specs.Table.{Table, NodeData, at_path, has_mark}
use Rattle.access_tries.specs.Views.{whole}
use Rattle.reads_spec.specs.Restrict.{root_value}
use Rattle.entity_loading.specs.declared.place.Place.{Place}
use Rattle.entity_loading.specs.Begun.{IsFirst, IsRoot, RootBlocks, SomeRootBlocks}
use Rattle.entity_loading.specs.Places.{IsAtOrBelow}
use Rattle.entity_loading.specs.CannotGoOn.{Tests, tests_of, behind, GoesOn, Demands, Sticks, FieldsBlock}

-- ---- more tests

pub record IsLess (t u : Tests) : Type 0 where
  pub leads : (a : Address) → t.leads a ≡ true → u.leads a ≡ true
  pub marks : (a : Address) → t.marks a ≡ true → u.marks a ≡ true

demands_more : (t u : Tests) → IsLess t u → Demands t → Demands u
demands_more t u l (r, ns, h) = (r, ns, l.marks (Root r ∷ map edge_of ns) h)

ends_more : (t u : Tests) → IsLess t u → GoesOn t ⊎ Demands t → GoesOn u ⊎ Demands u
ends_more t u l (inl (n, h)) = inl (n, l.leads (edge_of n ∷ []) h)
ends_more t u l (inr d) = inr (demands_more t u l d)

less_behind : (e : Edge) (t u : Tests) → IsLess t u → IsLess (behind e t) (behind e u)
less_behind e t u l = record { leads = λ a. l.leads (e ∷ a); marks = λ a. l.marks (e ∷ a) }

mutual
  pub blocks_more : (v : Val) (t u : Tests) → IsLess t u → (w : Val) → Sticks v t w → Sticks v u w
  blocks_more (entity y) t u l w h = h
  blocks_more (rec fs) t u l w (inl (e, d)) = inl (e, demands_more t u l d)
  blocks_more (rec fs) t u l w (inr h) = inr (fields_block_more fs t u l w h)
  blocks_more (truth b) t u l w (e, h) = (e, ends_more t u l h)
  blocks_more (long b) t u l w (e, h) = (e, ends_more t u l h)
  blocks_more (string b) t u l w (e, h) = (e, ends_more t u l h)
  blocks_more (set b) t u l w (e, h) = (e, ends_more t u l h)
  blocks_more (decimal b) t u l w (e, h) = (e, ends_more t u l h)
  blocks_more (ip b) t u l w (e, h) = (e, ends_more t u l h)
  blocks_more (datetime b) t u l w (e, h) = (e, ends_more t u l h)
  blocks_more (duration b) t u l w (e, h) = (e, ends_more t u l h)

  pub fields_block_more : (fs : Fields) (t u : Tests) → IsLess t u → (w : Val) → FieldsBlock fs t w → FieldsBlock fs u w
  fields_block_more no_fields t u l w h = h
  fields_block_more (field n v fs) t u l w (inl h) = inl (blocks_more v (behind (Field n) t) (behind (Field n) u) (less_behind (Field n) t u l) w h)
  fields_block_more (field n v fs) t u l w (inr h) = inr (fields_block_more fs t u l w h)

-- ---- an edge

module _ (ns : Table) (number : ℕ) (e : Edge) (leads_on : (f : Option NodeData → Bool) (es : Address) → at_path f ns number es ≡ true → at_path f ns 0 (e ∷ es) ≡ true) where
  below_edge : IsLess (tests_of (record { nodes = ns; number = number })) (behind e (tests_of (whole ns)))
  below_edge = record { leads = leads_on is_some; marks = leads_on has_mark }

  of_root : (q : Request) (u : Val) (d : Edge) → IsLess (tests_of (record { nodes = ns; number = number })) (behind d (tests_of (whole ns))) → RootBlocks q d (tests_of (record { nodes = ns; number = number })) u → SomeRootBlocks ns q u
  of_root q u (Root r) l h = (r, blocks_more (root_value q r) _ _ l u h)
  of_root q u (Field n) l h = absurd h
  of_root q u AnyTag l h = absurd h

  pub root_blocks : (q : Request) (u : Val) → RootBlocks q e (tests_of (record { nodes = ns; number = number })) u → SomeRootBlocks ns q u
  root_blocks q u h = of_root q u e below_edge h

  at_root : (p : Place) (d : Edge) → ((f : Option NodeData → Bool) (es : Address) → at_path f ns number es ≡ true → at_path f ns 0 (d ∷ es) ≡ true) → IsRoot d → IsAtOrBelow (record { nodes = ns; number = number }) p → IsFirst ns p
  at_root p (Root r) l h b = record { there = b.there; allows = λ n within. b.allows n 0 (λ ms k. let short = within r ms (l is_some (map edge_of ms) k) in omega (arith, short)) }
  at_root p (Field n) l h b = absurd h
  at_root p AnyTag l h b = absurd h

  pub first_at : (p : Place) → IsRoot e × IsAtOrBelow (record { nodes = ns; number = number }) p → IsFirst ns p
  first_at p h = at_root p e leads_on h.0 h.1
