-- Values of maps, and nodes without tags.
use Rattle.std.proofs.Common.{◌≡◌, ℕ, Bool, true, false, ◌&&◌, ◌||◌, ◌⊎◌, inl, inr, List, [], ◌∷◌, Option, Some, None, is_some, refl, ap}
use Rattle.std.specs.BTreeMap.{BTreeMap}
use Rattle.std.specs.Map.{values_of}
use Rattle.std.specs.declared.vec.Vec.{Vec}
use Rattle.std.specs.declared.alloc.Global.{Global}
use Rattle.std.specs.Prelude.{slice_get}
use Rattle.std.proofs.lemmas.Bool.{and_parts, and_from}
use Rattle.plain_lemmas.proofs.Booleans.{false_by_weaker, or_left_true, or_right_true}
use Rattle.policy_values.specs.declared.entity_uid.EntityUID.{EntityUID}
use Rattle.entity_store.specs.Store.{Store}
use Rattle.reads_spec.specs.Paths.{Step}
use Rattle.reads_spec.specs.Restrict.{names_id, step, values_in}
use Rattle.policy_values.specs.Value.{Val, fields_of}
use Rattle.policy_values.specs.ValueView.{val_of}
use Rattle.policy_values.specs.declared.value.Value.{Value}
use Rattle.policy_values.specs.declared.value.ValueKind.{ValueKind}
use Rattle.policy_values.specs.declared.value.ValueKind.TheVariants as kind
use Rattle.access_tries.specs.declared.edge.Edge.{Edge}
use Rattle.access_tries.specs.Edges.{Address, edge_eq}
use Rattle.access_tries.specs.Table.{Table, NodeData, at_path, has_mark, links_at}
use Rattle.access_tries.specs.Views.{ViewData, view_marks, LeadsNowhere}
use Rattle.plain_lemmas.proofs.Lists.{any_weaker}

-- the values of a map, as values of its fields
pub values_are : (es : List (List ℕ × Val)) → values_of es ≡ values_in (fields_of es)
values_are [] = refl
values_are (e ∷ es) = ap (λ l. e.1 ∷ l) (values_are es)

or_both : (a b c d : Bool) → (a ≡ true → c ≡ true) → (b ≡ true → d ≡ true) → (a ≡ true) ⊎ (b ≡ true) → (c || d) ≡ true
or_both a b c d f g (inl h) = or_left_true c d (f h)
or_both a b c d f g (inr h) = or_right_true c d (g h)

end_there : (o : Option NodeData) → has_mark o ≡ true → is_some o ≡ true
end_there None h = cc
end_there (Some n) h = refl

-- a marked node is there
marks_lead : (ns : Table) (i : ℕ) (a : Address) → at_path has_mark ns i a ≡ true → at_path is_some ns i a ≡ true
marks_lead ns i [] h = end_there (slice_get ns i) h
marks_lead ns i (e ∷ es) h =
    any_weaker (λ l. edge_eq l.edge e && at_path has_mark ns l.number es) (λ l. edge_eq l.edge e && at_path is_some ns l.number es) (links_at ns i)
    (λ l p. let b = and_parts (edge_eq l.edge e) (at_path has_mark ns l.number es) p in and_from (edge_eq l.edge e) (at_path is_some ns l.number es) b.0 (marks_lead ns l.number es b.1)) h

-- behind an edge that leads nowhere nothing is marked
pub no_mark_behind : (e : Edge) (v : ViewData) → LeadsNowhere e v → (a : Address) → view_marks v (e ∷ a) ≡ false
no_mark_behind e v h a = false_by_weaker (at_path has_mark v.nodes v.number (e ∷ a)) (at_path is_some v.nodes v.number (e ∷ a)) (marks_lead v.nodes v.number (e ∷ a)) (h a)

-- a value of which no other is found, and that is neither an id nor a set
pub plain : (k : ValueKind) → ((x : EntityUID) → k ≡ kind.EntityUID x → ⊥) → ((m : Vec Value Global) → k ≡ kind.Set m → ⊥) → ((m : BTreeMap (List ℕ) Val) → k ≡ kind.Record m → ⊥)
    → (s : Store) (y : EntityUID) → (names_id y (val_of k) ≡ false) × ((n : Step) → step s (val_of k) n ≡ [])
plain (kind.EntityUID x) f g h s y = absurd (f x refl)
plain (kind.Set m) f g h s y = absurd (g m refl)
plain (kind.Record m) f g h s y = absurd (h m refl)
plain (kind.Bool b) f g h s y = (refl, λ n. refl)
plain (kind.Long b) f g h s y = (refl, λ n. refl)
plain (kind.String b) f g h s y = (refl, λ n. refl)
plain (kind.Decimal b) f g h s y = (refl, λ n. refl)
plain (kind.IpAddr b) f g h s y = (refl, λ n. refl)
plain (kind.DateTime b) f g h s y = (refl, λ n. refl)
plain (kind.Duration b) f g h s y = (refl, λ n. refl)
