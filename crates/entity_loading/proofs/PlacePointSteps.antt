-- Where values lead along addresses that pass a test.
use Rattle.std.proofs.Common.{◌≡◌, ℕ, true, false, ◌&&◌, ◌||◌, List, [], ◌∷◌, Option, Some, None, is_some, refl, ap, ◌∙◌}
use Rattle.std.specs.Prelude.{slice_get}
use Rattle.std.specs.List.{list_any}
use Rattle.std.specs.Map.{values_of}
use Rattle.std.proofs.lemmas.Bool.{and_parts, and_from}
use Rattle.access_tries.specs.Edges.{edge_eq, Address}
use Rattle.access_tries.specs.Table.{Table, NodeData, at_path, has_mark, links_at}
use Rattle.reads_spec.specs.Restrict.{values_in}
use Rattle.plain_lemmas.proofs.Booleans.{and_false, false_by_weaker}
use Rattle.policy_values.specs.declared.entity_uid.EntityUID.{EntityUID}
use Rattle.policy_values.specs.Uid.{uid_eq}
use Rattle.policy_values.specs.Value.{Val, entity, rec, Fields, no_fields, field, fields_of}
use Rattle.entity_loading.specs.Needs.{points, fields_point}
use Rattle.plain_lemmas.proofs.Lists.{any_weaker}

-- nowhere, where no address passes
mutual
  pub points_none : (v : Val) (x : EntityUID) (a : Address) → points v (λ b. false) x a ≡ false
  points_none (entity y) x a = and_false (uid_eq y x)
  points_none (rec fs) x a = fields_point_none fs x a
  points_none v x a = refl

  pub fields_point_none : (fs : Fields) (x : EntityUID) (a : Address) → fields_point fs (λ b. false) x a ≡ false
  fields_point_none no_fields x a = refl
  fields_point_none (field n v fs) x a = ap (λ c. c || fields_point fs (λ b. false) x a) (points_none v x a) ∙ fields_point_none fs x a

pub any_point_none : (vs : List Val) (x : EntityUID) (a : Address) → list_any (λ v. points v (λ b. false) x a) vs ≡ false
any_point_none [] x a = refl
any_point_none (v ∷ vs) x a = ap (λ c. c || list_any (λ w. points w (λ b. false) x a) vs) (points_none v x a) ∙ any_point_none vs x a

-- the values of a map, as values of its fields
pub values_are : (es : List (List ℕ × Val)) → values_of es ≡ values_in (fields_of es)
values_are [] = refl
values_are (e ∷ es) = ap (λ l. e.1 ∷ l) (values_are es)

end_there : (o : Option NodeData) → has_mark o ≡ true → is_some o ≡ true
end_there None h = cc
end_there (Some n) h = refl

-- a marked node is there
pub marks_lead : (ns : Table) (i : ℕ) (a : Address) → at_path has_mark ns i a ≡ true → at_path is_some ns i a ≡ true
marks_lead ns i [] h = end_there (slice_get ns i) h
marks_lead ns i (e ∷ es) h =
    any_weaker (λ l. edge_eq l.edge e && at_path has_mark ns l.number es) (λ l. edge_eq l.edge e && at_path is_some ns l.number es) (links_at ns i)
    (λ l p. let b = and_parts (edge_eq l.edge e) (at_path has_mark ns l.number es) p in and_from (edge_eq l.edge e) (at_path is_some ns l.number es) b.0 (marks_lead ns l.number es b.1)) h

pub no_mark : (ns : Table) (i : ℕ) (a : Address) → at_path is_some ns i a ≡ false → at_path has_mark ns i a ≡ false
no_mark ns i a h = false_by_weaker (at_path has_mark ns i a) (at_path is_some ns i a) (marks_lead ns i a) h
