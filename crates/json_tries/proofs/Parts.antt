-- Branches that are written one by one.
use Rattle.std.proofs.Common.{◌≡◌, ℕ, ◌<◌, ◌+◌, Bool, List, [], ◌∷◌, ◌++◌, length, get_or, take, sym, ap, ◌∙◌}
use Rattle.std.specs.Prelude.{slice_get}
use Rattle.std.proofs.lemmas.List.{append-nil, append_assoc, take_more}
use Rattle.serde_json.specs.Data.{Data}
use Rattle.access_tries.specs.declared.table.Link.{Link}
use Rattle.access_tries.specs.Table.{Table, IsTable, links_at, has_mark}
use Rattle.access_tries.specs.Trees.{Branch, branches_by, branch_at}
use Rattle.access_tries.proofs.Branching.{branch_is}
use Rattle.json_tries.specs.TrieJson.{branch_data, node_data, field_part, tag_part, root_part, fields_data, tags_data, roots_data}

-- each of the three lists gets longer by what the link leads to
pub fields_more : (f : ℕ → Branch) (ls : List Link) (l : Link) → fields_data (branches_by f (ls ++ l ∷ [])) ≡ fields_data (branches_by f ls) ++ field_part l.edge (branch_data (f l.number))
fields_more f [] l = append-nil (field_part l.edge (branch_data (f l.number)))
fields_more f (m ∷ ls) l =
    ap (λ ds. field_part m.edge (branch_data (f m.number)) ++ ds) (fields_more f ls l)
    ∙ sym (append_assoc (field_part m.edge (branch_data (f m.number))) (fields_data (branches_by f ls)) (field_part l.edge (branch_data (f l.number))))

pub tags_more : (f : ℕ → Branch) (ls : List Link) (l : Link) → tags_data (branches_by f (ls ++ l ∷ [])) ≡ tags_data (branches_by f ls) ++ tag_part l.edge (branch_data (f l.number))
tags_more f [] l = append-nil (tag_part l.edge (branch_data (f l.number)))
tags_more f (m ∷ ls) l =
    ap (λ ds. tag_part m.edge (branch_data (f m.number)) ++ ds) (tags_more f ls l)
    ∙ sym (append_assoc (tag_part m.edge (branch_data (f m.number))) (tags_data (branches_by f ls)) (tag_part l.edge (branch_data (f l.number))))

pub roots_more : (f : ℕ → Branch) (ls : List Link) (l : Link) → roots_data (branches_by f (ls ++ l ∷ [])) ≡ roots_data (branches_by f ls) ++ root_part l.edge (branch_data (f l.number))
roots_more f [] l = append-nil (root_part l.edge (branch_data (f l.number)))
roots_more f (m ∷ ls) l =
    ap (λ ds. root_part m.edge (branch_data (f m.number)) ++ ds) (roots_more f ls l)
    ∙ sym (append_assoc (root_part m.edge (branch_data (f m.number))) (roots_data (branches_by f ls)) (root_part l.edge (branch_data (f l.number))))

-- a node is written from where it leads
pub node_is : (ns : Table) → IsTable ns → (i : ℕ) (m : Bool) (fs ts rs : List Data) → m ≡ has_mark (slice_get ns i) → fs ≡ fields_data (branches_by (branch_at ns) (links_at ns i)) → ts ≡ tags_data (branches_by (branch_at ns) (links_at ns i)) → rs ≡ roots_data (branches_by (branch_at ns) (links_at ns i)) → node_data m fs ts rs ≡ branch_data (branch_at ns i)
node_is ns t i m fs ts rs em ef et er =
    ap (λ b. node_data b fs ts rs) em
    ∙ ap (λ ds. node_data (has_mark (slice_get ns i)) ds ts rs) ef
    ∙ ap (λ ds. node_data (has_mark (slice_get ns i)) (fields_data (branches_by (branch_at ns) (links_at ns i))) ds rs) et
    ∙ ap (λ ds. node_data (has_mark (slice_get ns i)) (fields_data (branches_by (branch_at ns) (links_at ns i))) (tags_data (branches_by (branch_at ns) (links_at ns i))) ds) er
    ∙ sym (ap branch_data (branch_is ns t.closed i))

module _ (f : ℕ → Branch) (ls : List Link) (i : ℕ) (l : Link) (h : i < length ls) (is : l ≡ get_or ls i l) (d : Data) (e : d ≡ branch_data (f l.number)) (old new : List Data) where
  next : take (i + 1) ls ≡ take i ls ++ l ∷ []
  next = take_more ls i l h ∙ ap (λ m. take i ls ++ m ∷ []) (sym is)

  pub fields_step : old ≡ fields_data (branches_by f (take i ls)) → new ≡ old ++ field_part l.edge d → new ≡ fields_data (branches_by f (take (i + 1) ls))
  fields_step eo en = en ∙ ap (λ ds. ds ++ field_part l.edge d) eo ∙ ap (λ x. fields_data (branches_by f (take i ls)) ++ field_part l.edge x) e ∙ sym (ap (λ ms. fields_data (branches_by f ms)) next ∙ fields_more f (take i ls) l)

  pub tags_step : old ≡ tags_data (branches_by f (take i ls)) → new ≡ old ++ tag_part l.edge d → new ≡ tags_data (branches_by f (take (i + 1) ls))
  tags_step eo en = en ∙ ap (λ ds. ds ++ tag_part l.edge d) eo ∙ ap (λ x. tags_data (branches_by f (take i ls)) ++ tag_part l.edge x) e ∙ sym (ap (λ ms. tags_data (branches_by f ms)) next ∙ tags_more f (take i ls) l)

  pub roots_step : old ≡ roots_data (branches_by f (take i ls)) → new ≡ old ++ root_part l.edge d → new ≡ roots_data (branches_by f (take (i + 1) ls))
  roots_step eo en = en ∙ ap (λ ds. ds ++ root_part l.edge d) eo ∙ ap (λ x. roots_data (branches_by f (take i ls)) ++ root_part l.edge x) e ∙ sym (ap (λ ms. roots_data (branches_by f ms)) next ∙ roots_more f (take i ls) l)
