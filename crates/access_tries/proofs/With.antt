-- What a node of another table adds to a table.
use Rattle.std.proofs.Common.{◌≡◌, ℕ, ◌<◌, ◌≤◌, ◌||◌, [], length, is_some, refl, sym, ap, ◌∙◌}
use Rattle.access_tries.specs.Edges.{Address}
use Rattle.access_tries.specs.Table.{Table, at_path, has_mark}
use Rattle.access_tries.specs.Views.{IsWith}
use Rattle.access_tries.proofs.Unions.{past, at_end}
use Rattle.access_tries.proofs.Addresses.{none_in}

-- past the end one number is as good as another
pub with_end : (old b new : Table) (i : ℕ) → length b ≤ i → IsWith old (record { nodes = b; number = length b }) new → IsWith old (record { nodes = b; number = i }) new
with_end old b new i h w = record {
  paths = λ es. w.paths es ∙ ap (λ t. at_path is_some old 0 es || t) (sym (at_end is_some b i es h));
  marks = λ es. w.marks es ∙ ap (λ t. at_path has_mark old 0 es || t) (sym (at_end has_mark b i es h));
}

-- nothing is added to nothing
pub with_nothing : (old b : Table) (i : ℕ) → length old < 1 → length b ≤ i → IsWith old (record { nodes = b; number = i }) []
with_nothing old b i h k =
    rw (none_in old h)
    (record {
      paths = λ es. past is_some [] es refl ∙ (λ j. sym (past is_some [] es refl) j || sym (at_end is_some b i es k ∙ past is_some b es refl) j);
      marks = λ es. past has_mark [] es refl ∙ (λ j. sym (past has_mark [] es refl) j || sym (at_end has_mark b i es k ∙ past has_mark b es refl) j);
    })

-- a table whose first node holds what both nodes do
pub with_united : (old b new : Table) (i n : ℕ) → n ≡ 0
    → ((es : Address) → at_path is_some new n es ≡ (at_path is_some old 0 es || at_path is_some b i es))
    → ((es : Address) → at_path has_mark new n es ≡ (at_path has_mark old 0 es || at_path has_mark b i es))
    → IsWith old (record { nodes = b; number = i }) new
with_united old b new i n is present marked = record {
  paths = λ es. ap (λ k. at_path is_some new k es) (sym is) ∙ present es;
  marks = λ es. ap (λ k. at_path has_mark new k es) (sym is) ∙ marked es;
}
